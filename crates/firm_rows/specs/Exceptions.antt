-- The exceptions are a set of whole lines.
use Rattle.std.specs.Prelude.{◌≡◌, ◌≢◌, ◌↔◌, ◌⊎◌, List}
use Rattle.std.specs.List.{Contains}
use Rattle.std.specs.List.Sorted.{IsStrictlySortedBy}
use Rattle.trust_base.specs.LineOrder.{line_cmp}
use Rattle.trust_base.specs.declared.line.Line.{Line}
use Rattle.firm_rows.specs.Firm.{with_line, without_line}

-- a list with one more line contains that line and what it contained before, and nothing else
abbrev pub WithLineAdds : Type 0
WithLineAdds = (line x : Line) (lines : List Line) → Contains (with_line line lines) x ↔ ((x ≡ line) ⊎ Contains lines x)

-- a list without a line contains what it contained before, except that line
abbrev pub WithoutLineTakes : Type 0
WithoutLineTakes =
    (line x : Line) (lines : List Line) → Contains (without_line line lines) x ↔ (Contains lines x × (x ≢ line))

-- in a sorted list, adding a line that is already there changes nothing
abbrev pub WithLineAgain : Type 0
WithLineAgain =
    (line : Line) (lines : List Line) → IsStrictlySortedBy line_cmp lines → Contains lines line
    → with_line line lines ≡ lines
