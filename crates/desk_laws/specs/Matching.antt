-- What an import does with the lines that a match writes for a bank's own file.
use Rattle.std.specs.Prelude.{◌≡◌, ◌≢◌, ℕ, ◌+◌, ◌<◌, true, List, [], ◌∷◌, ◌++◌, length}
use Rattle.std.specs.List.{Contains}
use Rattle.trust_base.specs.declared.line.Line.{Line}
use Rattle.firm_rows.specs.Firm.{Firm}
use Rattle.firm_rows.specs.FirmSound.{FirmSound}
use Rattle.statement_csv.specs.Items.{item_of_line}
use Rattle.statement_csv.specs.declared.item.Item.{Item}
use Rattle.statement_match.specs.Books.{held_of}
use Rattle.statement_match.specs.FirmLaws.{HasMatterNumbers}
use Rattle.statement_match.specs.Laws.{written, written_as}
use Rattle.statement_match.specs.Rule.{becomes, is_open}
use Rattle.statement_lines.specs.declared.line_outcome.LineOutcome.TheVariants as outcome
use Rattle.trust_desk.specs.declared.importing.Counted.TheVariants as counted
use Rattle.trust_desk.specs.ItemStep.{after_items, counted_of}

-- the items of lines; the first is in the record with this number
abbrev pub items_of : ℕ → List Line → List Item
items_of number [] = []
items_of number (line ∷ lines) = item_of_line number line ∷ items_of (number + 1) lines

-- Each line that is written and had no reference of its own is applied if the output is imported on the same day into
-- the sound firm over which it was matched, whatever was written before it and whatever became of that. The line has a
-- bank reference.
abbrev pub FilledLinesAreApplied : Type 0
FilledLinesAreApplied =
    (today : ℕ) (firm : Firm) (lines front rest : List Line) (line x : Line)
    → FirmSound firm → HasMatterNumbers firm → Contains lines line → is_open line ≡ true → 0 < length line.bank_ref
    → Contains (written_as line (becomes today (held_of firm) lines line)) x
    → written today (held_of firm) lines ≡ front ++ x ∷ rest
    → counted_of today (after_items today firm (items_of 1 front)) (item_of_line (length front + 1) x)
    ≡ counted.Applied

-- Such a line is in the book already if the same lines are matched again after that import, on any day.
abbrev pub FilledLinesAreInBook : Type 0
FilledLinesAreInBook =
    (today later : ℕ) (firm : Firm) (lines : List Line) (line x : Line)
    → FirmSound firm → HasMatterNumbers firm → Contains lines line → is_open line ≡ true → 0 < length line.bank_ref
    → Contains (written_as line (becomes today (held_of firm) lines line)) x
    → becomes later (held_of (after_items today firm (items_of 1 (written today (held_of firm) lines)))) lines line
    ≡ outcome.InBook

-- no line has a reference, and each has a bank reference
pub record AreNameless (lines : List Line) : Type 0 where
  pub opened : (line : Line) → Contains lines line → is_open line ≡ true
  pub from_bank : (line : Line) → Contains lines line → 0 < length line.bank_ref

-- None of these lines is filled if they are matched again after that import, on the same day: those that were filled
-- are in the book, and what the others fit still waits.
abbrev pub SecondMatchFillsNothing : Type 0
SecondMatchFillsNothing =
    (today : ℕ) (firm : Firm) (lines : List Line) (line : Line) (reference : List ℕ)
    → FirmSound firm → HasMatterNumbers firm → AreNameless lines → Contains lines line
    → becomes today (held_of (after_items today firm (items_of 1 (written today (held_of firm) lines)))) lines line
    ≢ outcome.Filled reference
