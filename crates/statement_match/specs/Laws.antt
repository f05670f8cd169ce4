-- Laws of the outcomes for the lines of a statement.
use Rattle.std.specs.Prelude.{◌≡◌, ◌≢◌, ◌↔◌, ℕ, ◌<◌, ◌≤◌, true, false, List, [], ◌∷◌, ◌++◌, length}
use Rattle.std.specs.Prelude.{slice_index_or, Some, find}
use Rattle.std.specs.List.{Contains, count_by}
use Rattle.trust_base.specs.declared.line.Line.{Line}
use Rattle.statement_lines.specs.Waiting.{Waiting}
use Rattle.statement_lines.specs.Showing.{fits}
use Rattle.statement_lines.specs.Held.{Held}
use Rattle.statement_lines.specs.OpenLines.{is_claimed, is_open, is_open_fit}
use Rattle.statement_lines.specs.declared.line_outcome.LineOutcome.{LineOutcome}
use Rattle.statement_lines.specs.declared.line_outcome.LineOutcome.TheVariants as outcome
use Rattle.statement_match.specs.Rule.{becomes, is_beside_booked, is_doubled, is_in_book}

-- What is written.

-- the line with this reference
abbrev pub with_reference : List ℕ → Line → Line
with_reference reference line = record line { reference = reference }

-- what is written of a line: nothing if it is in the book already, doubled or left
abbrev pub written_as : Line → LineOutcome → List Line
written_as line outcome.AsItIs = line ∷ []
written_as line outcome.InBook = []
written_as line outcome.Doubled = []
written_as line (outcome.Filled reference) = with_reference reference line ∷ []
written_as line outcome.Left = []

-- what is written of the lines of a statement, in order; the whole statement is `all`
abbrev pub written_of : ℕ → Held → List Line → List Line → List Line
written_of today held all [] = []
written_of today held all (line ∷ lines) =
    written_as line (becomes today held all line) ++ written_of today held all lines

abbrev pub written : ℕ → Held → List Line → List Line
written today held lines = written_of today held lines lines

-- When a line is filled.

-- the line has no reference, none of the earlier cases applies, the book has no line beside it, it fits this entry and
-- no other, no other open line fits the entry, and no record has the entry's reference
pub record IsSure (today : ℕ) (held : Held) (lines : List Line) (line : Line) (w : Waiting) : Type 0 where
  pub nameless : is_open line ≡ true
  pub new : is_in_book held lines line ≡ false
  pub single : is_doubled held lines line ≡ false
  pub apart : is_beside_booked held line ≡ false
  pub fits_one : count_by (fits today line) held.waiting ≡ 1
  pub fits_it : find (fits today line) held.waiting ≡ Some w
  pub fitted_once : count_by (is_open_fit today w) lines ≡ 1
  pub unclaimed : is_claimed lines w.reference ≡ false

-- a line is filled with an entry exactly if it is sure of the entry
abbrev pub FillsWhatIsSure : Type 0
FillsWhatIsSure =
    (today : ℕ) (held : Held) (lines : List Line) (line : Line) (reference : List ℕ)
    → (becomes today held lines line ≡ outcome.Filled reference)
    ↔ ((w : Waiting) × IsSure today held lines line w × (reference ≡ w.reference))

-- the output has the lines with a reference, each unchanged, and those without one that are sure of an entry, each with
-- the reference of that entry; in order. The whole statement is `all`.
pub data AreWritten (today : ℕ) (held : Held) (all : List Line) : List Line → List Line → Type 0 where
  None_left : AreWritten today held all [] []
  Kept : (line : Line) (lines out : List Line) → is_open line ≡ false → AreWritten today held all lines out
      → AreWritten today held all (line ∷ lines) (line ∷ out)
  Named : (w : Waiting) (line : Line) (lines out : List Line) → IsSure today held all line w
      → AreWritten today held all lines out
      → AreWritten today held all (line ∷ lines) (with_reference w.reference line ∷ out)
  LeftOut : (line : Line) (lines out : List Line) → is_open line ≡ true
      → ((w : Waiting) → IsSure today held all line w → ⊥) → AreWritten today held all lines out
      → AreWritten today held all (line ∷ lines) out

-- only references change, and only where a line is sure of an entry
abbrev pub OnlyReferencesChange : Type 0
OnlyReferencesChange =
    (today : ℕ) (held : Held) (lines : List Line) → AreWritten today held lines lines (written today held lines)

-- a line without a reference of its own is written exactly if it is sure of an entry, and with the reference of that
abbrev pub WritesWhatIsSure : Type 0
WritesWhatIsSure =
    (today : ℕ) (held : Held) (lines : List Line) (line x : Line) → is_open line ≡ true
    → Contains (written_as line (becomes today held lines line)) x
    ↔ ((w : Waiting) × IsSure today held lines line w × (x ≡ with_reference w.reference line))

-- a line is filled with an entry that waits and that the line fits
abbrev pub FillsWithWaiting : Type 0
FillsWithWaiting =
    (today : ℕ) (held : Held) (lines : List Line) (line : Line) (reference : List ℕ)
    → becomes today held lines line ≡ outcome.Filled reference
    → (w : Waiting) × Contains held.waiting w × (fits today line w ≡ true) × (w.reference ≡ reference)

-- Lookalikes are never filled.

-- a line that two entries fit is not filled
abbrev pub TwoEntriesAreLeft : Type 0
TwoEntriesAreLeft =
    (today : ℕ) (held : Held) (lines : List Line) (line : Line) (reference : List ℕ)
    → 2 ≤ count_by (fits today line) held.waiting → becomes today held lines line ≢ outcome.Filled reference

-- a line that fits an entry which another open line fits is not filled
abbrev pub TwoLinesAreLeft : Type 0
TwoLinesAreLeft =
    (today : ℕ) (held : Held) (lines : List Line) (line : Line) (reference : List ℕ) (w : Waiting)
    → Contains held.waiting w → fits today line w ≡ true → 2 ≤ count_by (is_open_fit today w) lines
    → becomes today held lines line ≢ outcome.Filled reference

-- No entry is named twice.

-- no two entries have the same reference
abbrev pub AreNamedApart : List Waiting → Type 0
AreNamedApart waiting =
    (w v : Waiting) → Contains waiting w → Contains waiting v → w.reference ≡ v.reference → w ≡ v

-- the reference that a line is filled with is not on any other line that is written
abbrev pub NoneIsNamedTwice : Type 0
NoneIsNamedTwice =
    (today : ℕ) (held : Held) (lines : List Line) (i k : ℕ) (d x : Line) (reference : List ℕ)
    → AreNamedApart held.waiting → i < length lines → k < length lines → i ≢ k
    → becomes today held lines (slice_index_or lines i d) ≡ outcome.Filled reference
    → Contains (written_as (slice_index_or lines k d) (becomes today held lines (slice_index_or lines k d))) x
    → x.reference ≢ reference

-- What other matters have can only take a filling away.

-- some of the elements of a list, in their order
pub data IsPart {A : Type 0} : List A → List A → Type 0 where
  NoneOf : IsPart [] []
  With : (x : A) (some all : List A) → IsPart some all → IsPart (x ∷ some) (x ∷ all)
  Without : (x : A) (some all : List A) → IsPart some all → IsPart some (x ∷ all)

-- some of the waiting entries, and some of the booked lines
pub record HasLess (less more : Held) : Type 0 where
  pub waiting : IsPart less.waiting more.waiting
  pub bookings : IsPart less.bookings more.bookings

-- if a line is filled, and fits one of the waiting entries of `less`, it is filled with the same reference over `less`
abbrev pub MoreOnlyTakesAway : Type 0
MoreOnlyTakesAway =
    (today : ℕ) (less more : Held) (lines : List Line) (line : Line) (reference : List ℕ) (w : Waiting)
    → HasLess less more → Contains less.waiting w → fits today line w ≡ true
    → becomes today more lines line ≡ outcome.Filled reference
    → becomes today less lines line ≡ outcome.Filled reference
