-- What the reasons for the lines of a statement are based on.
use Rattle.std.specs.Prelude.{◌≡◌, ℕ, ℤ, ◌+◌, ◌==◌, List, [], ◌∷◌, map, slice_index}
use Rattle.std.specs.List.{filter}
use Rattle.trust_base.specs.declared.line.Line.{Line}
use Rattle.statement_lines.specs.Keys.{amount_key, entry_key, reference_key, text_key}
use Rattle.statement_lines.specs.Known.{Known}
use Rattle.statement_lines.specs.Lookups.{IsLookup, elements}
use Rattle.statement_lines.specs.Marks.{is_shown}
use Rattle.statement_lines.specs.Records.{Records}
use Rattle.statement_lines.specs.Relations.{stands}
use Rattle.statement_lines.specs.Sides.{Sides}
use Rattle.statement_lines.specs.declared.book_entry.BookEntry.{BookEntry}
use Rattle.statement_lines.specs.declared.relation.Relation.{Relation}
use Rattle.statement_match.specs.DaySums.{day_with, first_day}
use denote.Ref.{Bor}

pub record Grounds : Type 0 where
  pub known : Known
  pub records : Records

-- the lines, each with the number of its record; the first line has this place
unfoldable pub numbered : List ℕ → ℕ → List Line → List (ℕ × Line)
numbered numbers place [] = []
numbered numbers place (line ∷ lines) =
    (slice_index numbers place, line) ∷ numbered numbers (place + 1) lines

-- the pairs without borrows
abbrev pub plain_pairs : List (ℕ × Bor Line) → List (ℕ × Line)
plain_pairs pairs = map {B = ℕ × Line} (λ pair. (pair.0, pair.1.now)) pairs

abbrev pub AreNumbered : Records → List (ℕ × Bor Line) → Type 0
AreNumbered records pairs = plain_pairs pairs ≡ numbered records.numbers 0 records.lines

abbrev pub numbered_key : ℕ × Bor Line → ℕ
numbered_key pair = amount_key pair.1.now

-- both sides of the rule, the entries and the exceptions belong to what is known, and the lines can be looked up by
-- amount
pub record AreGrounds
    (known : Known) (records : Records) (sides : Sides) (entries : List BookEntry) (exceptions : List Line)
    (pairs : List (ℕ × Bor Line)) (amounts : List (ℕ × Bor (ℕ × Bor Line))) (sums : List (ℕ × ℤ)) : Type 0 where
  pub same_sides : sides ≡ record { held = known.held; lines = records.lines }
  pub same_entries : entries ≡ known.entries
  pub same_exceptions : exceptions ≡ known.exceptions
  pub are_numbered : AreNumbered records pairs
  pub amounts_found : IsLookup numbered_key pairs amounts
  pub sums_found : (amount : ℤ) → day_with amount sums ≡ first_day amount known.entries

-- What the reasons for one line are based on.

pub record LineGrounds : Type 0 where
  pub known : Known
  pub records : Records
  pub line : Line

-- the entries of the line's amount, those that may have its reference, and those that it may show
pub record AreOfLine
    (grounds : Grounds) (line : Line) (of_amount named shown : List (ℕ × Bor BookEntry)) : Type 0 where
  pub amount_found : elements of_amount ≡ filter (λ e. entry_key e == amount_key line) grounds.known.entries
  pub named_found : elements named ≡ filter (λ e. reference_key e == text_key 0 line.reference) grounds.known.entries
  pub shown_found : filter (is_shown line) (elements shown) ≡ filter (is_shown line) grounds.known.entries

-- all entries in this relation to the line are among those found, in order
abbrev pub AreCandidates : Relation → Line → List BookEntry → List (ℕ × Bor BookEntry) → Type 0
AreCandidates r line entries found =
    (today : ℕ) → filter (stands r today line) (elements found) ≡ filter (stands r today line) entries
