-- A list of complete matters, by number, and the joined rows that they stand for; and a sorted list of exceptions.
use Rattle.std.specs.Prelude.{ℕ, suc, ◌≡◌, ◌<◌, ◌≤◌, ◌==◌, nat_lt, List, [], ◌∷◌, ◌++◌, length, Option, Some, None, Result, Ok, Err, if◌then◌else◌, slice_get}
use Rattle.std.specs.List.{AllByRecursion, insert, remove}
use Rattle.trust_base.specs.declared.line.Line.{Line}
use Rattle.matter_parts.specs.declared.kept.Kept as matter
use Rattle.matter_rows.specs.Rows.{Rows, unopened}
use Rattle.matter_rows.specs.Sound.{Sound}
use Rattle.matter_parts.specs.Parts.{Part, IsWhole, entries_kept}
use Rattle.firm_rows.specs.declared.movement.Movement.{Movement}
use Rattle.firm_rows.specs.declared.ledger.FirmLine.{FirmLine}
use Rattle.firm_rows.specs.declared.ledger.BalanceRow.{BalanceRow}
use Rattle.firm_rows.specs.Firm.{Row, EntryRow, Firm, pairs, with_line, without_line, with_trail}
use Rattle.firm_rows.specs.FirmSound.{FirmSound}
use Rattle.trust_store.specs.declared.all_rows.AllRows.{AllRows}
use Rattle.trust_store.specs.declared.plain.KeptMatter.{KeptMatter}

-- the rows of a matter with all its entries loaded
abbrev pub rows_kept : Part → Rows
rows_kept part = record { head = part.head; seats = part.seats; entries = entries_kept part.kept }

-- the rows of all matters, joined
abbrev pub joined : List KeptMatter → List (ℕ × Row)
joined [] = []
joined (k ∷ ks) = pairs k.number (rows_kept k.matter) ++ joined ks

-- loaded entries as rows of a matter
abbrev pub kept_pairs : ℕ → List matter.Kept → List (ℕ × Row)
kept_pairs m [] = []
kept_pairs m (k ∷ ks) = (m, EntryRow k.number k.entry) ∷ kept_pairs m ks

-- Their order.

-- the number is lower than each of theirs
abbrev pub IsBefore : ℕ → List KeptMatter → Type 0
IsBefore m [] = Unit {0}
IsBefore m (k ∷ ks) = (m < k.number) × IsBefore m ks

-- sorted by number, each once
abbrev pub Ascends : List KeptMatter → Type 0
Ascends [] = Unit {0}
Ascends (k ∷ ks) = IsBefore k.number ks × Ascends ks

-- a sound matter with all its entries
pub record IsKeptWhole (k : KeptMatter) : Type 0 where
  pub whole : IsWhole k.matter (rows_kept k.matter)
  pub sound : Sound (rows_kept k.matter)

-- sound matters with all their entries, sorted by number, each once
pub record AreKeptWhole (ks : List KeptMatter) : Type 0 where
  pub ascends : Ascends ks
  pub whole : AllByRecursion IsKeptWhole ks

-- the firm that has these matters, movements, lines of its own, exceptions and balances, and no trail
abbrev pub firm_of : List KeptMatter → List Movement → List FirmLine → List Line → List BalanceRow → Firm
firm_of ks movements own lines balances = record {
  rows = joined ks;
  movements = movements;
  firm_lines = own;
  exceptions = lines;
  balances = balances;
  acts = [];
  dismissals = [];
}

-- the firm that has all the rows that were read
abbrev pub firm_of_all : AllRows → Firm
firm_of_all rows =
    with_trail rows.acts.items rows.dismissals.items
    (firm_of rows.matters.items rows.movements.items rows.firm_lines.items rows.exceptions.items rows.balances.items)

-- sound matters with all their entries; together with the other rows they make a sound firm
pub record AreKept (ks : List KeptMatter) (movements : List Movement) (own : List FirmLine) (lines : List Line)
    (balances : List BalanceRow) : Type 0 where
  pub matters : AreKeptWhole ks
  pub firm : FirmSound (firm_of ks movements own lines balances)

-- One matter among others.

-- how many matters come before the number
abbrev pub place : ℕ → List KeptMatter → ℕ
place m [] = 0
place m (k ∷ ks) = if nat_lt k.number m then suc (place m ks) else 0

-- the index of the matter with this number, or where it would be inserted
abbrev pub told : ℕ → ℕ → Option KeptMatter → Result ℕ ℕ
told m i None = Err i
told m i (Some k) = if k.number == m then Ok i else Err i

abbrev pub seek : ℕ → List KeptMatter → Result ℕ ℕ
seek m ks = told m (place m ks) (slice_get ks (place m ks))

-- the rows of the matter with this number
abbrev pub rows_in : ℕ → List KeptMatter → Rows
rows_in m [] = unopened
rows_in m (k ∷ ks) =
    if nat_lt k.number m then rows_in m ks else (if k.number == m then rows_kept k.matter else unopened)

-- the list with this as the matter of the number, replaced or inserted in order
abbrev pub matters_with : ℕ → Part → List KeptMatter → List KeptMatter
matters_with m part [] = record { number = m; matter = part } ∷ []
matters_with m part (k ∷ ks) =
    if nat_lt k.number m
    then k ∷ matters_with m part ks
    else (if k.number == m
    then record { number = m; matter = part } ∷ ks
    else record { number = m; matter = part } ∷ k ∷ ks)

-- the matter of the number is stored complete with these rows, and the others as they were
pub record IsKeptAs (m : ℕ) (rows : Rows) (old new : List KeptMatter) : Type 0 where
  pub part : Part
  pub whole : IsWhole part rows
  pub kept : new ≡ matters_with m part old

-- A line among others.

-- the line is at index i: adding it changes nothing, and removing it removes that index
pub record StandsAt (line : Line) (lines : List Line) (i : ℕ) : Type 0 where
  pub within : i < length lines
  pub with : with_line line lines ≡ lines
  pub without : without_line line lines ≡ remove lines i

-- the line is not there, and would be inserted at index i
pub record WouldStandAt (line : Line) (lines : List Line) (i : ℕ) : Type 0 where
  pub within : i ≤ length lines
  pub with : with_line line lines ≡ insert lines i line
  pub without : without_line line lines ≡ lines
