-- What each flaw says of a firm's rows, and when the rows have none.
use Rattle.std.specs.Prelude.{◌≡◌, ◌≢◌, ◌⊎◌, ℕ, ◌+◌, suc, ◌<◌, ◌≤◌, List, length, map, take, pos, ◌<ℤ◌, Some, None, slice_get}
use Rattle.std.specs.declared.cmp.Ordering.TheVariants.{Less}
use Rattle.trust_base.specs.LineOrder.{line_cmp}
use Rattle.matter_rows.specs.declared.entry.Entry.{Entry}
use Rattle.matter_rows.specs.Rows.{Rows, entry_at, last_of}
use Rattle.matter_rows.specs.Balances.{ledger}
use Rattle.matter_rows.specs.Events.{events_of}
use Rattle.matter_parts.specs.declared.kept.Kept.{Kept}
use Rattle.firm_rows.specs.declared.movement.Movement.{Movement}
use Rattle.firm_rows.specs.declared.movement.Owner.{Owner}
use Rattle.firm_rows.specs.declared.movement.Owner.TheVariants as owner
use Rattle.firm_rows.specs.declared.ledger.FirmLine.{FirmLine}
use Rattle.firm_rows.specs.FirmLines.{IsOwnBalance, balance_cmp, balance_of}
use Rattle.firm_rows.specs.Firm.{Firm, of}
use Rattle.firm_rows.specs.Journal.{events_moved, firm_events, line_event}
use Rattle.firm_rows.specs.FirmSound.{FirmSound}
use Rattle.trust_store.specs.declared.all_rows.AllRows.{AllRows}
use Rattle.trust_store.specs.declared.plain.KeptMatter.{KeptMatter}
use Rattle.trust_store.specs.Kept.{AreKept, IsKeptWhole, firm_of_all, rows_kept}
use Rattle.firm_audit.specs.Audited.{RiseWithin, moved_of, moved_sum}
use Rattle.firm_audit.specs.declared.flaw.Flaw.{Flaw}
use Rattle.firm_audit.specs.declared.flaw.Flaw.TheVariants as flaw

-- Places.

-- the element at this position, counted from 1, does not stand after the one before it
pub record IsMisplaced {A : Type 0} (Before : A → A → Type 0) (xs : List A) (n : ℕ) : Type 0 where
  pub index : ℕ
  pub number : n ≡ index + 2
  pub one : A
  pub next : A
  pub before : slice_get xs index ≡ Some one
  pub behind : slice_get xs (suc index) ≡ Some next
  pub apart : ¬ Before one next

-- A matter.

-- a matter with this number is not complete and sound, or its number is not higher than that of the one before it
pub record IsFlawedMatter (ks : List KeptMatter) (m : ℕ) : Type 0 where
  pub index : ℕ
  pub kept : KeptMatter
  pub there : slice_get ks index ≡ Some kept
  pub number : kept.number ≡ m
  pub flawed : (¬ IsKeptWhole kept) ⊎ IsMisplaced (λ (a b : KeptMatter). a.number < b.number) ks (index + 1)

-- The journal.

-- the entry exists, and its movements are not what it moved
pub record IsUnlike (rows : Rows) (movements : List Movement) (m n : ℕ) : Type 0 where
  pub entry : Entry
  pub there : entry_at rows.entries n ≡ Some entry
  pub unlike : events_moved m n movements ≢ events_of entry

-- the first of a matter's movements, up to some place, add up to less than zero
abbrev pub IsOverdrawn : List Movement → Type 0
IsOverdrawn own = (k : ℕ) × (moved_sum (take k own) <ℤ pos 0)

-- a matter's movements are not in order of day up to its last day, add up to less than zero on the way, or do not add
-- up to its ledger
abbrev pub IsFlawedJournal : Rows → List Movement → Type 0
IsFlawedJournal rows own =
    (¬ RiseWithin 0 (last_of rows.head) (map (λ v. v.day) own))
    ⊎ (IsOverdrawn own ⊎ (moved_sum own ≢ ledger rows.entries))

-- the movement is of an entry that does not exist, given the rows of each matter
abbrev pub IsUnowned : (ℕ → Rows) → Owner → Type 0
IsUnowned rows (owner.Matter m n) = entry_at (rows m).entries n ≡ None
IsUnowned rows owner.Firm = ⊥

-- the movement at this position, counted from 1, is of an entry that does not exist
pub record IsStray (rows : ℕ → Rows) (movements : List Movement) (n : ℕ) : Type 0 where
  pub index : ℕ
  pub number : n ≡ index + 1
  pub movement : Movement
  pub there : slice_get movements index ≡ Some movement
  pub unowned : IsUnowned rows movement.owner

-- The firm's own money.

-- there is a line at this position, counted from 1, and after it the firm's own money is not a permitted balance
pub record IsOutside (lines : List FirmLine) (n : ℕ) : Type 0 where
  pub first : 0 < n
  pub within : n ≤ length lines
  pub outside : ¬ IsOwnBalance (balance_of (take n lines))

-- The flaws.

-- what a flaw says of a firm. A firm has only the rows of matters; whether each was complete, with its totals, shows
-- where they were read, so that a flaw of a matter is none of the firm's
abbrev pub IsFlawOf : Firm → Flaw → Type 0
IsFlawOf firm (flaw.Matter m) = ⊥
IsFlawOf firm (flaw.Entry m n) = IsUnlike (of m firm) firm.movements m n
IsFlawOf firm (flaw.Journal m) = IsFlawedJournal (of m firm) (moved_of m firm.movements)
IsFlawOf firm (flaw.Movement n) = IsStray (λ m. of m firm) firm.movements n
IsFlawOf firm flaw.OwnMovements = firm_events firm.movements ≢ map line_event firm.firm_lines
IsFlawOf firm (flaw.FirmLine n) = IsOutside firm.firm_lines n
IsFlawOf firm (flaw.Exception n) = IsMisplaced (λ a b. line_cmp a b ≡ Less) firm.exceptions n
IsFlawOf firm (flaw.Balance n) = IsMisplaced (λ a b. balance_cmp a b ≡ Less) firm.balances n

-- the flaw is one of the matters, as they were read
abbrev pub IsMatterFlaw : List KeptMatter → Flaw → Type 0
IsMatterFlaw ks (flaw.Matter m) = IsFlawedMatter ks m
IsMatterFlaw ks (flaw.Entry m n) = ⊥
IsMatterFlaw ks (flaw.Journal m) = ⊥
IsMatterFlaw ks (flaw.Movement n) = ⊥
IsMatterFlaw ks flaw.OwnMovements = ⊥
IsMatterFlaw ks (flaw.FirmLine n) = ⊥
IsMatterFlaw ks (flaw.Exception n) = ⊥
IsMatterFlaw ks (flaw.Balance n) = ⊥

-- the flaw is there, in all rows as they were read
abbrev pub IsFlawIn : AllRows → Flaw → Type 0
IsFlawIn rows f = IsMatterFlaw rows.matters.items f ⊎ IsFlawOf (firm_of_all rows) f

-- a firm that has a flaw is not sound
abbrev pub FlawedIsUnsound : Type 0
FlawedIsUnsound = (firm : Firm) (f : Flaw) → IsFlawOf firm f → ¬ FirmSound firm

-- each matter is complete and sound, sorted by number, and all rows are those of a sound firm
abbrev pub AreSound : AllRows → Type 0
AreSound rows =
    AreKept rows.matters.items rows.movements.items rows.firm_lines.items rows.exceptions.items rows.balances.items

-- One matter's part of the journal.

-- a loaded entry with this number, whose movements are not its events
pub record IsUnlikeAmong (m : ℕ) (ks : List Kept) (own : List Movement) (n : ℕ) : Type 0 where
  pub index : ℕ
  pub kept : Kept
  pub there : slice_get ks index ≡ Some kept
  pub number : n ≡ kept.number
  pub unlike : events_moved m n own ≢ events_of kept.entry

-- the flaw is one of this matter's movements
abbrev pub IsJournalFlaw : KeptMatter → List Movement → Flaw → Type 0
IsJournalFlaw k movements (flaw.Matter m) = ⊥
IsJournalFlaw k movements (flaw.Entry m n) = (k.number ≡ m) × IsUnlike (rows_kept k.matter) movements m n
IsJournalFlaw k movements (flaw.Journal m) =
    (k.number ≡ m) × IsFlawedJournal (rows_kept k.matter) (moved_of m movements)
IsJournalFlaw k movements (flaw.Movement n) = ⊥
IsJournalFlaw k movements flaw.OwnMovements = ⊥
IsJournalFlaw k movements (flaw.FirmLine n) = ⊥
IsJournalFlaw k movements (flaw.Exception n) = ⊥
IsJournalFlaw k movements (flaw.Balance n) = ⊥

-- it is one of the movements of some matter
pub record IsJournalFlawAmong (ks : List KeptMatter) (movements : List Movement) (f : Flaw) : Type 0 where
  pub index : ℕ
  pub kept : KeptMatter
  pub there : slice_get ks index ≡ Some kept
  pub flawed : IsJournalFlaw kept movements f
