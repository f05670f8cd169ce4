-- What the audit of a firm's rows checks, part by part.
use Rattle.std.specs.Prelude.{◌≡◌, ℕ, suc, ◌<◌, ◌≤◌, true, List, length, get_or, map, take, ℤ, pos, ◌≤ℤ◌, is_some}
use Rattle.std.specs.List.{filter, AllByRecursion}
use Rattle.std.specs.List.Sorted.{IsStrictlySortedBy}
use Rattle.trust_base.specs.LineOrder.{line_cmp}
use Rattle.trust_base.specs.declared.line.Line.{Line}
use Rattle.matter_rows.specs.Rows.{entry_at, last_of}
use Rattle.matter_rows.specs.Balances.{ledger}
use Rattle.matter_rows.specs.Events.{events_of}
use Rattle.matter_rows.specs.Sound.{AreRising}
use Rattle.matter_parts.specs.Parts.{entries_kept}
use Rattle.matter_parts.specs.declared.kept.Kept.{Kept}
use Rattle.firm_rows.specs.declared.movement.Movement.{Movement}
use Rattle.firm_rows.specs.declared.movement.Owner.{Owner}
use Rattle.firm_rows.specs.declared.movement.Owner.TheVariants as owner
use Rattle.firm_rows.specs.declared.ledger.FirmLine.{FirmLine}
use Rattle.firm_rows.specs.declared.ledger.BalanceRow.{BalanceRow}
use Rattle.firm_rows.specs.Sums.{sum_of}
use Rattle.firm_rows.specs.FirmLines.{StaysWithin, balance_cmp}
use Rattle.firm_rows.specs.Firm.{is_of_matter}
use Rattle.firm_rows.specs.Journal.{events_moved, firm_events, line_event}
use Rattle.trust_store.specs.declared.plain.KeptMatter.{KeptMatter}
use Rattle.trust_store.specs.Kept.{rows_in}

-- The journal of one matter.

-- the movements of a matter, in order
abbrev pub moved_of : ℕ → List Movement → List Movement
moved_of m movements = filter (λ v. is_of_matter m v.owner) movements

-- days in order, from one day up to another
abbrev pub RiseWithin : ℕ → ℕ → List ℕ → Type 0
RiseWithin from last days = AreRising from days × AllByRecursion (λ day. day ≤ last) days

-- the sum of movements
abbrev pub moved_sum : List Movement → ℤ
moved_sum own = sum_of (λ v. v.amount) own

-- no running sum is negative
abbrev pub AreCovered : List Movement → Type 0
AreCovered own = (k : ℕ) → pos 0 ≤ℤ moved_sum (take k own)

-- the movements of each loaded entry are its events
abbrev pub AreMoved : ℕ → List Kept → List Movement → Type 0
AreMoved m kept own = AllByRecursion (λ k. events_moved m k.number own ≡ events_of k.entry) kept

-- a matter's movements are the events of its entries, are in order of day up to its last day, never sum to less than
-- zero, and add up to its ledger
pub record IsJournal (k : KeptMatter) (own : List Movement) : Type 0 where
  pub events : AreMoved k.number k.matter.kept own
  pub in_time : RiseWithin 0 (last_of k.matter.head) (map (λ v. v.day) own)
  pub ledger : moved_sum own ≡ ledger (entries_kept k.matter.kept)
  pub covered : AreCovered own

-- The journal.

-- the movement is of the firm's own money, or of an entry that exists
abbrev pub IsOwned : List KeptMatter → Owner → Type 0
IsOwned ks (owner.Matter m n) = is_some (entry_at (rows_in m ks).entries n) ≡ true
IsOwned ks owner.Firm = Unit {0}

-- each movement is of the firm's own money or of an existing entry, and each matter's movements are sound
pub record IsJournalOf (ks : List KeptMatter) (movements : List Movement) : Type 0 where
  pub owned : AllByRecursion (λ v. IsOwned ks v.owner) movements
  pub matters : AllByRecursion (λ k. IsJournal k (moved_of k.number movements)) ks

-- The rest.

-- each of a list stands before the next
abbrev pub Follow : {A : Type 0} → (A → A → Type 0) → List A → Type 0
Follow {A} R xs = (j : ℕ) (d : A) → suc j < length xs → R (get_or xs j d) (get_or xs (suc j) d)

-- the movements of the firm's own money are the lines of its ledger, whose balance is always permitted
pub record IsOwnMoney (movements : List Movement) (lines : List FirmLine) : Type 0 where
  pub moved : firm_events movements ≡ map line_event lines
  pub within : StaysWithin lines

-- exceptions and balances are sorted
pub record AreAscending (lines : List Line) (rows : List BalanceRow) : Type 0 where
  pub exceptions : IsStrictlySortedBy line_cmp lines
  pub balances : IsStrictlySortedBy balance_cmp rows
