-- A client's statement of account for a period: the opening balance, each movement with the balance after it, and the
-- closing balance.
use Rattle.std.specs.Prelude.{◌≡◌, ℕ, ◌+◌, ◌*◌, ◌≤◌, Bool, false, not, cond, ◌&&◌, ◌||◌, ◌==◌, nat_lt, List, [], ◌∷◌, ◌++◌, map, ℤ, pos, ◌+ℤ◌, ◌≤ℤ◌, unsigned_abs}
use Rattle.std.specs.List.{filter, flat_map, AllByRecursion}
use Rattle.trust_base.specs.Periods.{Span}
use Rattle.trust_base.specs.Retention.{IsDayAfter}
use Rattle.trust_base.specs.Limits.{IsCivilDay}
use Rattle.trust_base.specs.TheConstants.{MAX_AMOUNT}
use Rattle.matter_rows.specs.declared.payment.PaymentState.{PaymentState}
use Rattle.matter_rows.specs.declared.payment.PaymentState.TheVariants as payment
use Rattle.matter_rows.specs.declared.entry.Entry.{Entry}
use Rattle.matter_rows.specs.declared.entry.Entry.TheVariants as entry
use Rattle.matter_rows.specs.declared.head.Head.{Head}
use Rattle.matter_rows.specs.Events.{Event, events_of}
use Rattle.matter_rows.specs.Rows.{Rows}
use Rattle.matter_rows.specs.Sound.{Sound}
use Rattle.matter_parts.specs.declared.kept.Kept.{Kept}
use Rattle.matter_parts.specs.Parts.{Part, IsWhole}
use Rattle.firm_rows.specs.Sums.{sum_of}
use Rattle.firm_rows.specs.Firm.{Firm, of}
use Rattle.firm_rows.specs.FirmSound.{FirmSound}
use Rattle.firm_figures.specs.Clients.{client_line, clients_total, ledger_as_of, open_heads}
use Rattle.firm_figures.specs.Doubles.{in_order}
use Rattle.firm_figures.specs.Figures.{own_by}
use Rattle.firm_periods.specs.declared.moved.Moved.{Moved}
use Rattle.firm_periods.specs.Named.{is_below_zero, is_within, moves_of}

-- The movements.

-- a movement of an entry, with the entry and its number
pub record EntryMoved : Type 0 where
  pub number : ℕ
  pub entry : Entry
  pub moved : Moved

abbrev pub entry_moved : ℕ → Entry → Moved → EntryMoved
entry_moved n e v = record { number = n; entry = e; moved = v }

-- the movements of an entry
abbrev pub moves_at : ℕ → Entry → List EntryMoved
moves_at n e = map (entry_moved n e) (moves_of e)

-- those of entries numbered from n on
abbrev pub numbered_moves : ℕ → List Entry → List EntryMoved
numbered_moves n [] = []
numbered_moves n (e ∷ es) = moves_at n e ++ numbered_moves (n + 1) es

-- those of the loaded entries of a matter
abbrev pub kept_moves : List Kept → List EntryMoved
kept_moves ks = flat_map (λ k. moves_at k.number k.entry) ks

-- a payment that was voided on the day of its issue
abbrev pub is_passing_state : PaymentState → Bool
is_passing_state payment.Proposed = false
is_passing_state payment.Declined = false
is_passing_state (payment.Issued day) = false
is_passing_state (payment.Cleared c) = false
is_passing_state (payment.Voided v) = v.issued == v.undone

abbrev pub is_passing : Entry → Bool
is_passing (entry.Deposit d) = false
is_passing (entry.Payment p) = is_passing_state p.state
is_passing (entry.Fee f) = false
is_passing (entry.Claim c) = false

-- of a day, what went out and did not come back on it stands last
abbrev pub is_last : EntryMoved → Bool
is_last v = not (is_passing v.entry) && is_below_zero v.moved.amount

-- what came in stands first; then such payments by number, each with its voiding right behind it
abbrev pub place : EntryMoved → ℕ
place v = cond (is_passing v.entry) (2 * v.number + cond (is_below_zero v.moved.amount) 1 2) 0

-- by day; on one day what came in, the payments that were voided on it, and what else went out
abbrev pub is_before_moved : EntryMoved → EntryMoved → Bool
is_before_moved a b =
    nat_lt a.moved.day b.moved.day
    || (a.moved.day == b.moved.day && (not (is_last a) && (is_last b || nat_lt (place a) (place b))))

-- the movements of a period in that order; those that neither comes before the other stay as they were
abbrev pub account_moves : Span → List EntryMoved → List EntryMoved
account_moves s vs = in_order is_before_moved (filter (λ v. is_within s.from s.to v.moved) vs)

-- The account.

-- a movement with the balance after it: the ledger, but for the order within its day
pub record AccountedMove : Type 0 where
  pub number : ℕ
  pub entry : Entry
  pub moved : Moved
  pub ledger : ℤ

pub record Accounted : Type 0 where
  pub opening : ℤ
  pub lines : List AccountedMove
  pub closing : ℤ

-- OPENING: the sum of the movements before a day
abbrev pub moved_before : ℕ → List EntryMoved → ℤ
moved_before day vs = sum_of (λ v. v.moved.amount) (filter (λ v. nat_lt v.moved.day day) vs)

-- each movement with the balance after it, which is z before the first
abbrev pub account_from : ℤ → List EntryMoved → List AccountedMove
account_from z [] = []
account_from z (v ∷ vs) =
    record { number = v.number; entry = v.entry; moved = v.moved; ledger = z +ℤ v.moved.amount }
    ∷ account_from (z +ℤ v.moved.amount) vs

-- CLOSING: the ledger after the last movement; the opening if there is none
abbrev pub closing_from : ℤ → List AccountedMove → ℤ
closing_from z [] = z
closing_from z (l ∷ ls) = closing_from l.ledger ls

abbrev pub accounted : ℤ → List EntryMoved → Accounted
accounted z vs = record {
  opening = z;
  lines = account_from z vs;
  closing = closing_from z (account_from z vs);
}

abbrev pub account_in : Span → List EntryMoved → Accounted
account_in s vs = accounted (moved_before s.from vs) (account_moves s vs)

-- the account of a matter, of its entries by number
abbrev pub account_of : Span → List Entry → Accounted
account_of s es = account_in s (numbered_moves 1 es)

abbrev pub account_lines : Span → List Entry → List AccountedMove
account_lines s es = (account_of s es).lines

-- of those entries that are loaded
abbrev pub account_kept : Span → List Kept → Accounted
account_kept s ks = account_in s (kept_moves ks)

-- Laws.

-- of a matter with all entries of its rows loaded, it is the account of the rows
abbrev pub WholeAccountIsOfRows : Type 0
WholeAccountIsOfRows =
    (s : Span) (matter : Part) (rows : Rows) → IsWhole matter rows
    → account_kept s matter.kept ≡ account_of s rows.entries

-- the opening is what the entries had moved before the first day
abbrev pub ledger_before : ℕ → List Entry → ℤ
ledger_before day es = sum_of (λ e. e.amount) (filter (λ e. nat_lt e.day day) (flat_map events_of es))

abbrev pub OpeningIsBefore : Type 0
OpeningIsBefore = (s : Span) (es : List Entry) → (account_of s es).opening ≡ ledger_before s.from es

-- the closing is the ledger as of the last day
abbrev pub ClosingIsLedger : Type 0
ClosingIsLedger =
    (s : Span) (es : List Entry) → s.from ≤ s.to → (account_of s es).closing ≡ ledger_as_of s.to es

-- every movement is on a day of the calendar
abbrev pub AreCivil : List Entry → Type 0
AreCivil es = AllByRecursion (λ (e : Event). IsCivilDay e.day) (flat_map events_of es)

-- and it is the opening of a period that begins on the day after
abbrev pub ClosingIsNextOpening : Type 0
ClosingIsNextOpening =
    (s next : Span) (es : List Entry) → s.from ≤ s.to → IsDayAfter s.to next.from → AreCivil es
    → (account_of next es).opening ≡ (account_of s es).closing

-- an account has the movements of each entry in the entry's own order: a voiding stands behind its payment
abbrev pub EntriesInOrder : Type 0
EntriesInOrder =
    (s : Span) (n : ℕ) (rows : Rows) → Sound rows
    → filter (λ v. v.number == n) (account_moves s (numbered_moves 1 rows.entries))
    ≡ filter (λ v. v.number == n) (filter (λ v. is_within s.from s.to v.moved) (numbered_moves 1 rows.entries))

-- in a sound firm no balance of an account is below zero
pub record IsAccountCovered (a : Accounted) : Type 0 where
  pub opening : pos 0 ≤ℤ a.opening
  pub lines : AllByRecursion (λ l. pos 0 ≤ℤ l.ledger) a.lines
  pub closing : pos 0 ≤ℤ a.closing

abbrev pub AccountsAreCovered : Type 0
AccountsAreCovered =
    (s : Span) (m : ℕ) (firm : Firm) → FirmSound firm → s.from ≤ s.to
    → IsAccountCovered (account_of s (of m firm).entries)

-- The closings of all clients.

-- the closing of a matter of the firm, given with its head
abbrev pub closing_in : Span → Firm → ℕ × Head → ℤ
closing_in s firm (m, h) = (account_of s (of m firm).entries).closing

-- each matter that is open as of the last day closes with its ledger in the list of the clients of that day
abbrev pub ClosingsAreLines : Type 0
ClosingsAreLines =
    (s : Span) (firm : Firm) → s.from ≤ s.to
    → map (closing_in s firm) (open_heads s.to firm.rows)
    ≡ map (λ q. (client_line s.to firm q).ledger) (open_heads s.to firm.rows)

-- and with the firm's own lines by that day they add up to its TOTAL
abbrev pub ClosingsAreTotal : Type 0
ClosingsAreTotal =
    (s : Span) (firm : Firm) → s.from ≤ s.to
    → sum_of (closing_in s firm) (open_heads s.to firm.rows) +ℤ own_by s.to firm ≡ clients_total s.to firm

-- How it is added up.

-- no entry moves more than the greatest amount at a time
abbrev pub IsSmallMove : Moved → Type 0
IsSmallMove v = unsigned_abs v.amount ≤ MAX_AMOUNT

-- the sum of so many movements
abbrev pub IsSumMoved : ℕ → ℤ → Type 0
IsSumMoved count z = unsigned_abs z ≤ count * MAX_AMOUNT

-- the sum of the movements before a day
abbrev pub sum_before : ℕ → List Moved → ℤ
sum_before day vs = sum_of (λ v. v.amount) (filter (λ v. nat_lt v.day day) vs)
