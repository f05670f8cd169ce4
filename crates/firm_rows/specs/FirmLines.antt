-- The lines of the firm's own ledger, the balances that the bank reported, and the verdict on a further one.
use Rattle.std.specs.Prelude.{◌≤ℤ◌, ℕ, Bool, not, ◌&&◌, ◌==◌, nat_le, List, ◌∷◌, ◌++◌, take, ℤ, pos, ◌+ℤ◌, Option, Some, None, find, if◌then◌else◌}
use Rattle.std.specs.List.{filter, list_any}
use Rattle.std.specs.Option.{option_map}
use Rattle.std.specs.Int.Signed.{le_z}
use Rattle.std.specs.Ordering.{int_eq, is_lt, nat_cmp, ordering_then}
use Rattle.std.specs.declared.cmp.Ordering.{Ordering}
use Rattle.std.specs.Str.{bytes_eq}
use Rattle.trust_base.specs.declared.line.Line.{Line}
use Rattle.firm_rows.specs.declared.ledger.FirmLine.{FirmLine}
use Rattle.firm_rows.specs.declared.ledger.Verdict.{Verdict}
use Rattle.firm_rows.specs.declared.ledger.Verdict.TheVariants as told
use Rattle.firm_rows.specs.declared.ledger.BalanceKind.{BalanceKind}
use Rattle.firm_rows.specs.declared.ledger.BalanceKind.TheVariants as kind
use Rattle.firm_rows.specs.declared.ledger.BalanceRow.{BalanceRow}
use Rattle.firm_rows.specs.Sums.{sum_of}
use Rattle.firm_rows.specs.declared.limits.TheConstants.{MAX_OWN}

-- The firm's own money.

-- the sum of the firm's own lines
abbrev pub balance_of : List FirmLine → ℤ
balance_of lines = sum_of (λ l. l.amount) lines

-- an amount that the firm may have as its own money
abbrev pub IsOwnBalance : ℤ → Type 0
IsOwnBalance z = (pos 0 ≤ℤ z) × (z ≤ℤ pos MAX_OWN)

-- `IsOwnBalance` as a boolean
abbrev pub is_own_balance : ℤ → Bool
is_own_balance z = le_z (pos 0) z && le_z z (pos MAX_OWN)

-- at every point of the list, the sum so far is such an amount
abbrev pub StaysWithin : List FirmLine → Type 0
StaysWithin lines = (k : ℕ) → IsOwnBalance (balance_of (take k lines))

-- A line of the firm's own.

-- the line as the firm's ledger stores it
abbrev pub as_firm_line : Line → FirmLine
as_firm_line line = record { date = line.date; bank_ref = line.bank_ref; amount = line.amount; text = line.text }

-- a stored line has this line's date, bank reference and amount
abbrev pub is_kept_as : Line → FirmLine → Bool
is_kept_as line l = l.date == line.date && bytes_eq l.bank_ref line.bank_ref && int_eq l.amount line.amount

-- the line is not dated after the business day, moves something, and leaves a permitted balance
abbrev pub is_bookable : List FirmLine → Line → ℕ → Bool
is_bookable lines line today =
    nat_le line.date today && not (int_eq line.amount (pos 0)) && is_own_balance (balance_of lines +ℤ line.amount)

-- the verdict on a line of the firm's own on a business day
abbrev pub firm_verdict : List FirmLine → Line → ℕ → Verdict
firm_verdict lines line today =
    if list_any (is_kept_as line) lines then told.Repeat
    else (if is_bookable lines line today then told.Applied else told.Unmatched)

-- A balance.

abbrev pub place_of : BalanceKind → ℕ
place_of kind.Opening = 0
place_of kind.Closing = 1

-- openings before closings, each by day
abbrev pub balance_cmp : BalanceRow → BalanceRow → Ordering
balance_cmp a b = ordering_then (nat_cmp (place_of a.kind) (place_of b.kind)) (nat_cmp a.day b.day)

-- the balances with one more, inserted in order
abbrev pub with_balance : BalanceRow → List BalanceRow → List BalanceRow
with_balance row rows =
    filter (λ r. is_lt (balance_cmp r row)) rows ++ (row ∷ filter (λ r. is_lt (balance_cmp row r)) rows)

-- the line as a balance of this kind
abbrev pub balance_row : BalanceKind → Line → BalanceRow
balance_row k line = record { kind = k; day = line.date; amount = line.amount }

-- the row is the balance of this kind and day
abbrev pub is_balance_on : BalanceKind → ℕ → BalanceRow → Bool
is_balance_on k day row = place_of row.kind == place_of k && row.day == day

abbrev pub kept_balance : BalanceKind → ℕ → List BalanceRow → Option ℤ
kept_balance k day rows = option_map (λ row. row.amount) (find (is_balance_on k day) rows)

-- the verdict on a balance, given the one on file for its kind and day, if any
abbrev pub balance_verdict : Option ℤ → Line → ℕ → Verdict
balance_verdict None line today = if nat_le line.date today then told.Applied else told.Unmatched
balance_verdict (Some amount) line today = if int_eq amount line.amount then told.Repeat else told.Unmatched
