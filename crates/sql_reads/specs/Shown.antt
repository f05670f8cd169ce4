-- What the row of a query stands for.
use Rattle.std.specs.Prelude.{◌≡◌, ℕ, pos, nat_abs, List, ◌∷◌, ◌++◌, map}
use Rattle.sqlite_value.specs.declared.value.Value.TheVariants.{Int, Null}
use Rattle.sqlite_value.specs.Order.{Row, column}
use Rattle.trust_base.specs.declared.line.Line.{Line}
use Rattle.matter_rows.specs.declared.head.Head.{Head}
use Rattle.matter_rows.specs.declared.seat.Seat.{Seat}
use Rattle.matter_parts.specs.declared.kept.Kept.{Kept}
use Rattle.firm_rows.specs.declared.dismissal.Dismissal.{Dismissal}
use Rattle.firm_rows.specs.declared.matter_act.MatterAct.{MatterAct}
use Rattle.firm_rows.specs.declared.movement.Movement.{Movement}
use Rattle.firm_rows.specs.declared.ledger.FirmLine.{FirmLine}
use Rattle.firm_rows.specs.declared.ledger.BalanceRow.{BalanceRow}
use Rattle.firm_rows.specs.Firm.{Row as FirmRow, HeadRow, seat_pairs}
use Rattle.trust_store.specs.Kept.{kept_pairs}
use Rattle.sql_tables.specs.Lists.{Lists}
use Rattle.sql_tables.specs.Rows as table
use Rattle.sql_rows.specs.Meaning.{head_from, kept_from, seat_from}
use Rattle.sql_rows.specs.Meaning.{movement_from, firm_line_from, exception_from, balance_from, act_from, dismissal_from}

-- the seat that a row of a matter shows
abbrev pub seat_at : ℕ → Row → Seat
seat_at m r = seat_from (table.seat_in (Int (pos 0) ∷ Int (pos m) ∷ r))

-- the entry that a row of a matter shows after its number
abbrev pub kept_at : ℕ → Row → Kept
kept_at m r = kept_from (table.entry_in (Int (pos 0) ∷ Int (pos m) ∷ r))

-- a head with its number
abbrev pub numbered_from : table.Head → ℕ × Head
numbered_from h = (nat_abs h.no, head_from h)

-- the head that a row shows before its number
abbrev pub next_at : Row → ℕ × Head
next_at r = numbered_from (table.head_in (column r 12 ∷ Null ∷ r))

-- the numbers are those of the heads, in order
abbrev pub AreNumbersOf : List table.Head → List ℕ → Type 0
AreNumbersOf heads numbers = map pos numbers ≡ map (λ (h : table.Head). h.no) heads

-- the seats of a matter by person, and its entries by number, as rows
abbrev pub seat_rows : Lists → ℕ → List (ℕ × FirmRow)
seat_rows a m = seat_pairs m (map seat_from (table.seats_of (pos m) a.seats))

abbrev pub entry_rows : Lists → ℕ → List (ℕ × FirmRow)
entry_rows a m = kept_pairs m (map kept_from (table.entries_of (pos m) a.entries))

-- the rows of a matter: its head, its seats and its entries
abbrev pub rows_at : Lists → ℕ × Head → List (ℕ × FirmRow)
rows_at a n = (n.0, HeadRow n.1) ∷ (seat_rows a n.0 ++ entry_rows a n.0)

-- the movement that a row of the journal shows
abbrev pub movement_at : Row → Movement
movement_at r = movement_from (table.movement_in (Int (pos 0) ∷ Null ∷ r))

-- the line of the firm's own that a row shows
abbrev pub firm_line_at : Row → FirmLine
firm_line_at r = firm_line_from (table.firm_line_in (Int (pos 0) ∷ Null ∷ r))

-- the exception that a row shows
abbrev pub exception_at : Row → Line
exception_at r = exception_from (table.exception_in (Int (pos 0) ∷ r))

-- the balance that a row shows
abbrev pub balance_at : Row → BalanceRow
balance_at r = balance_from (table.balance_in (Int (pos 0) ∷ r))

-- the act that a row of the trail shows
abbrev pub act_at : Row → MatterAct
act_at r = act_from (table.act_in (Int (pos 0) ∷ Null ∷ r))

-- the dismissal that a row of the trail shows
abbrev pub dismissal_at : Row → Dismissal
dismissal_at r = dismissal_from (table.act_in (Int (pos 0) ∷ Null ∷ r))
