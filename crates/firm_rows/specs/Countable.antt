-- Rows few enough, and with amounts small enough, to be counted and added up in machine integers.
use Rattle.std.specs.Prelude.{ℕ, ◌≤◌, List, length, FitsSigned}
use Rattle.std.specs.Int.{w64}
use Rattle.std.specs.List.{AllByRecursion}
use Rattle.trust_base.specs.Limits.{IsAmount, IsBankAmount}
use Rattle.trust_base.specs.declared.line.Line.{Line}
use Rattle.trust_matter.specs.Rows.{entry_amount}
use Rattle.firm_rows.specs.declared.dismissal.Dismissal.{Dismissal}
use Rattle.firm_rows.specs.declared.matter_act.MatterAct.{MatterAct}
use Rattle.firm_rows.specs.declared.movement.Movement.{Movement}
use Rattle.firm_rows.specs.declared.ledger.FirmLine.{FirmLine}
use Rattle.firm_rows.specs.declared.ledger.BalanceRow.{BalanceRow}
use Rattle.firm_rows.specs.Firm.{Row, HeadRow, SeatRow, EntryRow, Firm}

-- the most rows of one kind: one less than 2^64
abbrev pub MOST_ROWS : ℕ
MOST_ROWS = 18_446_744_073_709_551_615

-- an entry's amount is in range
abbrev pub IsRowInRange : ℕ × Row → Type 0
IsRowInRange (m, HeadRow head) = Unit {0}
IsRowInRange (m, SeatRow seat) = Unit {0}
IsRowInRange (m, EntryRow number entry) = IsAmount (entry_amount entry)

abbrev pub IsMovementInRange : Movement → Type 0
IsMovementInRange v = FitsSigned w64 v.amount

abbrev pub IsFirmLineInRange : FirmLine → Type 0
IsFirmLineInRange l = IsBankAmount l.amount

abbrev pub IsLineInRange : Line → Type 0
IsLineInRange l = IsBankAmount l.amount

abbrev pub IsBalanceInRange : BalanceRow → Type 0
IsBalanceInRange row = IsBankAmount row.amount

-- an act has no amount
abbrev pub IsActInRange : MatterAct → Type 0
IsActInRange act = Unit {0}

abbrev pub IsDismissalInRange : Dismissal → Type 0
IsDismissalInRange d = IsLineInRange d.line

-- fewer than 2^64 rows, each with its amount in range
pub record AreCountable {A : Type 0} (IsInRange : A → Type 0) (rows : List A) : Type 0 where
  pub few : length rows ≤ MOST_ROWS
  pub ranged : AllByRecursion IsInRange rows

-- all rows of a firm are countable
pub record IsCountable (firm : Firm) : Type 0 where
  pub rows : AreCountable IsRowInRange firm.rows
  pub movements : AreCountable IsMovementInRange firm.movements
  pub firm_lines : AreCountable IsFirmLineInRange firm.firm_lines
  pub exceptions : AreCountable IsLineInRange firm.exceptions
  pub balances : AreCountable IsBalanceInRange firm.balances
