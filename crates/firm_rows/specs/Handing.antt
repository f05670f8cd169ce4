-- Rows in memory, and what a sink receives of a list of rows.
use Rattle.std.specs.Prelude.{◌≡◌, ℕ, OnOk, List, [], ◌++◌, fold, map, Result}
use Rattle.trust_base.specs.declared.line.Line.{Line}
use Rattle.firm_rows.specs.declared.movement.Movement.{Movement}
use Rattle.firm_rows.specs.declared.ledger.FirmLine.{FirmLine}
use Rattle.firm_rows.specs.declared.ledger.BalanceRow.{BalanceRow}
use Rattle.firm_rows.specs.declared.sink.MatterRow.{MatterRow}
use Rattle.firm_rows.specs.Countable.{AreCountable}
use Rattle.firm_rows.specs.Firm.{Row, Firm, row_of}

-- Rows in memory.

-- a row paired with the number of its matter, as a firm has it
abbrev pub row_pair : ℕ × MatterRow → ℕ × Row
row_pair p = (p.0, row_of p.1)

-- the firm that has these rows, and neither acts nor dismissals
abbrev pub in_memory : List (ℕ × MatterRow) → List Movement → List FirmLine → List Line → List BalanceRow → Firm
in_memory rows movements firm_lines exceptions balances = record {
  rows = map row_pair rows;
  movements = movements;
  firm_lines = firm_lines;
  exceptions = exceptions;
  balances = balances;
  acts = [];
  dismissals = [];
}

-- The rows that a sink receives.

-- a sink received the first rows, `front`, and `rest` are left
pub record HandedOver {S A : Type 0} (step : S → A → S) (old : S) (all rest : List A) (new : S) : Type 0 where
  pub front : List A
  pub parts : front ++ rest ≡ all
  pub folded : new ≡ fold step old front

-- the sink after some first rows
abbrev pub FoldsFront : {S A : Type 0} → (S → A → S) → S → List A → S → Type 0
FoldsFront {A} step old all new = (rest : List A) × HandedOver step old all rest new

-- a sink received all of the rows, fewer than 2^64 with amounts in range; on an error, only a prefix of them
pub record AreHanded {S A T E : Type 0} (step : S → A → S) (IsInRange : A → Type 0) (rows : List A)
    (result : Result T E) (old new : S) : Type 0 where
  pub all : OnOk result (new ≡ fold step old rows)
  pub some : FoldsFront step old rows new
  pub countable : OnOk result (AreCountable IsInRange rows)
