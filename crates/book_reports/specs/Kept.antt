-- What is collected from a firm's rows for a reconciliation.
use Rattle.std.specs.Prelude.{◌≡◌, ℕ}
use Rattle.firm_rows.specs.Countable.{IsCountable}
use Rattle.firm_rows.specs.Firm.{Firm}
use Rattle.trust_reports.specs.Reconciliations.{ReconciliationKept, all_kept}

-- all rows of the firm were received, and can be counted
pub record IsKeptOf (day : ℕ) (firm : Firm) (kept : ReconciliationKept) : Type 0 where
  pub all : kept ≡ all_kept day firm
  pub countable : IsCountable firm
