-- What is stored of a firm's rows for the packet of month's end: its parts, each as it would be stored by itself.
use Rattle.std.specs.Prelude.{◌≡◌, ℕ, fold}
use Rattle.trust_base.specs.Periods.{month_to}
use Rattle.firm_rows.specs.declared.movement.Movement.{Movement}
use Rattle.firm_rows.specs.declared.ledger.FirmLine.{FirmLine}
use Rattle.firm_rows.specs.Firm.{Row, Firm}
use Rattle.firm_figures.specs.Clients.{ClientsKept, no_clients, with_client_own, with_client_row}
use Rattle.firm_figures.specs.Doubles.{in_order}
use Rattle.firm_figures.specs.Reconciliations.{ReconciliationKept, nothing_kept, with_movement_kept, with_own_kept, with_row_kept}
use Rattle.firm_periods.specs.Approvals.{ApprovalsKept, approvals_of, with_issued_row}
use Rattle.firm_periods.specs.Named.{NamedKept, is_earlier, named_kept, named_sum, none_named, with_named_own, with_named_row}
use Rattle.firm_periods.specs.declared.month_sink.MonthParts.{MonthParts}
use Rattle.firm_periods.specs.declared.named_sink.NamedList.{NamedList}
use Rattle.firm_periods.specs.declared.named_sink.Pick.TheVariants as pick

-- what the sink stores, part by part
pub record MonthKept : Type 0 where
  pub reconciliation : ReconciliationKept
  pub clients : ClientsKept
  pub transit : NamedKept
  pub outstanding : NamedKept
  pub receipts : NamedKept
  pub disbursements : NamedKept
  pub approvals : ApprovalsKept

-- of no rows yet, where the approvals have their acts
abbrev pub month_begun : ℕ → ApprovalsKept → MonthKept
month_begun day approvals = record {
  reconciliation = nothing_kept day;
  clients = no_clients day;
  transit = none_named (pick.Transit day);
  outstanding = none_named (pick.Outstanding day);
  receipts = none_named (pick.Receipts (month_to day));
  disbursements = none_named (pick.Disbursements (month_to day));
  approvals = approvals;
}

abbrev pub with_month_row : MonthKept → ℕ × Row → MonthKept
with_month_row s row = record {
  reconciliation = with_row_kept s.reconciliation row;
  clients = with_client_row s.clients row;
  transit = with_named_row s.transit row;
  outstanding = with_named_row s.outstanding row;
  receipts = with_named_row s.receipts row;
  disbursements = with_named_row s.disbursements row;
  approvals = with_issued_row s.approvals row;
}

-- the reconciliation alone looks at the journal
abbrev pub with_month_movement : MonthKept → Movement → MonthKept
with_month_movement s v = record s { reconciliation = with_movement_kept s.reconciliation v }

abbrev pub with_month_own : MonthKept → FirmLine → MonthKept
with_month_own s l = record s {
  reconciliation = with_own_kept s.reconciliation l;
  clients = with_client_own s.clients l;
  transit = with_named_own s.transit l;
  outstanding = with_named_own s.outstanding l;
  receipts = with_named_own s.receipts l;
  disbursements = with_named_own s.disbursements l;
}

-- a list is what was stored, by day, with its sum
pub record IsListOf (kept : NamedKept) (list : NamedList) : Type 0 where
  pub moves : list.moves.items ≡ in_order is_earlier kept.lines
  pub total : list.total ≡ named_sum kept

-- the parts are those that were stored
pub record AreMonthParts (kept : MonthKept) (parts : MonthParts) : Type 0 where
  pub reconciliation : parts.reconciliation ≡ kept.reconciliation
  pub clients : parts.clients ≡ kept.clients
  pub transit : IsListOf kept.transit parts.transit
  pub outstanding : IsListOf kept.outstanding parts.outstanding
  pub receipts : IsListOf kept.receipts parts.receipts
  pub disbursements : IsListOf kept.disbursements parts.disbursements
  pub approvals : parts.approvals.items ≡ approvals_of kept.approvals
  pub purged : parts.is_purged ≡ kept.approvals.purged

-- of all rows, movements and lines of the firm's own
abbrev pub month_kept : ℕ → ApprovalsKept → Firm → MonthKept
month_kept day approvals firm =
    fold with_month_own
    (fold with_month_movement
    (fold with_month_row (month_begun day approvals) firm.rows) firm.movements) firm.firm_lines

-- each part is what it would be by itself
pub record IsMonthParted (day : ℕ) (begun : ApprovalsKept) (firm : Firm) (kept : MonthKept) : Type 0 where
  pub reconciliation : kept.reconciliation
      ≡ fold with_own_kept
      (fold with_movement_kept (fold with_row_kept (nothing_kept day) firm.rows) firm.movements) firm.firm_lines
  pub clients : kept.clients ≡ fold with_client_own (fold with_client_row (no_clients day) firm.rows) firm.firm_lines
  pub transit : kept.transit ≡ named_kept (pick.Transit day) firm
  pub outstanding : kept.outstanding ≡ named_kept (pick.Outstanding day) firm
  pub receipts : kept.receipts ≡ named_kept (pick.Receipts (month_to day)) firm
  pub disbursements : kept.disbursements ≡ named_kept (pick.Disbursements (month_to day)) firm
  pub approvals : kept.approvals ≡ fold with_issued_row begun firm.rows

-- what is stored for the packet are its parts, each as it would be stored by itself
abbrev pub MonthsAreParted : Type 0
MonthsAreParted = (day : ℕ) (approvals : ApprovalsKept) (firm : Firm)
    → IsMonthParted day approvals firm (month_kept day approvals firm)
