-- How the packet of month's end is made: a firm's rows are read once for all its parts.
use Rattle.std.specs.Prelude.{◌≡◌, ℕ, []}
use Rattle.trust_base.specs.Periods.{month_to}
use Rattle.firm_rows.specs.Firm.{Firm}
use Rattle.firm_periods.specs.Approvals.{approvals}
use Rattle.firm_periods.specs.Named.{is_purged_within, listed, sum_moved}
use Rattle.firm_periods.specs.declared.named_sink.NamedList.{NamedList}
use Rattle.firm_periods.specs.declared.named_sink.Pick.{Pick}
use Rattle.firm_periods.specs.declared.named_sink.Pick.TheVariants as pick
use Rattle.trust_reports.specs.Clients.{clients_of}
use Rattle.book_reports.specs.Kept.{IsKeptOf}
use Rattle.book_reports.specs.declared.month.ReadMonth.{ReadMonth}

-- a list that was read is that of a firm
pub record IsListFor (pick : Pick) (firm : Firm) (list : NamedList) : Type 0 where
  pub moves : list.moves.items ≡ listed pick firm
  pub total : list.total ≡ sum_moved (listed pick firm)

-- what was read are the parts of a firm's packet, where all its acts can be read
pub record IsMonthRead (day : ℕ) (firm : Firm) (read : ReadMonth) : Type 0 where
  pub reconciliation : IsKeptOf day firm read.parts.reconciliation
  pub clients : read.parts.clients ≡ clients_of day firm
  pub transit : IsListFor (pick.Transit day) firm read.parts.transit
  pub outstanding : IsListFor (pick.Outstanding day) firm read.parts.outstanding
  pub receipts : IsListFor (pick.Receipts (month_to day)) firm read.parts.receipts
  pub disbursements : IsListFor (pick.Disbursements (month_to day)) firm read.parts.disbursements
  pub approvals : read.parts.approvals.items ≡ approvals (month_to day) firm
  pub purged : read.parts.is_purged ≡ is_purged_within (month_to day) firm
  pub unread : read.unread.items ≡ []
