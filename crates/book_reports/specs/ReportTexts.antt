-- The text of each report of a firm, and why it may be refused.
use Rattle.std.specs.Prelude.{◌≡◌, ℕ, false, ◌||◌, List}
use Rattle.firm_rows.specs.Firm.{Firm}
use Rattle.trust_base.specs.Periods.{month_to}
use Rattle.book_reports.specs.Reports.{approvals_report, clients_report, disbursements_report, exceptions_report, has_no_statement, is_period_purged, is_purged_at, is_purged_within, journal_report, month_report, outstanding_report, own_card_report, receipts_report, reconciliation_report, retention_report, trail_report, trial_report}
use Rattle.book_reports.specs.declared.day_reports.Limits.{Limits}
use Rattle.book_reports.specs.declared.finding.FoundReport.{FoundReport}
use Rattle.book_reports.specs.declared.report.DayReport.TheVariants.{Clients, Month, Outstanding, Reconciliation}
use Rattle.book_reports.specs.declared.report.PeriodReport.TheVariants.{Approvals, Disbursements, Receipts}
use Rattle.book_reports.specs.declared.report.Report.{Report}
use Rattle.book_reports.specs.declared.report.Report.TheVariants.{AsOf, Today, Within}
use Rattle.book_reports.specs.declared.report.TodayReport.TheVariants.{Exceptions, Trial, Journal, Retention, OwnLedger, Trail}

-- the text of a report on a business day
abbrev pub report_text : Report → ℕ → Firm → List ℕ
report_text (Today Exceptions) today firm = exceptions_report today firm
report_text (Today Trial) today firm = trial_report today firm
report_text (Today Journal) today firm = journal_report today firm
report_text (Today Retention) today firm = retention_report today firm
report_text (Today OwnLedger) today firm = own_card_report today firm
report_text (Today Trail) today firm = trail_report today firm
report_text (AsOf Reconciliation day) today firm = reconciliation_report day firm
report_text (AsOf Clients day) today firm = clients_report day firm
report_text (AsOf Outstanding day) today firm = outstanding_report day firm
report_text (AsOf Month day) today firm = month_report day firm
report_text (Within Receipts period) today firm = receipts_report period firm
report_text (Within Disbursements period) today firm = disbursements_report period firm
report_text (Within Approvals period) today firm = approvals_report period firm

-- why a report may be refused: no closing balance is kept of its day, which the reconciliation and the packet of month's
-- end want; or a matter was purged whose records it wants. These are those that were open as of the day or in the
-- period; of the reconciliation, those that were closed after its day; of the packet, those that a part of it wants
abbrev pub limits_of : Report → Firm → Limits
limits_of (Today report) firm = record { lacks_statement = false; is_purged = false }
limits_of (AsOf Reconciliation day) firm =
    record { lacks_statement = has_no_statement day firm; is_purged = is_period_purged day firm }
limits_of (AsOf Clients day) firm = record { lacks_statement = false; is_purged = is_purged_at day firm }
limits_of (AsOf Outstanding day) firm = record { lacks_statement = false; is_purged = is_purged_at day firm }
limits_of (AsOf Month day) firm = record {
  lacks_statement = has_no_statement day firm;
  is_purged = is_period_purged day firm || is_purged_within (month_to day) firm;
}
limits_of (Within report period) firm = record { lacks_statement = false; is_purged = is_purged_within period firm }

-- what was found is the report of a firm on a business day, and why it may be refused
pub record IsReportOf (report : Report) (today : ℕ) (firm : Firm) (found : FoundReport) : Type 0 where
  pub limits : found.limits ≡ limits_of report firm
  pub text : found.text.items ≡ report_text report today firm
