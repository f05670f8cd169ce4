-- No text of a firm depends on a part of its trail, unless it shows it.
use Rattle.std.proofs.Common.{◌≡◌, ℕ, false, List, refl, sym}
use Rattle.std.proofs.lemmas.Bool.{false≢true}
use Rattle.trust_base.specs.Periods.{month_to}
use Rattle.matter_rows.specs.declared.act.Caller.{Caller}
use Rattle.trust_matter.specs.Step.{first}
use Rattle.firm_rows.specs.Firm.{Firm}
use Rattle.firm_figures.specs.Purged.{is_period_purged, is_purged_at}
use Rattle.firm_periods.specs.Named.{is_purged_within}
use Rattle.json_bodies.specs.Lists.{matters_body, waiting_body}
use Rattle.json_bodies.specs.Reasons.{reasons_body}
use Rattle.statement_match.specs.Books.{held_of}
use Rattle.statement_match.specs.Entries.{known_of}
use Rattle.statement_match.specs.Matched.{matched}
use Rattle.book_reports.specs.Reports.{approvals_report, clients_report, disbursements_report, exceptions_report, has_no_statement, journal_report, matter_trail_report, month_report, outstanding_report, own_card_report, receipts_report, reconciliation_report, retention_report, trial_report}
use Rattle.book_reports.specs.declared.report.DayReport.TheVariants.{Clients, Month, Outstanding, Reconciliation}
use Rattle.book_reports.specs.declared.report.PeriodReport.TheVariants.{Approvals, Disbursements, Receipts}
use Rattle.book_reports.specs.declared.report.Report.{Report}
use Rattle.book_reports.specs.declared.report.Report.TheVariants.{AsOf, Today, Within}
use Rattle.book_reports.specs.declared.report.TodayReport.TheVariants.{Exceptions, Trial, Journal, Retention, OwnLedger, Trail}
use Rattle.trust_desk.specs.Acts.{acts_for, dossier_of}
use Rattle.trust_desk.specs.Heard.{Asks}
use Rattle.trust_desk.specs.ListStep.{list_for, reasons_for}
use Rattle.trust_desk.specs.MatchStep.{statement_for, unmatched_for}
use Rattle.trust_desk.specs.ReportStep.{report_conditions, report_for, text_unless, trail_for}
use Rattle.trust_desk.specs.declared.requests.CallerList.{CallerList}
use Rattle.trust_desk.specs.declared.requests.CallerList.TheVariants.{Matters, Waiting}
use Rattle.trust_desk.specs.declared.requests.Request.TheVariants as requests
use Rattle.desk_trail.proofs.Alike.{Ignores, Part, TheActs, TheDismissals, shows}
use Rattle.desk_trail.specs.TellNothing.{month_with}

-- Reports.

pub report-ignores : (part : Part) (caller : Caller) (report : Report) (today : ℕ) → shows part (Asks (requests.Report caller report)) ≡ false → Ignores part (report_for caller report today)
unfolding has_no_statement is_period_purged is_purged_at is_purged_within exceptions_report trial_report journal_report retention_report own_card_report reconciliation_report clients_report outstanding_report receipts_report disbursements_report approvals_report month_report
report-ignores part caller (Today Exceptions) today silent firm = refl
report-ignores part caller (Today Trial) today silent firm = refl
report-ignores part caller (Today Journal) today silent firm = refl
report-ignores part caller (Today Retention) today silent firm = refl
report-ignores part caller (Today OwnLedger) today silent firm = refl
report-ignores TheActs caller (Today Trail) today silent firm = absurd (false≢true (sym silent))
report-ignores TheDismissals caller (Today Trail) today silent firm = absurd (false≢true (sym silent))
report-ignores part caller (AsOf Reconciliation day) today silent firm = refl
report-ignores part caller (AsOf Clients day) today silent firm = refl
report-ignores part caller (AsOf Outstanding day) today silent firm = refl
report-ignores TheActs caller (AsOf Month day) today silent firm = absurd (false≢true (sym silent))
report-ignores TheDismissals caller (AsOf Month day) today silent firm = refl
report-ignores part caller (Within Receipts period) today silent firm = refl
report-ignores part caller (Within Disbursements period) today silent firm = refl
report-ignores TheActs caller (Within Approvals period) today silent firm = absurd (false≢true (sym silent))
report-ignores TheDismissals caller (Within Approvals period) today silent firm = refl

-- The packet of month's end: its last part aside.

pub month_is : (caller : Caller) (day today : ℕ) (firm : Firm) → report_for caller (AsOf Month day) today firm ≡ text_unless (first (report_conditions caller (AsOf Month day) firm)) (month_with (approvals_report (month_to day) firm) day firm)
unfolding month_report
month_is caller day today firm = refl

pub month-ignores : (part : Part) (caller : Caller) (approvals : List ℕ) (day : ℕ) → Ignores part (λ (f : Firm). text_unless (first (report_conditions caller (AsOf Month day) f)) (month_with approvals day f))
unfolding has_no_statement is_period_purged is_purged_at is_purged_within reconciliation_report clients_report outstanding_report receipts_report disbursements_report
month-ignores part caller approvals day firm = refl

-- The acts of a matter.

pub trail-ignores : (part : Part) (caller : Caller) (m today : ℕ) → shows part (Asks (requests.Trail caller m)) ≡ false → Ignores part (trail_for caller m today)
unfolding matter_trail_report
trail-ignores TheActs caller m today silent firm = absurd (false≢true (sym silent))
trail-ignores TheDismissals caller m today silent firm = refl

pub acts-ignore : (part : Part) (caller : Caller) (m today : ℕ) → shows part (Asks (requests.Acts caller m)) ≡ false → Ignores part (λ (f : Firm). acts_for caller today (dossier_of m f))
acts-ignore TheActs caller m today silent firm = absurd (false≢true (sym silent))
acts-ignore TheDismissals caller m today silent firm = refl

-- Lists.

pub list-ignores : (part : Part) (caller : Caller) (list : CallerList) (today : ℕ) → Ignores part (list_for caller list today)
unfolding matters_body waiting_body
list-ignores part caller Matters today firm = refl
list-ignores part caller Waiting today firm = refl

pub reasons-ignore : (part : Part) (caller : Caller) (today : ℕ) → Ignores part (reasons_for caller today)
unfolding reasons_body
reasons-ignore part caller today firm = refl

-- A match.

pub statement-ignores : (part : Part) (caller : Caller) (bytes : List ℕ) (today : ℕ) → Ignores part (statement_for caller bytes today)
unfolding matched known_of held_of
statement-ignores part caller bytes today firm = refl

pub unmatched-ignores : (part : Part) (caller : Caller) (bytes : List ℕ) (today : ℕ) → Ignores part (unmatched_for caller bytes today)
unfolding matched known_of held_of
unmatched-ignores part caller bytes today firm = refl
