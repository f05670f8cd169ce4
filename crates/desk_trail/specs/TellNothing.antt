-- The acts of a firm tell nothing but what they say, and neither do its dismissals: no answer depends on them that does
-- not show them, and no row.
use Rattle.std.specs.Prelude.{◌≡◌, ℕ, Bool, true, false, List, [], ◌∷◌}
use Rattle.std.specs.List.{list_any}
use Rattle.trust_base.specs.Periods.{month_to}
use Rattle.matter_rows.specs.declared.act.Caller.{Caller}
use Rattle.trust_matter.specs.Step.{first}
use Rattle.firm_rows.specs.Firm.{Firm, with_acts, with_dismissals}
use Rattle.book_reports.specs.Reports.{approvals_report, clients_report, disbursements_report, outstanding_report, parts, receipts_report, reconciliation_report}
use Rattle.book_reports.specs.declared.report.DayReport.TheVariants.{Clients, Month, Outstanding, Reconciliation}
use Rattle.book_reports.specs.declared.report.PeriodReport.TheVariants.{Approvals, Disbursements, Receipts}
use Rattle.book_reports.specs.declared.report.Report.{Report}
use Rattle.book_reports.specs.declared.report.Report.TheVariants.{AsOf, Today, Within}
use Rattle.book_reports.specs.declared.report.TodayReport.TheVariants.{Exceptions, Journal, OwnLedger, Retention, Trail, Trial}
use Rattle.trust_desk.specs.declared.requests.Reply.{Reply}
use Rattle.trust_desk.specs.declared.requests.Request.{Request}
use Rattle.trust_desk.specs.declared.requests.Request.TheVariants as requests
use Rattle.trust_desk.specs.FirmStep.{Runs, firm_step}
use Rattle.trust_desk.specs.Heard.{Heard, Asks, Unread}
use Rattle.trust_desk.specs.Replies.{text_reply}
use Rattle.trust_desk.specs.ReportStep.{report_conditions, text_unless}

-- the firm without its acts
abbrev pub without_acts : Firm → Firm
without_acts firm = with_acts [] firm

-- the firm without its dismissals
abbrev pub without_dismissals : Firm → Firm
without_dismissals firm = with_dismissals [] firm

-- What shows acts.

-- the trail of the firm has its acts, as has the list of approvals, of which the packet of month's end has that of the
-- month
abbrev pub has_acts : Report → Bool
has_acts (Today Exceptions) = false
has_acts (Today Trial) = false
has_acts (Today Journal) = false
has_acts (Today Retention) = false
has_acts (Today OwnLedger) = false
has_acts (Today Trail) = true
has_acts (AsOf Reconciliation day) = false
has_acts (AsOf Clients day) = false
has_acts (AsOf Outstanding day) = false
has_acts (AsOf Month day) = true
has_acts (Within Receipts period) = false
has_acts (Within Disbursements period) = false
has_acts (Within Approvals period) = true

-- the request is for the trail, of the firm or of a matter, for the acts of a matter, or for approvals, of a period or
-- at a month's end
abbrev pub asks_for_acts : Request → Bool
asks_for_acts (requests.Report caller report) = has_acts report
asks_for_acts (requests.Trail caller m) = true
asks_for_acts (requests.Acts caller m) = true
asks_for_acts (requests.Matter m caller ask) = false
asks_for_acts (requests.Import caller statement) = false
asks_for_acts (requests.Dismiss caller line) = false
asks_for_acts (requests.Match caller statement text) = false
asks_for_acts (requests.Listed caller list) = false
asks_for_acts (requests.Reasons caller) = false

abbrev pub shows_acts : Heard → Bool
shows_acts (Asks request) = asks_for_acts request
shows_acts (Unread named refusal) = false

-- What shows dismissals: the trail of the firm. That of a matter has none, nor have the approvals.

abbrev pub shows_dismissals : Heard → Bool
shows_dismissals (Asks (requests.Report caller (Today Trail))) = true
shows_dismissals _ = false

-- Nothing is told.

-- two firms that are the same without a part of them answer alike whatever they hear, unless it is answered with that
-- part, and are the same without it afterwards
abbrev pub StepsTellNothing : (Firm → Firm) → (Heard → Bool) → Type 0
StepsTellNothing without shows =
    (day : ℕ) (f g : Firm) (h : Heard) → without f ≡ without g
    → (shows h ≡ false → (firm_step day f h).reply ≡ (firm_step day g h).reply)
    × (without (firm_step day f h).firm ≡ without (firm_step day g h).firm)

-- so every run of the one firm in which nothing is answered with that part could be one of the other, with the same
-- replies, and would leave two firms that are the same without it
abbrev pub RunsTellNothing : (Firm → Firm) → (Heard → Bool) → Type 0
RunsTellNothing without shows =
    (day : ℕ) (f g after : Firm) (hs : List Heard) (replies : List Reply) → without f ≡ without g
    → list_any shows hs ≡ false → Runs day f hs replies after
    → (other : Firm) × Runs day g hs replies other × (without after ≡ without other)

-- The packet of month's end, which has acts in its last part alone.

-- the packet with this text for its last part, the approvals
abbrev pub month_with : List ℕ → ℕ → Firm → List ℕ
month_with approvals day firm =
    parts (reconciliation_report day firm)
    (clients_report day firm
    ∷ outstanding_report day firm
    ∷ receipts_report (month_to day) firm
    ∷ disbursements_report (month_to day) firm
    ∷ approvals
    ∷ [])

-- two firms that are the same without their acts refuse the packet alike; that of the one is that of the other, with
-- the approvals of the one
abbrev pub MonthsTellNothing : Type 0
MonthsTellNothing =
    (today day : ℕ) (caller : Caller) (f g : Firm) → without_acts f ≡ without_acts g
    → (firm_step today f (Asks (requests.Report caller (AsOf Month day)))).reply
    ≡ text_reply
    (text_unless
    (first (report_conditions caller (AsOf Month day) g))
    (month_with (approvals_report (month_to day) f) day g))
