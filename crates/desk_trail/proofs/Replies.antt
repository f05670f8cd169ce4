-- Two firms that differ in one part of their trail alone answer alike, step by step and in runs.
use Rattle.std.proofs.Common.{◌≡◌, ℕ, Bool, true, false, [], ◌∷◌, refl, ap, ◌∙◌}
use Rattle.std.proofs.lemmas.Bool.{or_parts}
use Rattle.std.specs.Prelude.{MatchBool}
use Rattle.std.specs.List.{list_any}
use Rattle.trust_base.specs.Periods.{month_to}
use Rattle.trust_matter.specs.Step.{first}
use Rattle.firm_rows.specs.Firm.{Firm, of}
use Rattle.book_reports.specs.Reports.{approvals_report}
use Rattle.book_reports.specs.declared.report.DayReport.TheVariants.{Month}
use Rattle.book_reports.specs.declared.report.Report.TheVariants.{AsOf}
use Rattle.trust_desk.specs.declared.requests.MatchText.TheVariants as text
use Rattle.trust_desk.specs.declared.requests.Reply.{Reply}
use Rattle.trust_desk.specs.declared.requests.Request.TheVariants.{Matter, Import, Match, Dismiss, Report, Trail, Acts, Listed, Reasons}
use Rattle.trust_desk.specs.Acts.{acts_for, dossier_of}
use Rattle.trust_desk.specs.Dismissing.{dismiss_refusal, dismiss_reply}
use Rattle.trust_desk.specs.FirmStep.{IsStopped, KindStopped, Steps, firm_step}
use Rattle.trust_desk.specs.Heard.{Asks, Unread, Heard, Kind, OfItems, asked_on, kind_of}
use Rattle.trust_desk.specs.ImportStep.{import_refusal, import_reply, imported}
use Rattle.trust_desk.specs.ItemStep.{after_items, none_counted}
use Rattle.trust_desk.specs.ListStep.{list_for, reasons_for}
use Rattle.trust_desk.specs.MatchStep.{statement_for, unmatched_for}
use Rattle.trust_desk.specs.ReportStep.{report_conditions, report_for, text_unless, trail_for}
use Rattle.trust_desk.specs.Replies.{is_fault_reply, json_reply, reply_of, text_reply}
use Rattle.desk_trail.specs.TellNothing.{MonthsTellNothing, RunsTellNothing, StepsTellNothing, month_with}
use Rattle.desk_trail.proofs.Alike.{Part, TheActs, alike, counts-alike, items-alike, made-alike, shows, without}
use Rattle.desk_trail.proofs.Texts.{acts-ignore, list-ignores, month-ignores, month_is, reasons-ignore, report-ignores, statement-ignores, trail-ignores, unmatched-ignores}

-- A step.

replies-alike : (part : Part) (day : ℕ) (h : Heard) (f g : Firm) → without part f ≡ without part g → shows part h ≡ false → (firm_step day f h).reply ≡ (firm_step day g h).reply
replies-alike part day (Asks (Matter m caller ask)) f g same silent =
    alike part (λ (x : Firm). reply_of m (of m x) (asked_on day caller ask)) (λ firm. refl) f g same
replies-alike part day (Asks (Import caller statement)) f g same silent =
    ap (import_reply (import_refusal caller statement)) (counts-alike part day (imported caller statement) none_counted f g same)
replies-alike part day (Asks (Dismiss caller line)) f g same silent =
    alike part (λ (x : Firm). dismiss_reply (dismiss_refusal caller line x)) (λ firm. refl) f g same
replies-alike part day (Asks (Match caller statement text.Statement)) f g same silent =
    ap text_reply (alike part (statement_for caller statement day) (statement-ignores part caller statement day) f g same)
replies-alike part day (Asks (Match caller statement text.Unmatched)) f g same silent =
    ap json_reply (alike part (unmatched_for caller statement day) (unmatched-ignores part caller statement day) f g same)
replies-alike part day (Asks (Report caller report)) f g same silent =
    ap text_reply (alike part (report_for caller report day) (report-ignores part caller report day silent) f g same)
replies-alike part day (Asks (Trail caller m)) f g same silent =
    ap text_reply (alike part (trail_for caller m day) (trail-ignores part caller m day silent) f g same)
replies-alike part day (Asks (Acts caller m)) f g same silent =
    ap json_reply (alike part (λ (x : Firm). acts_for caller day (dossier_of m x)) (acts-ignore part caller m day silent) f g same)
replies-alike part day (Asks (Listed caller list)) f g same silent =
    ap json_reply (alike part (list_for caller list day) (list-ignores part caller list day) f g same)
replies-alike part day (Asks (Reasons caller)) f g same silent =
    ap json_reply (alike part (reasons_for caller day) (reasons-ignore part caller day) f g same)
replies-alike part day (Unread named refusal) f g same silent = refl

pub steps-tell_nothing : (part : Part) → StepsTellNothing (without part) (shows part)
steps-tell_nothing part day f g h same = (replies-alike part day h f g same, made-alike part day (kind_of h) f g same)

pub months-tell_nothing : MonthsTellNothing
months-tell_nothing today day caller f g same =
    let approvals = approvals_report (month_to day) f in
    let told = λ (x : Firm). text_unless (first (report_conditions caller (AsOf Month day) x)) (month_with approvals day x) in
    ap text_reply (month_is caller day today f ∙ alike TheActs told (month-ignores TheActs caller approvals day) f g same)

-- A run.

-- what was stopped over the one firm may have been over the other
stopped-alike : (part : Part) (day : ℕ) (f g after : Firm) (k : Kind) → without part f ≡ without part g → KindStopped day f k after
    → (other : Firm) × KindStopped day g k other × (without part after ≡ without part other)
stopped-alike part day f g after (OfItems refused items) same is =
    let left = is.1 in (
      after_items day g left.front,
      (is.0, record { front = left.front; parts = left.parts; leaves = refl }),
      ap (without part) left.leaves ∙ items-alike part day left.front f g same,
    )
stopped-alike part day f g after _ same is = (g, refl, ap (without part) is ∙ same)

step-alike : (part : Part) (day : ℕ) (f g after : Firm) (h : Heard) (reply : Reply) → without part f ≡ without part g → shows part h ≡ false → Steps day f h reply after
    → (other : Firm) × Steps day g h reply other × (without part after ≡ without part other)
step-alike part day f g after h reply same silent step = cases (is_fault_reply reply) step
  where
    cases : (b : Bool) → MatchBool b (IsStopped day f h reply after) ((reply ≡ (firm_step day f h).reply) × (after ≡ (firm_step day f h).firm))
        → (other : Firm) × MatchBool b (IsStopped day g h reply other) ((reply ≡ (firm_step day g h).reply) × (other ≡ (firm_step day g h).firm)) × (without part after ≡ without part other)
    cases true is =
        let to = stopped-alike part day f g after (kind_of h) same is.leaves in
        (to.0, record { says = is.says; leaves = to.1 }, to.2)
    cases false is =
        let tells = steps-tell_nothing part day f g h same in
        ((firm_step day g h).firm, (is.0 ∙ tells.0 silent, refl), ap (without part) is.1 ∙ tells.1)

pub runs-tell_nothing : (part : Part) → RunsTellNothing (without part) (shows part)
runs-tell_nothing part day f g after [] [] same none run = (g, refl, ap (without part) run ∙ same)
runs-tell_nothing part day f g after (h ∷ hs) (reply ∷ replies) same none run =
    let each = or_parts (shows part h) (list_any (shows part) hs) none in
    let to = step-alike part day f g run.0 h reply same each.0 run.1 in
    let more = runs-tell_nothing part day run.0 to.0 after hs replies to.2 each.1 run.2 in
    (more.0, (to.0, to.1, more.1), more.2)
runs-tell_nothing part day f g after _ _ same none run = absurd run
