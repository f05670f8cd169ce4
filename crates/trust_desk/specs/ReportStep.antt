-- Why a request for a report of the firm is refused, and the text of the report.
use Rattle.std.specs.Prelude.{ℕ, Bool, not, ◌&&◌, List, [], ◌∷◌, Option, Some, None, Result, Ok, Err}
use Rattle.trust_base.specs.declared.refusal.Rule.TheVariants as rule
use Rattle.trust_base.specs.declared.refusal.Refusal.{Refusal}
use Rattle.trust_base.specs.declared.refusal.Refusal.TheVariants as refusals
use Rattle.trust_matter.specs.Step.{first}
use Rattle.firm_rows.specs.Firm.{Firm}
use Rattle.matter_rows.specs.declared.act.Caller.{Caller}
use Rattle.book_reports.specs.ReportTexts.{limits_of, report_text}
use Rattle.book_reports.specs.Reports.{matter_trail_report}
use Rattle.book_reports.specs.Trails.{is_gone_since, is_missing}
use Rattle.book_reports.specs.declared.day_reports.Limits.{Limits}
use Rattle.book_reports.specs.declared.report.Report.{Report}
use Rattle.trust_desk.specs.ImportStep.{is_not_of_firm}

-- a text, unless it is refused
abbrev pub text_unless : Option Refusal → List ℕ → Result (List ℕ) Refusal
text_unless None text = Ok text
text_unless (Some r) text = Err r

-- what only the cashier may ask for is refused because of its caller
abbrev pub caller_conditions : Caller → List (Bool × Refusal)
caller_conditions caller = (is_not_of_firm caller, refusals.NotAllowed rule.Firm) ∷ []

-- each refusal of a report of the firm with its condition, in the order of their numbers
abbrev pub report_conditions : Caller → Report → Firm → List (Bool × Refusal)
report_conditions caller report firm =
    (is_not_of_firm caller, refusals.NotAllowed rule.Firm)
    ∷ ((limits_of report firm).lacks_statement, refusals.NoStatement)
    ∷ ((limits_of report firm).is_purged, refusals.PeriodPurged)
    ∷ []

-- the result of a report on a business day: its text, or the refusal with the least number whose condition holds
abbrev pub report_for : Caller → Report → ℕ → Firm → Result (List ℕ) Refusal
report_for caller report today firm =
    text_unless (first (report_conditions caller report firm)) (report_text report today firm)

-- each refusal of the trail of a matter with its condition, in the order of their numbers. That a matter was never
-- opened, or was purged, only the cashier is told
abbrev pub trail_conditions : Caller → ℕ → Firm → List (Bool × Refusal)
trail_conditions caller m firm =
    (not (is_not_of_firm caller) && is_missing m firm, refusals.NoMatter)
    ∷ (not (is_not_of_firm caller) && is_gone_since m firm, refusals.Purged)
    ∷ (is_not_of_firm caller, refusals.NotAllowed rule.Firm)
    ∷ []

-- the result of the trail of a matter on a business day: its text, or the refusal
abbrev pub trail_for : Caller → ℕ → ℕ → Firm → Result (List ℕ) Refusal
trail_for caller m today firm =
    text_unless (first (trail_conditions caller m firm)) (matter_trail_report m today firm)

-- the trail, or the refusal with the least number whose condition holds
abbrev pub told_trail : Bool → Bool → List ℕ → Result (List ℕ) Refusal
told_trail missing purged text =
    text_unless (first ((missing, refusals.NoMatter) ∷ (purged, refusals.Purged) ∷ [])) text

-- the text, or the refusal with the least number whose condition holds
abbrev pub told_report : Limits → List ℕ → Result (List ℕ) Refusal
told_report limits text =
    text_unless
    (first ((limits.lacks_statement, refusals.NoStatement) ∷ (limits.is_purged, refusals.PeriodPurged) ∷ []))
    text
