-- What is told within limits.
use Rattle.trust_desk.proofs.Names.{◌≡◌, ℕ, Bool, false, List, [], ◌∷◌, Caller, first, ap, sym, ◌∙◌, is_not_of_firm}
use Rattle.trust_base.specs.declared.refusal.Refusal.TheVariants as refusals
use Rattle.trust_base.specs.declared.refusal.Rule.TheVariants as rule
use Rattle.book_reports.specs.declared.day_reports.Limits.{Limits}
use Rattle.std.specs.Prelude.{not, ◌&&◌}
use Rattle.trust_desk.specs.ReportStep.{text_unless, told_report, told_trail}

-- a report
pub report-limits : (caller : Caller) (found limits : Limits) (said text : List ℕ) → is_not_of_firm caller ≡ false
    → found ≡ limits → said ≡ text
    → told_report found said
    ≡ text_unless (first ((is_not_of_firm caller, refusals.NotAllowed rule.Firm) ∷ (limits.lacks_statement, refusals.NoStatement) ∷ (limits.is_purged, refusals.PeriodPurged) ∷ [])) text
report-limits caller found limits said text allowed is same =
    (λ i. told_report (is i) (same i))
    ∙ sym (ap (λ b. text_unless (first ((b, refusals.NotAllowed rule.Firm) ∷ (limits.lacks_statement, refusals.NoStatement) ∷ (limits.is_purged, refusals.PeriodPurged) ∷ [])) text) allowed)

-- the trail of a matter
pub trail-limits : (caller : Caller) (missing purged is_missing is_purged : Bool) (said text : List ℕ) → is_not_of_firm caller ≡ false
    → is_missing ≡ missing → is_purged ≡ purged → said ≡ text
    → told_trail is_missing is_purged said
    ≡ text_unless (first ((not (is_not_of_firm caller) && missing, refusals.NoMatter) ∷ (not (is_not_of_firm caller) && purged, refusals.Purged) ∷ (is_not_of_firm caller, refusals.NotAllowed rule.Firm) ∷ [])) text
trail-limits caller missing purged is_missing is_purged said text allowed m p same =
    (λ i. told_trail (m i) (p i) (same i))
    ∙ sym (ap (λ b. text_unless (first ((not b && missing, refusals.NoMatter) ∷ (not b && purged, refusals.Purged) ∷ (b, refusals.NotAllowed rule.Firm) ∷ [])) text) allowed)
