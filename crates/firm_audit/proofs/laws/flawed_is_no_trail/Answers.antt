use Rattle.firm_audit.proofs.Names.{◌≡◌, inl, inr, ℕ, List, Bool, true, false, refl, sym, ◌∙◌, ap, subst, false≢true, entry_at}
use Rattle.std.specs.List.{list_any}
use Rattle.matter_rows.specs.declared.act.Act.{Act}
use Rattle.matter_rows.specs.Rows.{is_gone, is_number}
use Rattle.firm_rows.specs.Firm.{of}
use Rattle.trail_laws.specs.Dossier.{Dossier}
use Rattle.trail_laws.specs.Signed.{begins_with_opening, days_of_approval, days_of_issue}
use Rattle.trail_replay.proofs.Follows.{misfit-is_not_replayed}
use Rattle.firm_audit.specs.Trails.{IsActFlaw, IsApproved, IsApprovedAs, IsEntryFlaw, IsSignedFrom, IsTrailWhere, dossier_of}
use Rattle.firm_audit.specs.declared.trail.TrailFlaw.TheVariants as flaw
use Rattle.firm_audit.proofs.Approvals.{none-of}
use Rattle.firm_audit.proofs.laws.flawed_is_no_trail.Goals as goal

-- of a dossier whose acts fit, each entry has the approvals that it is to have
approved : (m : ℕ) (p : Dossier) (n : ℕ) (gone : Bool) → IsTrailWhere gone m p → IsApproved p n
approved m p n true none =
    subst (λ (acts : List Act). IsApproved (record { rows = p.rows; acts = acts }) n) (sym none) (inl refl)
approved m p n false is = cases (begins_with_opening p.acts) refl is.1
  where
    cases : (b : Bool) → begins_with_opening p.acts ≡ b → IsSignedFrom b m p → IsApproved p n
    cases true begins signed =
        subst (λ (b : Bool). IsApprovedAs b (days_of_approval n p.acts) (days_of_issue (entry_at p.rows.entries n))) (sym begins) (signed.1.issued n)
    cases false later signed = signed.approved n

-- and no entry that is not there has an act
no-flaw : (m : ℕ) (p : Dossier) (n : ℕ) (gone : Bool) → IsTrailWhere gone m p → IsEntryFlaw p n → ⊥
no-flaw m p n gone fits (inr apart) = apart (approved m p n gone fits)
no-flaw m p n true none (inl stray) = false≢true (sym (ap (list_any (λ act. is_number act.entry n)) none) ∙ stray.some)
no-flaw m p n false is (inl stray) = false≢true (sym (none-of p.rows.entries p.acts n is.0 stray.none) ∙ stray.some)

-- and its acts follow, if they begin with its opening
no-misfit : (m : ℕ) (p : Dossier) (n : ℕ) (gone : Bool) → IsTrailWhere gone m p → IsActFlaw m p n → ⊥
no-misfit m p n true none wrong =
    false≢true (sym (ap begins_with_opening none) ∙ wrong.begins)
no-misfit m p n false is wrong = cases (begins_with_opening p.acts) wrong.begins is.1
  where
    cases : (b : Bool) → b ≡ true → IsSignedFrom b m p → ⊥
    cases true begins signed = misfit-is_not_replayed m p wrong.place wrong.misfit signed.0
    cases false begins signed = false≢true begins

pub returns : goal.returns
returns c firm (flaw.Matter m) flawed fits = flawed (fits m)
returns c firm (flaw.Act m n) flawed fits =
    no-misfit m (dossier_of m firm) n (is_gone (of m firm).head) (fits m) flawed
returns c firm (flaw.Entry m n) flawed fits =
    no-flaw m (dossier_of m firm) n (is_gone (of m firm).head) (fits m) flawed
