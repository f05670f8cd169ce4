-- Each step of a matter keeps what the audit of its trail asks.
use Rattle.std.proofs.Common.{◌≡◌, ◌⊎◌, inl, inr, ℕ, Bool, true, false, List, [], ◌∷◌, ◌++◌, Option, None, filter, map, refl, sym, ap, ◌∙◌, subst}
use Rattle.std.proofs.lemmas.Bool.{false≢true}
use Rattle.std.proofs.lemmas.List.{map-append}
use Rattle.std.proofs.lemmas.List.Elements.{filter-append}
use Rattle.std.specs.List.{AllByRecursion}
use Rattle.matter_rows.specs.Rows.{entry_at, is_gone}
use Rattle.matter_rows.specs.Sound.{IsHeaded, Sound}
use Rattle.matter_rows.specs.declared.act.Act.{Act}
use Rattle.matter_rows.specs.declared.head.Head.{Head}
use Rattle.firm_rows.proofs.Ordered.{all-append}
use Rattle.trail_laws.specs.Dossier.{Dossier}
use Rattle.trail_laws.specs.Replayed.{IsReplayedIfOpened}
use Rattle.trail_laws.specs.Signed.{IsSigned, approves, begins_with_opening, days_of_approval, days_of_issue, nothing_before}
use Rattle.trail_laws.proofs.Growing.{Adds, AreBare, signed-bare, signed-more}
use Rattle.trail_laws.proofs.Replayed.{opened-none}
use Rattle.trail_laws.proofs.Steps.{step-adds}
use Rattle.firm_audit.specs.Trails.{IsApprovedAs, IsSignedFrom, IsTrailOf, IsTrailWhere, MayBeAllowed}
use Rattle.desk_trail.proofs.FittingActs.{AreFitting, AtMostOne, all-or-none, entry-once, may-be-allowed, none-fit, signed-later, steps-fit}
use Rattle.desk_trail.proofs.KeptRuns.{StepsKeep}
use Rattle.desk_trail.proofs.ReplayedRuns.{steps-replayed}

-- What the audit asks of one matter, whether or not it is gone.

abbrev pub IsApprovedLater : Dossier → ℕ → Type 0
IsApprovedLater p n = IsApprovedAs false (days_of_approval n p.acts) (days_of_issue (entry_at p.rows.entries n))

pub record AreAudited (p : Dossier) : Type 0 where
  pub opened : begins_with_opening p.acts ≡ true → IsSigned nothing_before p
  pub allowed : AllByRecursion MayBeAllowed p.acts
  pub approved : (n : ℕ) → IsApprovedLater p n

pub record IsWell (m : ℕ) (p : Dossier) : Type 0 where
  pub fitting : AreFitting p
  pub audited : AreAudited p
  pub replayed : IsReplayedIfOpened m p

-- a dossier without acts
pub audited-none : (p : Dossier) → p.acts ≡ [] → AreAudited p
audited-none p none = record {
  opened = λ opens. absurd (false≢true (sym (ap begins_with_opening none) ∙ opens));
  allowed = subst (AllByRecursion MayBeAllowed) (sym none) tt;
  approved = λ n. inl (ap (days_of_approval n) none);
}

pub well-none : (m : ℕ) (p : Dossier) → p.acts ≡ [] → IsWell m p
well-none m p none = record {
  fitting = none-fit p none;
  audited = audited-none p none;
  replayed = opened-none m p none;
}

-- From the audit, and to it.

approved-from : (p : Dossier) (n : ℕ) (opens : Bool)
    → IsApprovedAs opens (days_of_approval n p.acts) (days_of_issue (entry_at p.rows.entries n)) → IsApprovedLater p n
approved-from p n true is = inr is
approved-from p n false is = is

audited-from : (m : ℕ) (p : Dossier) (opens : Bool) → begins_with_opening p.acts ≡ opens → IsSignedFrom opens m p
    → AreAudited p
audited-from m p true begins s = record {
  opened = λ opens. s.1;
  allowed = may-be-allowed [] p.acts s.1.allowed;
  approved = λ n. signed-later nothing_before p n s.1;
}
audited-from m p false begins s = record {
  opened = λ opens. absurd (false≢true (sym begins ∙ opens));
  allowed = s.allowed;
  approved = λ n. approved-from p n (begins_with_opening p.acts) (s.approved n);
}

replayed-from : (m : ℕ) (p : Dossier) (opens : Bool) → begins_with_opening p.acts ≡ opens → IsSignedFrom opens m p
    → IsReplayedIfOpened m p
replayed-from m p true begins s = λ opens. s.0
replayed-from m p false begins s = λ opens. absurd (false≢true (sym begins ∙ opens))

pub well-of : (m : ℕ) (p : Dossier) → IsTrailOf m p → IsWell m p
well-of m p trail = cases (is_gone p.rows.head) refl trail
  where
    cases : (gone : Bool) → is_gone p.rows.head ≡ gone → IsTrailWhere gone m p → IsWell m p
    cases true gone none = well-none m p none
    cases false here is = record {
      fitting = record { gone = λ gone. absurd (false≢true (sym here ∙ gone)); there = is.0 };
      audited = audited-from m p (begins_with_opening p.acts) refl is.1;
      replayed = replayed-from m p (begins_with_opening p.acts) refl is.1;
    }

signed-by : (m : ℕ) (p : Dossier) (opens : Bool) → begins_with_opening p.acts ≡ opens → IsWell m p
    → IsSignedFrom opens m p
signed-by m p true begins well = (well.replayed begins, well.audited.opened begins)
signed-by m p false begins well = record {
  allowed = well.audited.allowed;
  approved = λ n.
      let approved = days_of_approval n p.acts in
      let issued = days_of_issue (entry_at p.rows.entries n) in
      subst (λ opened. IsApprovedAs opened approved issued) (sym begins) (well.audited.approved n);
}

pub trail-by : (m : ℕ) (p : Dossier) → IsWell m p → IsTrailOf m p
trail-by m p well = cases (is_gone p.rows.head) refl
  where
    cases : (gone : Bool) → is_gone p.rows.head ≡ gone → IsTrailWhere gone m p
    cases true gone = well.fitting.gone gone
    cases false here = (well.fitting.there, signed-by m p (begins_with_opening p.acts) refl well)

-- A step.

-- where nothing was done before the opening, the matter had nothing
bare-before : (p : Dossier) → Sound p.rows → p.acts ≡ [] → p.rows.head ≡ None → AreBare p
bare-before p sound acts none =
    let P : Option Head → Type 0 = λ head. IsHeaded head p.rows.seats p.rows.entries in
    let bare : (p.rows.seats ≡ []) × (p.rows.entries ≡ []) = subst P none sound.headed in
    record { acts = acts; seats = bare.0; entries = bare.1 }

opened-before : (p : Dossier) (acts more : List Act) → p.acts ≡ acts → Sound p.rows → AreAudited p
    → (begins_with_opening more ≡ true → p.rows.head ≡ None) → begins_with_opening (acts ++ more) ≡ true
    → IsSigned nothing_before p
opened-before p [] more is sound audited fresh opens = signed-bare p (bare-before p sound is (fresh opens))
opened-before p (act ∷ acts) more is sound audited fresh opens = audited.opened (ap begins_with_opening is ∙ opens)

days-append : (n : ℕ) (acts more : List Act)
    → days_of_approval n (acts ++ more) ≡ days_of_approval n acts ++ days_of_approval n more
days-append n acts more =
    ap (map (λ (act : Act). act.day)) (filter-append (approves n) acts more)
    ∙ map-append (λ (act : Act). act.day) (filter (approves n) acts) (filter (approves n) more)

-- what was approved on the day of its issue, or not at all, and is issued now as it is approved
approved-more : (days issued more : List ℕ) → (days ≡ []) ⊎ (days ≡ issued)
    → ((more ≡ []) ⊎ (more ≡ issued ++ more)) → (days ++ more ≡ []) ⊎ (days ++ more ≡ issued ++ more)
approved-more days issued more (inr same) one = inr (ap (λ ds. ds ++ more) same)
approved-more days issued more (inl none) (inl never) = inl (ap (λ ds. ds ++ more) none ∙ never)
approved-more days issued more (inl none) (inr all) = inr (ap (λ ds. ds ++ more) none ∙ all)

audited-more : (p after : Dossier) → Adds p after → Sound p.rows → AreAudited p → AreAudited after
audited-more p after adds sound is = record {
  opened = λ opens.
      let before =
      opened-before p p.acts adds.more refl sound is adds.fresh (ap begins_with_opening (sym adds.acts) ∙ opens) in
      signed-more nothing_before p after adds sound before;
  allowed =
      let new = may-be-allowed p.rows.seats adds.more adds.allowed in
      subst (AllByRecursion MayBeAllowed) (sym adds.acts) (all-append MayBeAllowed p.acts adds.more is.allowed new);
  approved = λ n.
      let issued = days_of_issue (entry_at p.rows.entries n) in
      let more = days_of_approval n adds.more in
      let once = subst AtMostOne (adds.issued n) (entry-once (entry_at after.rows.entries n)) in
      let days = ap (days_of_approval n) adds.acts ∙ days-append n p.acts adds.more in
      let both = approved-more (days_of_approval n p.acts) issued more (is.approved n) (all-or-none issued more once) in
      let P : List ℕ → List ℕ → Type 0 = λ ds is. (ds ≡ []) ⊎ (ds ≡ is) in
      subst (λ is. P (days_of_approval n after.acts) is) (sym (adds.issued n)) (subst (λ ds. P ds (issued ++ more)) (sym days) both);
}

audited-bare : (after : Dossier) → AreBare after → AreAudited after
audited-bare after bare = audited-none after bare.acts

pub steps-audited : StepsKeep AreAudited
steps-audited p step sound is =
    step-adds nothing_before p step (λ begun after. AreAudited after)
    (λ after adds. audited-more p after adds sound is) audited-bare

pub steps-well : (m : ℕ) → StepsKeep (IsWell m)
steps-well m p step sound is = record {
  fitting = steps-fit p step sound is.fitting;
  audited = steps-audited p step sound is.audited;
  replayed = steps-replayed m p step sound is.replayed;
}
