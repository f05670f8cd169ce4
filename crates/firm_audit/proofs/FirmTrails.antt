-- What is found of loaded matters, each with its acts among all, is so of the firm.
use Rattle.firm_audit.proofs.Names.{◌≡◌, ℕ, zero, suc, ◌≤◌, Bool, true, false, List, [], ◌∷◌, Some, Ok, Err, cond, refl, sym, ap, ◌∙◌, subst, arith, nat_lt, ◌==◌, nat_tests, cases_Bool, false≢true, slice_get, AllByRecursion, Rows, unopened, Firm, of, KeptMatter, rows_kept, IsBefore, Ascends, AreKeptWhole, rows_in, seek, firm_of_all, rows_of-joined, found_err}
use Rattle.std.specs.Prelude.{min, ◌-◌, ◌^◌}
use Rattle.std.specs.List.{list_any}
use Rattle.std.proofs.lemmas.Map.Keys.{any_passes_from_place}
use Rattle.matter_rows.specs.declared.act.Act.{Act}
use Rattle.matter_rows.specs.declared.entry.Entry.{Entry}
use Rattle.firm_rows.specs.declared.matter_act.MatterAct.{MatterAct}
use Rattle.trust_store.specs.declared.all_rows.AllRows.{AllRows}
use Rattle.trust_store.proofs.KeptMatters.{found_ok}
use Rattle.trail_laws.specs.Dossier.{Dossier}
use Rattle.firm_audit.specs.Trails.{AreMattersFound, HasActsAlone, HasItsTrail, IsActFlaw, IsAmissAmong, IsAmong, IsEntryFlaw, IsMatterFlawed, IsTrailFlawOf, IsTrailFound, IsTrailOf, acts_among, all_with, dossier_of, dossier_kept, entries_with, is_approved_issue, is_earlier_issue}
use Rattle.firm_audit.specs.declared.trail.TrailFlaw.{TrailFlaw}
use Rattle.firm_audit.specs.declared.trail.TrailFlaw.TheVariants as flaw
use Rattle.firm_audit.specs.declared.trail.TrailFound.{TrailFound}
use Rattle.firm_audit.specs.declared.trail.TrailFound.TheVariants as found
use Rattle.firm_audit.proofs.Counted.{counted-joined, earlier-joined}
use Rattle.firm_audit.proofs.Strays.{rows-there}

-- Whether a matter is among those that were loaded.

pub found-among : (m i : ℕ) (ks : List KeptMatter) → Ok i ≡ seek m ks → IsAmong ks m
found-among m i ks found =
    let at = found_ok m i ks ks refl found in
    let same : (at.there.number == m) ≡ true = grind (arith, nat_tests, at.is) in
    any_passes_from_place (λ k. k.number == m) ks i at.there at.at same

pub missing-alone : (m i : ℕ) (ks : List KeptMatter) (acts : List MatterAct) → Err i ≡ seek m ks → (acts_among m acts ≡ [] → ⊥) → HasActsAlone ks acts m
missing-alone m i ks acts missing some = record { gone = (found_err m i ks ks refl missing).rows; some = some }

-- an act is among those of its matter
pub acts-there : (acts : List MatterAct) (i : ℕ) (a : MatterAct) → slice_get acts i ≡ Some a → acts_among a.matter acts ≡ [] → ⊥
acts-there [] i a at none = cc
acts-there (b ∷ acts) zero a at none =
    let same : b ≡ a = cc in
    let own : (b.matter == a.matter) ≡ true = grind (arith, nat_tests) in
    grind (arith, nat_tests)
acts-there (b ∷ acts) (suc i) a at none = grind (arith, nat_tests, cases_Bool, (acts-there acts i a at))

-- a matter that is not among them has no acts, if each act's is
none-alone : (m : ℕ) (ks : List KeptMatter) (acts : List MatterAct) → AllByRecursion (λ a. IsAmong ks a.matter) acts → list_any (λ k. k.number == m) ks ≡ false → acts_among m acts ≡ []
none-alone m ks [] all apart = refl
none-alone m ks (a ∷ acts) all apart = cases (a.matter == m) refl (none-alone m ks acts all.1 apart)
  where
    cases : (b : Bool) → (a.matter == m) ≡ b → acts_among m acts ≡ [] → acts_among m (a ∷ acts) ≡ []
    cases true is more =
        let same : a.matter ≡ m = grind (arith, nat_tests) in
        absurd (false≢true (sym apart ∙ subst (λ (n : ℕ). IsAmong ks n) same all.0))
    cases false is more = rw is more

-- nor one whose number is below the others
none-below : (m n : ℕ) (ks : List KeptMatter) → m ≤ n → IsBefore n ks → list_any (λ k. k.number == m) ks ≡ false
none-below m n [] le below = refl
none-below m n (k ∷ ks) le below = grind (arith, nat_tests, (none-below m n ks le below.1))

-- what holds of each loaded matter's rows, and of those of one that is not among them, holds of all
each-among : (P : ℕ → Rows → Type 0) (m : ℕ) (ks : List KeptMatter) → Ascends ks → (list_any (λ k. k.number == m) ks ≡ false → P m unopened)
    → AllByRecursion (λ k. P k.number (rows_kept k.matter)) ks → P m (rows_in m ks)
each-among P m [] up none all = none refl
each-among P m (k ∷ ks) up none all =
    cases (nat_lt k.number m) (k.number == m) refl refl none (λ rest. each-among P m ks up.1 rest all.1)
  where
    cases : (b c : Bool) → nat_lt k.number m ≡ b → (k.number == m) ≡ c → (list_any (λ k. k.number == m) (k ∷ ks) ≡ false → P m unopened)
        → ((list_any (λ k. k.number == m) ks ≡ false → P m unopened) → P m (rows_in m ks)) → P m (cond b (rows_in m ks) (cond c (rows_kept k.matter) unopened))
    cases true c below is none more =
        let other : (k.number == m) ≡ false = grind (arith, nat_tests) in more (λ apart. none (rw other apart))
    cases false true below is none more =
        let same : k.number ≡ m = grind (arith, nat_tests) in
        subst (λ (n : ℕ). P n (rows_kept k.matter)) same all.0
    cases false false below is none more =
        let before : m ≤ k.number = grind (arith, nat_tests) in
        none (rw is (none-below m k.number ks before up.0))

-- The firm.

module _ (rows : AllRows) (kept : AreKeptWhole rows.matters.items) where
  abbrev ks : List KeptMatter
  ks = rows.matters.items

  abbrev acts : List MatterAct
  acts = rows.acts.items

  abbrev firm : Firm
  firm = firm_of_all rows

  own-rows : (m : ℕ) → rows_in m ks ≡ of m firm
  own-rows m = sym (rows_of-joined m ks kept.ascends)

  abbrev dossier-of : ℕ → Rows → Dossier
  dossier-of m r = record { rows = r; acts = acts_among m acts }

  own-dossier : (m : ℕ) → dossier-of m (rows_in m ks) ≡ dossier_of m firm
  own-dossier m = ap (dossier-of m) (own-rows m)

  pub alone-flawed : (m : ℕ) → HasActsAlone ks acts m → IsTrailOf m (dossier_of m firm) → ⊥
  alone-flawed m alone fits =
      alone.some
      (subst (λ (r : Rows). IsTrailOf m (dossier-of m r)) alone.gone
      (subst (IsTrailOf m) (sym (own-dossier m)) fits))

  amiss-flawed : (f : TrailFlaw) → IsAmissAmong ks acts f → IsTrailFlawOf firm f
  amiss-flawed f among = cases f among.flawed
    where
      m : ℕ
      m = among.kept.number

      here : dossier_kept among.kept (acts_among among.kept.number acts) ≡ dossier_of among.kept.number firm
      here =
          ap (dossier-of among.kept.number) (sym (rows-there ks among.index among.kept kept.ascends among.there))
          ∙ own-dossier among.kept.number

      cases : (g : TrailFlaw) → IsMatterFlawed among.kept (acts_among among.kept.number acts) g → IsTrailFlawOf firm g
      cases (flaw.Matter n) flawed =
          subst (λ (j : ℕ). ¬ IsTrailOf j (dossier_of j firm)) (sym flawed.0)
          (subst (λ (p : Dossier). ¬ IsTrailOf m p) here flawed.1)
      cases (flaw.Act n place) flawed =
          subst (λ (j : ℕ). IsActFlaw j (dossier_of j firm) place) (sym flawed.0)
          (subst (λ (p : Dossier). IsActFlaw m p place) here flawed.1)
      cases (flaw.Entry n e) flawed =
          subst (λ (j : ℕ). IsEntryFlaw (dossier_of j firm) e) (sym flawed.0)
          (subst (λ (p : Dossier). IsEntryFlaw p e) here flawed.1)

  fits-all : AllByRecursion (λ a. IsAmong ks a.matter) acts → AllByRecursion (λ k. IsTrailOf k.number (dossier_kept k (acts_among k.number acts))) ks → HasItsTrail firm
  fits-all among all m =
      subst (IsTrailOf m) (own-dossier m)
      (each-among (λ n r. IsTrailOf n (dossier-of n r)) m ks kept.ascends (none-alone m ks acts among) all)

  all-counted : (test : List Act → ℕ → Entry → Bool) → entries_with test firm ≡ all_with test acts ks
  all-counted test = counted-joined test (λ m. acts_among m acts) ks kept.whole

  -- what was found of the matters is so of the firm, if each act's matter is among them
  pub matters-tell : (told : TrailFound) → AllByRecursion (λ a. IsAmong ks a.matter) acts → AreMattersFound ks acts told → IsTrailFound firm told
  matters-tell (found.Flawed f) among is = amiss-flawed f is
  matters-tell (found.Fits told) among is = (
    fits-all among is.0,
    record {
      approved = is.1.approved ∙ ap (λ n. min n (2 ^ 64 - 1)) (sym (all-counted is_approved_issue));
      earlier = is.1.earlier ∙ ap (λ n. min n (2 ^ 64 - 1)) (sym (all-counted is_earlier_issue));
      matters = is.1.matters ∙ ap (λ n. min n (2 ^ 64 - 1)) (sym (earlier-joined (λ m. acts_among m acts) ks));
    },
  )
