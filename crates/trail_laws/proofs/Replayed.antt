-- Each step and each run keeps a dossier replayed.
use Rattle.trail_laws.proofs.Names.{ALine, Act, AllByRecursion, AnAsk, Doing, Dossier, Entry, Head, IsHeaded, List, None, Option, Seat, Sound, [], ap, dossier_after_run, dossier_after_step, false, false≢true, no_dossier, refl, subst, sym, true, ℕ, ◌++◌, ◌∙◌, ◌∷◌, ◌≡◌}
use Rattle.std.proofs.Common.{inl, inr, ◌⊎◌}
use Rattle.std.proofs.lemmas.Grind.{flat_map-append}
use Rattle.std.proofs.lemmas.List.Sums.{fold-append}
use Rattle.std.specs.Prelude.{flat_map}
use Rattle.matter_rows.specs.Rows.{is_gone}
use Rattle.trail_laws.proofs.AskedAgain.{ask-is}
use Rattle.trail_laws.proofs.ShownAgain.{line-is}
use Rattle.trail_laws.proofs.Signed.{sound-step, sound-unopened}
use Rattle.trail_laws.proofs.Told.{Grown, StepIs, says-again}
use Rattle.trail_laws.specs.Replayed.{AreComplete, IsReplayed, IsReplayedIfOpened, IsTold, LaterRunsAreReplayed, RunsAreReplayed, StepsKeepComplete, StepsKeepReplayed, own_by}
use Rattle.trail_laws.specs.Signed.{HasItsAmount, begins_with_opening, is_opened_by}

all-behind : {T : Type 0} (P : T → Type 0) (xs : List T) (x : T) → AllByRecursion P xs → P x
    → AllByRecursion P (xs ++ x ∷ [])
all-behind P [] x all is = (is, tt)
all-behind P (y ∷ ys) x all is = (all.0, all-behind P ys x all.1 is)

replay-more : (own : Act → List Doing) (p : Dossier) (acts : List Act) (act : Act) (doing : Doing)
    → dossier_after_run no_dossier (flat_map own acts) ≡ p → own act ≡ doing ∷ []
    → dossier_after_run no_dossier (flat_map own (acts ++ act ∷ [])) ≡ dossier_after_step p doing
replay-more own p acts act doing made is =
    ap (dossier_after_run no_dossier) (flat_map-append own acts (act ∷ []))
    ∙ (fold-append dossier_after_step no_dossier (flat_map own acts) (flat_map own (act ∷ []))
    ∙ (ap (λ (q : Dossier). dossier_after_run q (flat_map own (act ∷ []))) made
    ∙ ap (λ (ds : List Doing). dossier_after_run p (ds ++ [])) is))

replayed-grown : (m : ℕ) (p after : Dossier) → Grown m p after → IsReplayed m p → IsReplayed m after
replayed-grown m p after g r =
    let own = own_by m after.rows in
    let says = says-again m p.rows after.rows p.acts g.keeps r.told in
    let made : dossier_after_run no_dossier (flat_map own p.acts) ≡ p =
    ap (dossier_after_run no_dossier) says.same ∙ r.again in
    record {
      told = subst (AllByRecursion (IsTold m after.rows)) (sym g.acts)
          (all-behind (IsTold m after.rows) p.acts g.act says.told (g.doing, g.told));
      again = ap (λ (acts : List Act). dossier_after_run no_dossier (flat_map own acts)) g.acts
          ∙ (replay-more own p p.acts g.act g.doing made g.told ∙ g.again);
    }

abbrev Begin : List Act → Type 0
Begin acts = begins_with_opening acts ≡ true

abbrev dossier-of : Option Head → List Seat → List Entry → List Act → Dossier
dossier-of head seats es acts = record { rows = record { head = head; seats = seats; entries = es }; acts = acts }

-- a matter without a head and without acts was never opened
never-opened : (p : Dossier) → p.rows.head ≡ None → p.acts ≡ [] → Sound p.rows → p ≡ no_dossier
never-opened p none bare sound =
    let P : Option Head → Type 0 = λ head. IsHeaded head p.rows.seats p.rows.entries in
    let nothing : (p.rows.seats ≡ []) × (p.rows.entries ≡ []) = subst P none sound.headed in
    ap (λ (head : Option Head). dossier-of head p.rows.seats p.rows.entries p.acts) none
    ∙ (ap (λ (seats : List Seat). dossier-of None seats p.rows.entries p.acts) nothing.0
    ∙ (ap (λ (es : List Entry). dossier-of None [] es p.acts) nothing.1
    ∙ ap (λ (acts : List Act). dossier-of None [] [] acts) bare))

replayed-none : (m : ℕ) → IsReplayed m no_dossier
replayed-none m = record { told = tt; again = refl }

-- before the act the dossier was replayed, or there was none
replayed-before : (m : ℕ) (p : Dossier) (act : Act) (acts : List Act) → p.acts ≡ acts → Sound p.rows
    → IsReplayedIfOpened m p → (is_opened_by act.deed ≡ true → p.rows.head ≡ None)
    → begins_with_opening (acts ++ act ∷ []) ≡ true → IsReplayed m p
replayed-before m p act [] is sound r fresh opens =
    subst (IsReplayed m) (sym (never-opened p (fresh opens) is sound)) (replayed-none m)
replayed-before m p act (first ∷ acts) is sound r fresh opens =
    r (subst Begin (sym is) opens)

opened-grown : (m : ℕ) (p after : Dossier) → Sound p.rows → Grown m p after → IsReplayedIfOpened m p
    → IsReplayedIfOpened m after
opened-grown m p after sound g r opens =
    let opens_before = subst Begin g.acts opens in
    replayed-grown m p after g (replayed-before m p g.act p.acts refl sound r g.fresh opens_before)

pub opened-none : (m : ℕ) (p : Dossier) → p.acts ≡ [] → IsReplayedIfOpened m p
opened-none m p none opens = absurd (false≢true (subst Begin none opens))

opened-step : (m : ℕ) (p after : Dossier) → Sound p.rows → StepIs m p after → IsReplayedIfOpened m p
    → IsReplayedIfOpened m after
opened-step m p after sound (inl same) r = subst (IsReplayedIfOpened m) (sym same) r
opened-step m p after sound (inr (inl grown)) r = opened-grown m p after sound grown r
opened-step m p after sound (inr (inr none)) r = opened-none m after none.0

-- the acts of a matter that is there begin with its opening
begins-grown : (m : ℕ) (p after : Dossier) (g : Grown m p after) → AreComplete p → begins_with_opening after.acts ≡ true
begins-grown m p after g complete = subst Begin (sym g.acts) (cases p.acts refl g.before)
  where
    cases : (acts : List Act) → p.acts ≡ acts → (is_gone p.rows.head ≡ false) ⊎ (is_opened_by g.act.deed ≡ true)
        → Begin (acts ++ g.act ∷ [])
    cases [] is (inl there) = absurd (false≢true (subst Begin is (complete.there there)))
    cases [] is (inr opens) = opens
    cases (first ∷ acts) is (inl there) = subst Begin is (complete.there there)
    cases (first ∷ acts) is (inr opens) =
        let none : first ∷ acts ≡ [] = sym is ∙ complete.gone (ap is_gone (g.fresh opens)) in
        absurd (cc)

pub complete-none : (p : Dossier) → p.acts ≡ [] → is_gone p.rows.head ≡ true → AreComplete p
complete-none p none gone = record { gone = λ is. none; there = λ there. absurd (false≢true (sym there ∙ gone)) }

complete-step : (m : ℕ) (p after : Dossier) → StepIs m p after → AreComplete p → AreComplete after
complete-step m p after (inl same) complete = subst AreComplete (sym same) complete
complete-step m p after (inr (inl grown)) complete = record {
  gone = λ gone. absurd (false≢true (sym grown.there ∙ gone));
  there = λ there. begins-grown m p after grown complete;
}
complete-step m p after (inr (inr none)) complete = complete-none after none.0 none.1

-- Steps and runs.

step-is : (m : ℕ) (p : Dossier) (step : Doing) → Sound p.rows → StepIs m p (dossier_after_step p step)
step-is m p (AnAsk a) sound = ask-is m p a sound
step-is m p (ALine l today) sound = line-is m p l today

pub steps-keep_replayed : StepsKeepReplayed
steps-keep_replayed m p step sound r = opened-step m p (dossier_after_step p step) sound (step-is m p step sound) r

pub steps-keep_complete : StepsKeepComplete
steps-keep_complete p step sound complete =
    complete-step 0 p (dossier_after_step p step) (step-is 0 p step sound) complete

replayed-run : (m : ℕ) (p : Dossier) (run : List Doing) → AllByRecursion HasItsAmount run → Sound p.rows
    → IsReplayedIfOpened m p → IsReplayedIfOpened m (dossier_after_run p run)
replayed-run m p [] amounts sound r = r
replayed-run m p (step ∷ run) amounts sound r =
    replayed-run m (dossier_after_step p step) run amounts.1 (sound-step p step amounts.0 sound)
    (steps-keep_replayed m p step sound r)

complete-run : (p : Dossier) (run : List Doing) → AllByRecursion HasItsAmount run → Sound p.rows → AreComplete p
    → AreComplete (dossier_after_run p run)
complete-run p [] amounts sound complete = complete
complete-run p (step ∷ run) amounts sound complete =
    complete-run (dossier_after_step p step) run amounts.1 (sound-step p step amounts.0 sound)
    (steps-keep_complete p step sound complete)

pub later-runs_are_replayed : LaterRunsAreReplayed
later-runs_are_replayed m rows run amounts sound =
    replayed-run m (record { rows = rows; acts = [] }) run amounts sound
    (opened-none m (record { rows = rows; acts = [] }) refl)

pub runs-are_replayed : RunsAreReplayed
runs-are_replayed m run amounts =
    let complete = complete-run no_dossier run amounts sound-unopened (complete-none no_dossier refl refl) in
    let replayed = replayed-run m no_dossier run amounts sound-unopened (opened-none m no_dossier refl) in
    (complete, λ there. replayed (complete.there there))
