-- A replayed dossier is one whose acts follow.
use Rattle.matter_rows.specs.Rows.{Rows, entry_at, unopened}
use Rattle.matter_rows.specs.declared.act.Act.{Act}
use Rattle.matter_parts.specs.declared.edit.Edit.{Edit}
use Rattle.std.proofs.Common.{List, None, Option, Some, [], ap, append-nil, append_assoc, arith, refl, subst, sym, ℕ, ◌++◌, ◌∙◌, ◌∷◌, ◌≡◌}
use Rattle.std.specs.List.{AllByRecursion}
use Rattle.trust_base.specs.declared.refusal.Refusal.{Refusal}
use Rattle.trust_matter.specs.Laws.{ALine, AnAsk, Doing}
use Rattle.trust_matter.specs.LineStep.{line_act, line_on}
use Rattle.trust_matter.specs.Step.{edit_on, refusal}
use Rattle.trail_laws.specs.Dossier.{Dossier, acts_after, acts_after_line, dossier_after_run, dossier_after_step}
use Rattle.std.proofs.Common.{inl, inr, length, suc, ◌≤◌, ◌<◌, ◌⊎◌}
use Rattle.std.proofs.lemmas.List.{append_cancel_left, length-append}
use Rattle.std.specs.Prelude.{flat_map, option_to_list}
use Rattle.matter_parts.specs.Changes.{acts_by}
use Rattle.matter_parts.specs.declared.edit.Edit.TheVariants as edit
use Rattle.trust_matter.specs.Laws.{after_doing, all_after}
use Rattle.trust_matter.specs.Step.{act_on}
use Rattle.trust_matter.specs.declared.line_verdict.LineEffect.{LineEffect}
use Rattle.trust_matter.specs.declared.line_verdict.LineEffect.TheVariants as told
use Rattle.trail_laws.specs.Replayed.{own_by}
use Rattle.trail_replay.specs.Follows.{Follow, IsNext, MisfitIsNotReplayed, ReplayedFollows, rows_along, rows_next}

-- What a step does to acts, whatever they are: nothing, one more, or none is left.

abbrev Acting : Type 0
Acting = List Act → List Act

abbrev IsActing : Acting → Type 0
IsActing f =
    ((acts : List Act) → f acts ≡ acts)
    ⊎ (((act : Act) × ((acts : List Act) → f acts ≡ acts ++ act ∷ [])) ⊎ ((acts : List Act) → f acts ≡ []))

acting-more : (act : Option Act) (f : Acting) → ((acts : List Act) → f acts ≡ acts ++ option_to_list act) → IsActing f
acting-more None f is = inl (λ acts. is acts ∙ append-nil acts)
acting-more (Some act) f is = inr (inl (act, is))

acting-edit : (e : Edit) (act : Option Act) → IsActing (acts_by e act)
acting-edit edit.Nothing act = inl (λ acts. refl)
acting-edit (edit.Purge day) act = inr (inr (λ acts. refl))
acting-edit (edit.Open o) act = acting-more act (acts_by (edit.Open o) act) (λ acts. refl)
acting-edit (edit.Seat s) act = acting-more act (acts_by (edit.Seat s) act) (λ acts. refl)
acting-edit (edit.Unseat p) act = acting-more act (acts_by (edit.Unseat p) act) (λ acts. refl)
acting-edit (edit.Close day) act = acting-more act (acts_by (edit.Close day) act) (λ acts. refl)
acting-edit (edit.Append x) act = acting-more act (acts_by (edit.Append x) act) (λ acts. refl)
acting-edit (edit.Exchange x) act = acting-more act (acts_by (edit.Exchange x) act) (λ acts. refl)

acting-ask : (r : Option Refusal) (e : Edit) (act : Option Act) → IsActing (acts_after r e act)
acting-ask None e act = acting-edit e act
acting-ask (Some r) e act = inl (λ acts. refl)

acting-line : (v : LineEffect) (act : Act) → IsActing (acts_after_line v act)
acting-line (told.Applied e) act = inr (inl (act, λ acts. refl))
acting-line told.Repeat act = inl (λ acts. refl)
acting-line (told.Unmatched r) act = inl (λ acts. refl)

abbrev of-acts : Rows → List Act → Dossier
of-acts rows acts = record { rows = rows; acts = acts }

abbrev acting : Rows → Doing → Acting
acting rows doing acts = (dossier_after_step (of-acts rows acts) doing).acts

acting-step : (rows : Rows) (doing : Doing) → IsActing (acting rows doing)
acting-step rows (AnAsk a) = acting-ask (refusal rows a) (edit_on rows a) (act_on rows a)
acting-step rows (ALine l today) =
    acting-line (line_on rows l today) (line_act (entry_at rows.entries l.entry) l today)

step-rows : (rows : Rows) (acts : List Act) (doing : Doing)
    → dossier_after_step (of-acts rows acts) doing ≡ of-acts (after_doing rows doing) (acting rows doing acts)
step-rows rows acts (AnAsk a) = refl
step-rows rows acts (ALine l today) = refl

-- a run leaves the acts with at most one more for each step, or fewer than its steps
abbrev pub RunIs : List Act → ℕ → List Act → Type 0
RunIs acts count after =
    ((more : List Act) × ((after ≡ acts ++ more) × (length more ≤ count))) ⊎ (length after < count)

run-same : (acts : List Act) (count : ℕ) (after : List Act) → RunIs acts count after → RunIs acts (suc count) after
run-same acts count after (inl (more, is)) = inl (more, (is.0, grind (arith)))
run-same acts count after (inr short) = inr (grind (arith))

run-more : (acts : List Act) (act : Act) (count : ℕ) (after : List Act) → RunIs (acts ++ act ∷ []) count after
    → RunIs acts (suc count) after
run-more acts act count after (inl (more, is)) =
    inl (act ∷ more, (is.0 ∙ append_assoc acts (act ∷ []) more, grind (arith)))
run-more acts act count after (inr short) = inr (grind (arith))

run-none : (acts : List Act) (count : ℕ) (after : List Act) → RunIs [] count after → RunIs acts (suc count) after
run-none acts count after (inl (more, is)) =
    let long : length after ≡ length more = ap length is.0 in inr (grind (arith))
run-none acts count after (inr short) = inr (grind (arith))

run-by : (f : Acting) (acts : List Act) (count : ℕ) (after : List Act) → IsActing f → RunIs (f acts) count after
    → RunIs acts (suc count) after
run-by f acts count after (inl same) is =
    run-same acts count after (subst (λ (xs : List Act). RunIs xs count after) (same acts) is)
run-by f acts count after (inr (inl (act, more))) is =
    run-more acts act count after (subst (λ (xs : List Act). RunIs xs count after) (more acts) is)
run-by f acts count after (inr (inr none)) is =
    run-none acts count after (subst (λ (xs : List Act). RunIs xs count after) (none acts) is)

run-is : (rows : Rows) (acts : List Act) (run : List Doing)
    → RunIs acts (length run) (dossier_after_run (of-acts rows acts) run).acts
run-is rows acts [] = inl ([], (sym (append-nil acts), grind (arith)))
run-is rows acts (doing ∷ run) =
    let f = acting rows doing in
    let after = after_doing rows doing in
    let P : Dossier → Type 0 = λ q. RunIs acts (suc (length run)) (dossier_after_run q run).acts in
    subst P (sym (step-rows rows acts doing))
    (run-by f acts (length run) (dossier_after_run (of-acts after (f acts)) run).acts (acting-step rows doing)
    (run-is after (f acts) run))

-- each act tells one doing, so there are as many of these
told-length : (own : Act → List Doing) (acts : List Act)
    → AllByRecursion (λ act. (doing : Doing) × (own act ≡ doing ∷ [])) acts → length (flat_map own acts) ≡ length acts
told-length own [] told = refl
told-length own (act ∷ acts) told =
    ap (λ xs. length (xs ++ flat_map own acts)) told.0.1 ∙ ap suc (told-length own acts told.1)

abbrev Tells : (Act → List Doing) → Act → Type 0
Tells own act = (doing : Doing) × (own act ≡ doing ∷ [])

first-same : (a b : Act) (xs ys : List Act) → a ∷ xs ≡ b ∷ ys → a ≡ b
first-same a b xs ys is = cc

-- Forth.

-- if all acts are there at the end, then the step added the first of them
one-added : (f : Acting) (act : Act) (done rest : List Act) → IsActing f
    → RunIs (f done) (length rest) (done ++ act ∷ rest) → (acts : List Act) → f acts ≡ acts ++ act ∷ []
one-added f act done rest (inl same) is acts = absurd (cases is)
  where
    cases : RunIs (f done) (length rest) (done ++ act ∷ rest) → ⊥
    cases (inl (more, is)) =
        let rest_is : act ∷ rest ≡ more =
        append_cancel_left done (act ∷ rest) more (is.0 ∙ ap (λ (xs : List Act). xs ++ more) (same done)) in
        let long : length (act ∷ rest) ≡ length more = ap length rest_is in
        grind (arith)
    cases (inr short) = grind (arith, length-append)
one-added f act done rest (inr (inr none)) is acts = absurd (cases is)
  where
    cases : RunIs (f done) (length rest) (done ++ act ∷ rest) → ⊥
    cases (inl (more, is)) =
        let all : done ++ act ∷ rest ≡ more = is.0 ∙ ap (λ (xs : List Act). xs ++ more) (none done) in
        let long : length (done ++ act ∷ rest) ≡ length more = ap length all in
        grind (arith, length-append)
    cases (inr short) = grind (arith, length-append)
one-added f act done rest (inr (inl (a, more))) is acts =
    more acts ∙ ap (λ (x : Act). acts ++ x ∷ []) (sym (cases is))
  where
    cases : RunIs (f done) (length rest) (done ++ act ∷ rest) → act ≡ a
    cases (inl (xs, is)) =
        let all : done ++ act ∷ rest ≡ done ++ a ∷ xs =
        is.0 ∙ (ap (λ (ys : List Act). ys ++ xs) (more done) ∙ append_assoc done (a ∷ []) xs) in
        first-same act a rest xs (append_cancel_left done (act ∷ rest) (a ∷ xs) all)
    cases (inr short) =
        let no : ⊥ = grind (arith, length-append) in absurd no

follows-from : (own : Act → List Doing) (end rows : Rows) (done rest : List Act) → AllByRecursion (Tells own) rest
    → dossier_after_run (of-acts rows done) (flat_map own rest) ≡ of-acts end (done ++ rest) → Follow own rows rest end
follows-from own end rows done [] told is = ap (λ (p : Dossier). p.rows) is
follows-from own end rows done (act ∷ rest) told is =
    let doing = told.0.0 in
    let f = acting rows doing in
    let after = after_doing rows doing in
    let run = flat_map own rest in
    let made : dossier_after_run (of-acts after (f done)) run ≡ of-acts end (done ++ act ∷ rest) =
    ap (λ (q : Dossier). dossier_after_run q run) (sym (step-rows rows done doing))
    ∙ (ap (λ (xs : List Doing). dossier_after_run (of-acts rows done) (xs ++ run)) (sym told.0.1) ∙ is) in
    let acts_made : (dossier_after_run (of-acts after (f done)) run).acts ≡ done ++ act ∷ rest =
    ap (λ (q : Dossier). q.acts) made in
    let ran : RunIs (f done) (length rest) (done ++ act ∷ rest) =
    subst (λ (n : ℕ). RunIs (f done) n (done ++ act ∷ rest)) (told-length own rest told.1)
    (subst (RunIs (f done) (length run)) acts_made (run-is after (f done) run)) in
    let added = one-added f act done rest (acting-step rows doing) ran in
    let then : dossier_after_run (of-acts after (done ++ act ∷ [])) run ≡ of-acts end ((done ++ act ∷ []) ++ rest) =
    ap (λ (xs : List Act). dossier_after_run (of-acts after xs) run) (sym (added done))
    ∙ (made ∙ ap (of-acts end) (sym (append_assoc done (act ∷ []) rest))) in
    let next : IsNext own rows act = record { doing = doing; told = told.0.1; added = added [] } in (
      next,
      subst (λ (r : Rows). Follow own r rest end) (sym (ap (all_after rows) told.0.1))
          (follows-from own end after (done ++ act ∷ []) rest told.1 then),
    )

-- And back.

act-added : (f : Acting) (act : Act) → IsActing f → f [] ≡ act ∷ [] → (acts : List Act) → f acts ≡ acts ++ act ∷ []
act-added f act (inl same) is acts =
    let no : [] ≡ act ∷ [] = sym (same []) ∙ is in absurd (cc)
act-added f act (inr (inr none)) is acts =
    let no : [] ≡ act ∷ [] = sym (none []) ∙ is in absurd (cc)
act-added f act (inr (inl (a, more))) is acts =
    more acts ∙ ap (λ (x : Act). acts ++ x ∷ []) (first-same a act [] [] (sym (more []) ∙ is))

record Replays (own : Act → List Doing) (end rows : Rows) (done rest : List Act) : Type 0 where
  told : AllByRecursion (Tells own) rest
  again : dossier_after_run (of-acts rows done) (flat_map own rest) ≡ of-acts end (done ++ rest)

replays : (own : Act → List Doing) (end rows : Rows) (done rest : List Act) → Follow own rows rest end
    → Replays own end rows done rest
replays own end rows done [] follow = record {
  told = tt;
  again = ap (λ (r : Rows). of-acts r done) follow ∙ ap (of-acts end) (sym (append-nil done));
}
replays own end rows done (act ∷ rest) follow =
    let next = follow.0 in
    let doing = next.doing in
    let f = acting rows doing in
    let after = after_doing rows doing in
    let run = flat_map own rest in
    let after_is : rows_next own rows act ≡ after = ap (all_after rows) next.told in
    let more = act-added f act (acting-step rows doing) next.added in
    let rest_is = replays own end after (done ++ act ∷ []) rest
    (subst (λ (r : Rows). Follow own r rest end) after_is follow.1) in
    record {
      told = ((doing, next.told), rest_is.told);
      again =
          ap (λ (xs : List Doing). dossier_after_run (of-acts rows done) (xs ++ run)) next.told
          ∙ (ap (λ (q : Dossier). dossier_after_run q run) (step-rows rows done doing ∙ ap (of-acts after) (more done))
          ∙ (rest_is.again ∙ ap (of-acts end) (append_assoc done (act ∷ []) rest)));
    }

pub replayed-follows : ReplayedFollows
replayed-follows m p = (
  λ r. follows-from (own_by m p.rows) p.rows unopened [] p.acts r.told r.again,
  λ follow.
      let is = replays (own_by m p.rows) p.rows unopened [] p.acts follow in
      record { told = is.told; again = is.again },
)

follow-at : (own : Act → List Doing) (end rows : Rows) (before : List Act) (act : Act) (behind : List Act)
    → Follow own rows (before ++ act ∷ behind) end → IsNext own (rows_along own rows before) act
follow-at own end rows [] act behind follow = follow.0
follow-at own end rows (first ∷ before) act behind follow =
    follow-at own end (rows_next own rows first) before act behind follow.1

pub misfit-is_not_replayed : MisfitIsNotReplayed
misfit-is_not_replayed m p place misfit r =
    let follow = (replayed-follows m p).0 r in
    misfit.not_next
    (follow-at (own_by m p.rows) p.rows unopened misfit.before misfit.act misfit.behind
    (subst (λ (acts : List Act). Follow (own_by m p.rows) unopened acts p.rows) misfit.among follow))
