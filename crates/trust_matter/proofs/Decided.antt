-- What is decided on what is kept is decided on the rows.
use Rattle.std.specs.Prelude.{IfErr, MatchResult}
use Rattle.trust_base.specs.declared.refusal.Refusal.TheVariants as refusals
use Rattle.matter_rows.specs.declared.act.Act.{Act}
use Rattle.trust_matter.specs.Acts.{act_by}
use Rattle.trust_matter.specs.Step.{MayRefuse, WhyNotMade}
use Rattle.trust_matter.proofs.Names.{AnswersBy, AreSmallTotals, Asked, Decides, Edit, EditMoved, Err, Facts, HasAmount, IfOk, IsMade, IsPart, MatterChange, None, Ok, OnErr, Option, Part, Refusal, Result, Rows, Sound, TotalsAfter, edit_on, entry_at, entry_in, facts_of, holds_for, kept_at, kept_facts, last_after, never-store, number_named, other_of, refusal, subst, sym, true, ℕ, ◌≡◌, arith, ints, nat_tests}
use Rattle.trust_matter.proofs.Parts.{facts-same, both, made-is}
use Rattle.trust_matter.proofs.Steps.{step}

-- what is answered by what is kept is answered by the rows
on-rows : (m : Part) (rows : Rows) (a : Asked) (r : Result Edit Refusal) → holds_for m a.ask ≡ true → Sound rows
    → IsPart m rows → AnswersBy (kept_facts m a.ask) a r → AnswersBy (facts_of rows a.ask) a r
on-rows m rows a r h s p g = subst (λ (f : Facts). AnswersBy f a r) (facts-same m rows a.ask s.backed.named p h) g

-- the answer is right for all sound rows that the matter is part of
abbrev pub DecidesAll : Part → Asked → Result MatterChange Refusal → Type 0
DecidesAll m a r = (rows : Rows) → Sound rows → IsPart m rows → Decides rows a r

-- no totals are those after the edit
abbrev NoTotals : Part → Edit → Type 0
NoTotals m e = (v : TotalsAfter) → AreSmallTotals v → EditMoved m e v → ⊥

-- the change that is made of an edit has its act, or there is none for a reason
pub made-by : (m : Part) (e : Edit) (last : ℕ) (act : Option Act) (r : Result MatterChange Refusal)
    → IfOk r (λ c. IsMade m e last c) → IfOk r (λ c. c.act ≡ act) → IfErr r (λ x. x ≡ refusals.Store)
    → OnErr r (NoTotals m e)
    → MatchResult r (λ c. IsMade m e last c × (c.act ≡ act)) (λ x. WhyNotMade m e x)
made-by m e last act (Ok c) made has is none = (made, has)
made-by m e last act (Err r) made has is none = subst (λ (x : Refusal). WhyNotMade m e x) (sym is) none

-- where there are totals after the edit, it is not made for want of memory alone
not-made : (m : Part) (e : Edit) (r : Refusal) (o : Option Refusal) → WhyNotMade m e r → o ≡ None
    → (NoTotals m e → ⊥) → MayRefuse o r
not-made m e refusals.Memory o why accepted some = accepted
not-made m e refusals.Store o why accepted some = some why
not-made m e r o why accepted some = absurd why

-- an accepted edit is the change of the rows, or the want of one that is there
pub decided-made : (m : Part) (a : Asked) (e : Edit) (r : Result MatterChange Refusal) → holds_for m a.ask ≡ true
    → HasAmount a.ask → AnswersBy (kept_facts m a.ask) a (Ok e)
    → MatchResult r (λ c. IsMade m e (last_after m.head e a.day) c × (c.act ≡ act_by e a)) (λ x. WhyNotMade m e x)
    → DecidesAll m a r
decided-made m a e (Ok c) h amount g made rows s p =
    let on = on-rows m rows a (Ok e) h s p g in
    grind (arith, ints, nat_tests, number_named, made-is, other_of, entry_at, last_after, step)
decided-made m a e (Err r) h amount g made rows s p =
    let on = on-rows m rows a (Ok e) h s p g in
    not-made m e r (refusal rows a) made on.0 (λ none.
    grind (arith, ints, nat_tests, facts-same, both, entry_in, kept_at, never-store, entry_at, edit_on, step))

-- a refusal by what is kept is that of the rows
pub decided-refused : (m : Part) (a : Asked) (r : Refusal) → holds_for m a.ask ≡ true
    → AnswersBy (kept_facts m a.ask) a (Err r) → DecidesAll m a (Err r)
decided-refused m a r h g rows s p = on-rows m rows a (Err r) h s p g
