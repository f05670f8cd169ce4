-- The acts of one matter among those of all, one after the other.
use Rattle.trust_store.proofs.Names.{◌≡◌, ℕ, List, [], ◌∷◌, ◌+◌, ◌<◌, ◌≤◌, ◌==◌, true, false, arith, inl, inr, cases_Bool, length, drop, get_or, sym, ap, ◌∙◌, MatterAct, AllByRecursion, acts_in}
use Rattle.std.proofs.lemmas.List.{at_drop_more}
use Rattle.firm_rows.specs.Countable.{IsActInRange}

at_front : (m i : ℕ) (acts : List MatterAct) (a : MatterAct) → i < length acts → a ≡ get_or acts i a
    → acts_in m (drop i acts) ≡ acts_in m (a ∷ drop (i + 1) acts)
at_front m i acts a lt at =
    at_drop_more (acts_in m) acts i a lt ∙ ap (λ x. acts_in m (x ∷ drop (i + 1) acts)) (sym at)

-- an act of the matter is the first of those from its place on
pub own_next : (m i : ℕ) (acts : List MatterAct) (a : MatterAct) → i < length acts → a ≡ get_or acts i a
    → (a.matter == m) ≡ true → acts_in m (drop i acts) ≡ a ∷ acts_in m (drop (i + 1) acts)
own_next m i acts a lt at own = at_front m i acts a lt at ∙ (rw own)

-- any other is not among them
pub other_next : (m i : ℕ) (acts : List MatterAct) (a : MatterAct) → i < length acts → a ≡ get_or acts i a
    → (a.matter == m) ≡ false → acts_in m (drop i acts) ≡ acts_in m (drop (i + 1) acts)
other_next m i acts a lt at other = at_front m i acts a lt at ∙ (rw other)

-- an act has no amount that could be out of range
pub all_ranged : (acts : List MatterAct) → AllByRecursion IsActInRange acts
all_ranged [] = tt
all_ranged (a ∷ acts) = (tt, all_ranged acts)

-- they are no more than all
pub few_in : (m : ℕ) (acts : List MatterAct) → length (acts_in m acts) ≤ length acts
few_in m [] = omega arith
few_in m (a ∷ acts) = elim (cases_Bool (a.matter == m)) [
  | inl own ↦ rw own (omega (arith, few_in m acts))
  | inr other ↦ rw other (omega (arith, few_in m acts))
]
