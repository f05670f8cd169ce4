-- What the early conditions and the later ones say of an ask together.
use Rattle.trust_matter.proofs.Names.{◌≡◌, ℕ, ◌++◌, sym, Bool, true, false, cond, List, [], ◌∷◌, Option, Some, None, refl, subst, Result, Err, Refusal, Edit, Part, Ask, Caller, kept_facts, has_no_seat, was_purged, is_not_allowed, is_repeat, rule_of, first, early_conditions, later_conditions, late_refusal, refusal_of, decided, Answers, AnswersBy, AnswersLateBy, HasAmount, MayRefuse, arith, ints, nat_tests}
use Rattle.std.specs.Result.{IsErr, IsErrAnd}
use Rattle.trust_base.specs.declared.refusal.Rule.{Rule}
use Rattle.trust_base.specs.declared.refusal.Refusal.TheVariants as refusals
use Rattle.trust_matter.proofs.StepForms.{asked}

abbrev none : Option Refusal
none = None

late-first : (b : Bool) (xs ys : List (Bool × Refusal)) → first xs ≡ None → cond b none (first ys) ≡ first (cond b xs (xs ++ ys))
late-first true xs ys h = sym h
late-first false [] ys h = refl
late-first false ((true, r) ∷ xs) ys h = absurd (cc)
late-first false ((false, r) ∷ xs) ys h = late-first false xs ys h

-- what is decided of an ask that comes through the early conditions, and that its amount is one
pub gives-asked : (m : Part) (c : Caller) (a b : Ask) (day : ℕ) (r made : Result Edit Refusal) → a ≡ b → r ≡ made → first (early_conditions (kept_facts m a) (asked c a 0)) ≡ None → HasAmount b → ((c' : Caller) → AnswersLateBy (kept_facts m b) (asked c' b day) made) → AnswersBy (kept_facts m a) (asked c a day) r × HasAmount a
gives-asked m c a b day r made is by known amount late =
    let f = kept_facts m a in
    let q = asked c a day in
    let same : late_refusal f q ≡ refusal_of f q = late-first (is_repeat f q) (early_conditions f q) (later_conditions f q) known in
    let P : Ask → Type 0 = λ x. AnswersLateBy (kept_facts m x) (asked c x day) made in
    let M : Result Edit Refusal → Type 0 = λ x. AnswersLateBy f q x in
    let Q : Option Refusal → Type 0 = λ o. Answers o (decided f q) r in
    (subst Q same (subst M (sym by) (subst P (sym is) (late c))), subst HasAmount (sym is) amount)

early-first : (s g n b : Bool) (rule : Rule) (ys : List (Bool × Refusal)) (r : Refusal) → first ((s, refusals.NoMatter) ∷ (g, refusals.Purged) ∷ (n, refusals.NotAllowed rule) ∷ []) ≡ Some r →
    MayRefuse (first (cond b ((s, refusals.NoMatter) ∷ (g, refusals.Purged) ∷ (n, refusals.NotAllowed rule) ∷ []) ((s, refusals.NoMatter) ∷ (g, refusals.Purged) ∷ (n, refusals.NotAllowed rule) ∷ ys))) r
early-first false false false b rule ys r h = absurd (cc)
early-first true g n true rule ys r h = let P : Refusal → Type 0 = λ x. MayRefuse (Some refusals.NoMatter) x in let is : refusals.NoMatter ≡ r = cc in subst P is refl
early-first true g n false rule ys r h = let P : Refusal → Type 0 = λ x. MayRefuse (Some refusals.NoMatter) x in let is : refusals.NoMatter ≡ r = cc in subst P is refl
early-first false true n true rule ys r h = let P : Refusal → Type 0 = λ x. MayRefuse (Some refusals.Purged) x in let is : refusals.Purged ≡ r = cc in subst P is refl
early-first false true n false rule ys r h = let P : Refusal → Type 0 = λ x. MayRefuse (Some refusals.Purged) x in let is : refusals.Purged ≡ r = cc in subst P is refl
early-first false false true true rule ys r h = let P : Refusal → Type 0 = λ x. MayRefuse (Some (refusals.NotAllowed rule)) x in let is : refusals.NotAllowed rule ≡ r = cc in subst P is refl
early-first false false true false rule ys r h = let P : Refusal → Type 0 = λ x. MayRefuse (Some (refusals.NotAllowed rule)) x in let is : refusals.NotAllowed rule ≡ r = cc in subst P is refl

-- what the early conditions refuse is refused
pub early-refused : (m : Part) (c : Caller) (a : Ask) (day : ℕ) (r : Refusal) → first (early_conditions (kept_facts m a) (asked c a 0)) ≡ Some r → AnswersBy (kept_facts m a) (asked c a day) (Err r)
early-refused m c a day r h =
    search (early-first, has_no_seat, was_purged, is_not_allowed, is_repeat, rule_of, later_conditions)

-- what an error hands up
pub handed-up : {T E : Type 0} (P : Result T E → Type 0) (r : Result T E) (x : E) → IsErr r → IsErrAnd r (λ y. y ≡ x) → P (Err x) → P r
handed-up x0 r x is same p = grind (arith, ints, nat_tests)
