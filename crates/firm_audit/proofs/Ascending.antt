-- Matters by number, and rows in their order.
use Rattle.firm_audit.proofs.Names.{◌≡◌, ◌<◌, List, [], ◌∷◌, arith, AllByRecursion, KeptMatter, IsBefore, Ascends, Follow}
use Rattle.std.specs.Cmp.{IsTotalOrder}
use Rattle.std.specs.List.Sorted.{IsStrictlySortedBy}
use Rattle.std.specs.declared.cmp.Ordering.{Ordering}
use Rattle.std.specs.declared.cmp.Ordering.TheVariants.{Less}
use Rattle.firm_audit.proofs.Neighbours.{AreAllBefore, all-before}

-- Matters.

abbrev IsBelow : KeptMatter → KeptMatter → Type 0
IsBelow a b = a.number < b.number

before-is : (m : KeptMatter) (ks : List KeptMatter) → AllByRecursion (IsBelow m) ks → IsBefore m.number ks
before-is m [] all = tt
before-is m (k ∷ ks) all = (all.0, before-is m ks all.1)

ascends-is : (ks : List KeptMatter) → AreAllBefore IsBelow ks → Ascends ks
ascends-is [] all = tt
ascends-is (k ∷ ks) all = (before-is k ks all.0, ascends-is ks all.1)

pub ascends : (ks : List KeptMatter) → Follow IsBelow ks → Ascends ks
ascends ks is = ascends-is ks (all-before IsBelow (λ x y z low high. omega arith) ks is)

-- Rows with an order of their own.

abbrev IsLess : {K : Type 0} → (K → K → Ordering) → K → K → Type 0
IsLess cmp x y = cmp x y ≡ Less

sorted-is : {K : Type 0} (cmp : K → K → Ordering) (xs : List K) → AreAllBefore (IsLess cmp) xs → IsStrictlySortedBy cmp xs
unfolding IsStrictlySortedBy
sorted-is cmp [] all = tt
sorted-is cmp (x ∷ xs) all = (all.0, sorted-is cmp xs all.1)

pub sorted : {K : Type 0} (cmp : K → K → Ordering) → IsTotalOrder cmp → (xs : List K) → Follow (IsLess cmp) xs → IsStrictlySortedBy cmp xs
sorted cmp total xs is = sorted-is cmp xs (all-before (IsLess cmp) total.trans xs is)
