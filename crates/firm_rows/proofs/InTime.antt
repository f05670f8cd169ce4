-- The movements of a matter follow one another in time, also after a change.
use Rattle.firm_rows.proofs.Names.{◌≡◌, ◌≢◌, ℕ, ◌≤◌, true, List, [], ◌∷◌, ◌++◌, map, Option, Some, refl, ap, ◌∙◌, arith, append-nil, ◌==◌, AllByRecursion, nat_tests, map-append, filter-append, AreRising, IsMovedWithin, Movement, is_of_matter, joined_movement, days_moved}
use Rattle.trust_matter.specs.movement.EntryMovement as change
use Rattle.trust_matter.proofs.Days.{up-to}

-- days that rise, and then one that is not before them
rising-append : (from day : ℕ) (days : List ℕ) → AreRising from days → AllByRecursion (λ d. d ≤ day) days → from ≤ day → AreRising from (days ++ day ∷ [])
rising-append from day [] up by after = (after, tt)
rising-append from day (d ∷ days) up by after = (up.0, rising-append d day days up.1 by.1 by.0)

up_to-append : (last day : ℕ) (days : List ℕ) → AllByRecursion (λ d. d ≤ last) days → day ≤ last → AllByRecursion (λ d. d ≤ last) (days ++ day ∷ [])
up_to-append last day [] by le = (le, tt)
up_to-append last day (d ∷ days) by le = (by.0, up_to-append last day days by.1 le)

pub days-append : (m : ℕ) (xs ys : List Movement) → days_moved m (xs ++ ys) ≡ days_moved m xs ++ days_moved m ys
days-append m xs ys = ap (map (λ v. v.day)) (filter-append (λ v. is_of_matter m v.owner) xs ys) ∙ map-append (λ v. v.day) _ _

days-own : (m : ℕ) (v : change.EntryMovement) → days_moved m (joined_movement m (Some v)) ≡ v.day ∷ []
days-own m v = let t : (m == m) ≡ true = grind (arith, nat_tests) in rw t refl

days-other : (m k : ℕ) (o : Option change.EntryMovement) → k ≢ m → days_moved k (joined_movement m o) ≡ []
days-other m k o apart = grind (arith, nat_tests)

-- the movements of another matter stay
pub days-same : (m k : ℕ) (xs : List Movement) (o : Option change.EntryMovement) → k ≢ m → days_moved k (xs ++ joined_movement m o) ≡ days_moved k xs
days-same m k xs o apart = days-append k xs (joined_movement m o) ∙ (ap (λ ys. days_moved k xs ++ ys) (days-other m k o apart) ∙ append-nil (days_moved k xs))

-- days that rise up to a last one
abbrev pub RiseTo : ℕ → List ℕ → Type 0
RiseTo last days = AreRising 0 days × AllByRecursion (λ d. d ≤ last) days

-- what a matter moves between two last days is moved in time
pub rise-own : (m old new : ℕ) (xs : List Movement) (o : Option change.EntryMovement) → RiseTo old (days_moved m xs) → old ≤ new → IsMovedWithin old new o → RiseTo new (days_moved m (xs ++ joined_movement m o))
rise-own m old new xs o rise later within =
    grind (arith, nat_tests, append-nil, up-to, days-append, days-own, rising-append, up_to-append)
