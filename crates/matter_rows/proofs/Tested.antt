-- Tests of whole rows, entry by entry.
use Rattle.matter_rows.proofs.Names.{◌≡◌, ℕ, ◌+◌, ◌-◌, ◌<◌, ◌≤◌, ◌↔◌, true, List, [], ◌∷◌, length, drop, get_or, arith, drop_more, length-drop, Seat, comes_before, AreInOrder}
use Rattle.std.proofs.Math.ListN.{drop_of_length-le}
use Rattle.matter_rows.proofs.Collected.{entry-at-place}
use Rattle.matter_rows.proofs.Entries.{none-past}
use Rattle.matter_rows.proofs.Seating.{after-more}

-- The rest of a list, from a place on.

pub rest-at : {X : Type 0} (xs : List X) (i : ℕ) (x : X) → i < length xs → x ≡ get_or xs i x → drop i xs ≡ x ∷ drop (i + 1) xs
rest-at xs i x inside at = grind (arith, drop_more)

pub rest-none : {X : Type 0} (xs : List X) (i : ℕ) → length xs ≤ i → drop i xs ≡ []
rest-none xs i past = drop_of_length-le xs past

-- Seats in order: each stands before the next.

abbrev pub AreChained : List Seat → Type 0
AreChained [] = Unit {0}
AreChained (s ∷ []) = Unit {0}
AreChained (s ∷ t ∷ ss) = (comes_before s.person t.person ≡ true) × AreChained (t ∷ ss)

pub chained-of : (ss : List Seat) → AreInOrder ss → AreChained ss
chained-of [] h = tt
chained-of (s ∷ []) h = tt
chained-of (s ∷ t ∷ ss) h = (h.0.0, chained-of (t ∷ ss) h.1)

pub order-of : (ss : List Seat) → AreChained ss → AreInOrder ss
order-of [] h = tt
order-of (s ∷ []) h = (tt, tt)
order-of (s ∷ t ∷ ss) h = grind (arith, (after-more s.person t.person ss h.0), (order-of (t ∷ ss) h.1))

pub order-first : (ss : List Seat) → AreInOrder ss ↔ AreChained (drop 0 ss)
order-first ss = (chained-of ss, order-of ss)

pub order-next : (ss : List Seat) (p : ℕ) (s t : Seat) → (AreInOrder ss ↔ AreChained (drop (p - 1) ss)) → 1 ≤ p → p < length ss → s ≡ get_or ss (p - 1) s → t ≡ get_or ss p t → comes_before s.person t.person ≡ true → AreInOrder ss ↔ AreChained (drop (p + 1 - 1) ss)
order-next ss p s t inv some inside at next here = grind (arith, rest-at)

pub order-fails : (ss : List Seat) (p : ℕ) (s t : Seat) → (AreInOrder ss ↔ AreChained (drop (p - 1) ss)) → 1 ≤ p → p < length ss → s ≡ get_or ss (p - 1) s → t ≡ get_or ss p t → (comes_before s.person t.person ≡ true → ⊥) → AreInOrder ss → ⊥
order-fails ss p s t inv some inside at next none h = grind (arith, rest-at)

chained-last : (ss : List Seat) → length ss ≤ 1 → AreChained ss
chained-last [] h = tt
chained-last (s ∷ []) h = tt
chained-last (s ∷ t ∷ ss) h = absurd (omega arith)

pub order-done : (ss : List Seat) (p : ℕ) → (AreInOrder ss ↔ AreChained (drop (p - 1) ss)) → length ss ≤ p → AreInOrder ss
order-done ss p inv past = inv.1 (chained-last (drop (p - 1) ss) (let l = length-drop (p - 1) ss in omega (arith, l)))

-- what the tests of whole rows cite

pub ruleset rest_steps = (rest-at, rest-none)

pub ruleset order_steps = (order-fails)

pub ruleset place_steps = (entry-at-place, none-past)
