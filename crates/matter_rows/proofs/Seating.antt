-- The seats by person, after one is added or given up.
use Rattle.matter_rows.proofs.Names.{AllByRecursion, filter, insert, position, position_or_len, suc, ◌≡◌, ℕ, ◌+◌, ◌≤◌, not, Bool, true, false, cond, List, [], ◌∷◌, ◌++◌, length, refl, ap, ◌∙◌, arith, Some, None, Seat, comes_before, role_in, seat_of, seats_with, AreInOrder}
use Rattle.std.specs.Option.{option_map}
use Rattle.std.specs.Str.{bytes_eq}
use Rattle.std.proofs.lemmas.Cmp.{nat_list_cmp_total}
use Rattle.std.proofs.lemmas.Map.Text.{is_eq-slice_cmp}
use Rattle.matter_rows.proofs.Places.{place-some, place-none}

-- The order of names.

before-trans : (a b c : List ℕ) → comes_before a b ≡ true → comes_before b c ≡ true → comes_before a c ≡ true
before-trans a b c h g = grind (arith, (nat_list_cmp_total.trans a b c))

pub before-antisym : (a b : List ℕ) → comes_before a b ≡ true → comes_before b a ≡ false
before-antisym a b h = grind (arith, (nat_list_cmp_total.antisymm b a))

pub before-total : (a b : List ℕ) → comes_before a b ≡ false → bytes_eq a b ≡ false → comes_before b a ≡ true
before-total a b h g = grind (arith, (nat_list_cmp_total.antisymm b a), (is_eq-slice_cmp a b))

-- A seat in its place.

abbrev stands_after : List ℕ → Seat → Bool
stands_after p s = comes_before p s.person

-- the place of a seat: in front of the first person who comes after
abbrev place : List Seat → List ℕ → ℕ
place ss p = position_or_len (stands_after p) ss

abbrev pub before : List ℕ → List Seat → List Seat
before p ss = filter (λ s. comes_before s.person p) ss

abbrev pub after : List ℕ → List Seat → List Seat
after p ss = filter (λ s. comes_before p s.person) ss

-- of seats that all come after, none comes before
pub all-after : (p : List ℕ) (ss : List Seat) → AllByRecursion (λ s. comes_before p s.person ≡ true) ss → (before p ss ≡ []) × (after p ss ≡ ss)
all-after p [] h = (refl, refl)
all-after p (s ∷ ss) h = grind (arith, before-antisym, (all-after p ss h.1))

pub after-more : (p q : List ℕ) (ss : List Seat) → comes_before p q ≡ true → AllByRecursion (λ s. comes_before q s.person ≡ true) ss → AllByRecursion (λ s. comes_before p s.person ≡ true) ss
after-more p q [] h all = tt
after-more p q (s ∷ ss) h all = (before-trans p q s.person h all.0, after-more p q ss h all.1)

-- who has no seat is not the first, and has none behind it
pub no-seat : (s : Seat) (ss : List Seat) (p : List ℕ) → role_in (s ∷ ss) p ≡ None → (bytes_eq s.person p ≡ false) × (role_in ss p ≡ None)
no-seat s ss p h = grind (arith, option_map, seat_of)

pub bytes_eq-swap : (a b : List ℕ) → bytes_eq a b ≡ false → bytes_eq b a ≡ false
bytes_eq-swap a b h =
    grind (arith, (is_eq-slice_cmp a b), (is_eq-slice_cmp b a), (nat_list_cmp_total.antisymm b a))

at-place : (ss : List Seat) (new : Seat) → AreInOrder ss → role_in ss new.person ≡ None → insert ss (place ss new.person) new ≡ seats_with ss new
at-place [] new order none = refl
at-place (s ∷ ss) new order none =
    let apart = no-seat s ss new.person none in
    elim (comes_before new.person s.person) as (λ b. comes_before new.person s.person ≡ b → insert (s ∷ ss) (cond (not b) (1 + place ss new.person) 0) new ≡ seats_with (s ∷ ss) new) [
      | true ↦ λ yes.
          let all : AllByRecursion (λ t. comes_before new.person t.person ≡ true) (s ∷ ss) = (yes, after-more new.person s.person ss yes order.0) in
          let split = all-after new.person (s ∷ ss) all in
          rw (split.0, split.1) refl
      | false ↦ λ no.
          let yes : comes_before s.person new.person ≡ true = before-total new.person s.person no (bytes_eq-swap s.person new.person apart.0) in
          let next : 1 + place ss new.person ≡ suc (place ss new.person) = omega arith in
          rw (next, yes, no) (ap (λ l. s ∷ l) (at-place ss new order.1 apart.1))
    ] refl

at-end : (ss : List Seat) (new : Seat) → role_in ss new.person ≡ None → length ss ≤ place ss new.person → ss ++ new ∷ [] ≡ seats_with ss new
at-end [] new none last = refl
at-end (s ∷ ss) new none last = grind (arith, no-seat, before-total, bytes_eq-swap, (at-end ss new))

pub seated-at : (ss : List Seat) (new : Seat) (i : ℕ) → Some i ≡ position (stands_after new.person) ss → AreInOrder ss → role_in ss new.person ≡ None → insert ss i new ≡ seats_with ss new
seated-at ss new i h order none = ap (λ j. insert ss j new) (place-some (stands_after new.person) ss i h).1 ∙ at-place ss new order none

pub seated-last : (ss : List Seat) (new : Seat) → None ≡ position (stands_after new.person) ss → role_in ss new.person ≡ None → ss ++ new ∷ [] ≡ seats_with ss new
seated-last ss new h none = at-end ss new none (place-none (stands_after new.person) ss h)

pub ruleset seat_steps = (seated-at, seated-last)
