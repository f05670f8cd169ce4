-- Seats stay in order where one is added or given up.
use Rattle.matter_rows.proofs.Names.{AllByRecursion, filter, ◌≡◌, ℕ, Bool, true, false, cond, List, [], ◌∷◌, ◌++◌, refl, Seat, comes_before, seats_with, seats_without, AreInOrder}
use Rattle.matter_rows.proofs.Seating.{after-more}

-- what holds of all holds of those that are kept, which pass the test too
all-filter : (P : Seat → Type 0) (p : Seat → Bool) (ss : List Seat) → AllByRecursion P ss → AllByRecursion P (filter p ss)
all-filter P p [] h = tt
all-filter P p (s ∷ ss) h =
    elim (p s) as (λ b. AllByRecursion P (cond b (s ∷ filter p ss) (filter p ss))) [
      | true ↦ (h.0, all-filter P p ss h.1)
      | false ↦ all-filter P p ss h.1
    ]

passing : (p : Seat → Bool) (ss : List Seat) → AllByRecursion (λ s. p s ≡ true) (filter p ss)
passing p [] = tt
passing p (s ∷ ss) =
    elim (p s) as (λ b. p s ≡ b → AllByRecursion (λ s. p s ≡ true) (cond b (s ∷ filter p ss) (filter p ss))) [
      | true ↦ λ e. (e, passing p ss)
      | false ↦ λ e. passing p ss
    ] refl

order-filter : (p : Seat → Bool) (ss : List Seat) → AreInOrder ss → AreInOrder (filter p ss)
order-filter p [] h = tt
order-filter p (s ∷ ss) h =
    elim (p s) as (λ b. AreInOrder (cond b (s ∷ filter p ss) (filter p ss))) [
      | true ↦ (all-filter (λ t. comes_before s.person t.person ≡ true) p ss h.0, order-filter p ss h.1)
      | false ↦ order-filter p ss h.1
    ]

all-joined : (P : Seat → Type 0) (xs : List Seat) (new : Seat) (ys : List Seat) → AllByRecursion P xs → P new → AllByRecursion P ys → AllByRecursion P (xs ++ new ∷ ys)
all-joined P [] new ys h n g = (n, g)
all-joined P (x ∷ xs) new ys h n g = (h.0, all-joined P xs new ys h.1 n g)

-- those before a seat, the seat, and those behind it
order-joined : (xs : List Seat) (new : Seat) (ys : List Seat) → AreInOrder xs → AllByRecursion (λ s. comes_before s.person new.person ≡ true) xs → AreInOrder ys → AllByRecursion (λ t. comes_before new.person t.person ≡ true) ys → AreInOrder (xs ++ new ∷ ys)
order-joined [] new ys h b g a = (a, g)
order-joined (x ∷ xs) new ys h b g a = (
  all-joined (λ t. comes_before x.person t.person ≡ true) xs new ys h.0 b.0 (after-more x.person new.person ys b.0 a),
  order-joined xs new ys h.1 b.1 g a,
)

pub order-with : (ss : List Seat) (new : Seat) → AreInOrder ss → AreInOrder (seats_with ss new)
order-with ss new h = search (order-joined, order-filter, passing)

pub order-without : (ss : List Seat) (person : List ℕ) → AreInOrder ss → AreInOrder (seats_without ss person)
order-without ss person h = order-filter _ ss h
