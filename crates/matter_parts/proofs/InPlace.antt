-- Kept entries that have the numbers of their places, and what the entries leave of each.
use Rattle.matter_parts.proofs.Names.{◌≡◌, ℕ, ◌+◌, ◌-◌, ◌<◌, ◌≤◌, ◌↔◌, List, [], ◌∷◌, length, drop, get_or, eqb, arith, Some, ℤ, pos, to_z, of_z, w64, length-map, IsSmallSum, ◌-ℤ◌, nat_tests, ints, Entry, entry_at, left_of, worth, Kept, AreKept, AreNumbered, entries_kept, kept_in, AreDrawn, AreInPlace, IsInPlace, more}
use Rattle.matter_rows.proofs.Tested.{rest-at, rest-none}

-- Tested one after the other.

pub place-next : (es : List Entry) (ks : List Kept) (i : ℕ) (k : Kept) → (AreInPlace es 1 ks ↔ AreInPlace es (i + 1) (drop i ks)) → i < length ks → k ≡ get_or ks i k → IsInPlace es (i + 1) k → AreInPlace es 1 ks ↔ AreInPlace es (i + 1 + 1) (drop (i + 1) ks)
place-next es ks i k inv inside at here = grind (arith, ints, nat_tests, rest-at)

pub place-fails : (es : List Entry) (ks : List Kept) (i : ℕ) (k : Kept) → (AreInPlace es 1 ks ↔ AreInPlace es (i + 1) (drop i ks)) → i < length ks → k ≡ get_or ks i k → (IsInPlace es (i + 1) k → ⊥) → AreInPlace es 1 ks → ⊥
place-fails es ks i k inv inside at none h = grind (arith, ints, nat_tests, rest-at)

pub place-done : (es : List Entry) (ks : List Kept) (i : ℕ) → (AreInPlace es 1 ks ↔ AreInPlace es (i + 1) (drop i ks)) → length ks ≤ i → AreInPlace es 1 ks
place-done es ks i inv past = grind (arith, ints, nat_tests, rest-none)

module _ (es : List Entry) (drawn : List ℤ) (i : ℕ) (k : Kept) (z : ℤ) (are : AreDrawn drawn es) (inside : i < length es) (is : z ≡ get_or drawn i (pos 0)) where
  pub as-tested : IsInPlace es (i + 1) k → (k.number ≡ i + 1) × (pos k.left ≡ worth k.entry -ℤ z)
  as-tested here = let sum = are.sums i inside in grind (arith, ints)

  pub from-tested : (k.number ≡ i + 1) × (pos k.left ≡ worth k.entry -ℤ z) → IsInPlace es (i + 1) k
  from-tested tested = omega (arith, ints, are.sums i inside, tested, is)

-- what is drawn on an entry that is kept, as it is read
pub read-at : (es : List Entry) (ks : List Kept) (drawn : List ℤ) (i : ℕ) → es ≡ entries_kept ks → AreDrawn drawn es → i < length ks → (i < length es) × IsSmallSum (to_z w64 (of_z w64 (get_or drawn i (pos 0)))) × (to_z w64 (of_z w64 (get_or drawn i (pos 0))) ≡ get_or drawn i (pos 0))
read-at es ks drawn i same are test = grind (arith, ints, nat_tests, length-map)

-- As a matter that keeps them all.

pub numbered-of : (es : List Entry) (n : ℕ) (ks : List Kept) → AreInPlace es n ks → AreNumbered n ks
numbered-of es n [] here = tt
numbered-of es n (k ∷ ks) here = (here.0.number, numbered-of es (n + 1) ks here.1)

-- none has a lower number than the first
found-from : (a n : ℕ) (ks : List Kept) (k : Kept) → AreNumbered a ks → kept_in ks n ≡ Some k → a ≤ n
found-from a n [] k numbered found = absurd (cc)
found-from a n (x ∷ ks) k numbered found = grind (arith, ints, nat_tests, eqb, (found-from (a + 1) n ks k numbered.1))

-- entry n, of those that are kept from a on, is at the place n + 1 - a
there-at : (a j n : ℕ) (ks : List Kept) (k : Kept) → AreNumbered a ks → kept_in ks n ≡ Some k → n + 1 ≡ a + j → entry_at (entries_kept ks) j ≡ Some k.entry
there-at a j n [] k numbered found next = absurd (cc)
there-at a j n (x ∷ ks) k numbered found next =
    grind (arith, ints, nat_tests, eqb, found-from, (there-at (a + 1) (j - 1) n ks k numbered.1))

left-at : (es : List Entry) (a n : ℕ) (ks : List Kept) (k : Kept) → AreInPlace es a ks → kept_in ks n ≡ Some k → pos k.left ≡ left_of es n k.entry
left-at es a n [] k here found = absurd (cc)
left-at es a n (x ∷ ks) k here found = grind (arith, ints, nat_tests, eqb, (left-at es (a + 1) n ks k here.1))

pub kept-of : (ks : List Kept) → AreInPlace (entries_kept ks) 1 ks → AreKept ks (entries_kept ks)
kept-of ks here n k found = grind (arith, ints, nat_tests, there-at, numbered-of, left-at)

-- from a matter that keeps them all

in-place-from : (es : List Entry) (a : ℕ) (ks : List Kept) → AreNumbered a ks → ((n : ℕ) (k : Kept) → kept_in ks n ≡ Some k → pos k.left ≡ left_of es n k.entry) → AreInPlace es a ks
in-place-from es a [] numbered own = tt
in-place-from es a (x ∷ ks) numbered own = (
  record { number = numbered.0; left = own a x (grind (arith, nat_tests)) },
  in-place-from es (a + 1) ks numbered.1 (λ n k found. let more = found-from (a + 1) n ks k numbered.1 found in own n k
      (grind (arith, nat_tests))),
)

pub in-place : (es : List Entry) (ks : List Kept) → AreNumbered 1 ks → AreKept ks es → AreInPlace es 1 ks
in-place es ks numbered kept = in-place-from es 1 ks numbered (λ n k found. (kept n k found).left)
