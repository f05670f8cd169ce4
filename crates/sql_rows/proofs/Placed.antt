-- The seats or the entries of all matters after a change of one matter: those of other matters stay, and each is what would
-- be written, of a matter with a head.
use Rattle.sql_rows.proofs.Names.{◌≡◌, ℕ, ℤ, pos, Bool, false, List, [], ◌∷◌, ◌++◌, filter, refl, ap, append-nil, int_eq, Ordering, AllByRecursion, filter-append, sort_by, delete_where, int_eq_apart, all-append, all-filter, seat_cmp, entry_cmp, HasHeadAt, IsWrittenSeat, IsWrittenEntry, arith, ints, nat_tests}
use Rattle.sql_tables.specs.Rows.{Head, Seat, Entry}
use Rattle.sql_rows.proofs.KeyedRows.{others_stay}

module _ {X : Type 0} (number : X → ℤ) (cmp : X → X → Ordering) (IsWritten : X → Type 0) where
  -- the rows of a matter, in their order
  abbrev pub rows_of : ℤ → List X → List X
  rows_of k xs = sort_by cmp (filter (λ x. int_eq (number x) k) xs)

  abbrev pub AreHeaded : List Head → List X → Type 0
  AreHeaded heads xs = AllByRecursion (λ x. HasHeadAt heads (number x)) xs

  pub record IsPlaced (m : ℕ) (old new : List X) : Type 0 where
    pub others : (k : ℤ) → (k ≡ pos m → ⊥) → rows_of k new ≡ rows_of k old
    pub written : AllByRecursion IsWritten new
    pub headed : (heads : List Head) → HasHeadAt heads (pos m) → AreHeaded heads old → AreHeaded heads new

  -- one change behind another
  pub placed_then : (m : ℕ) (xs ys zs : List X) → IsPlaced m xs ys → IsPlaced m ys zs → IsPlaced m xs zs
  placed_then m xs ys zs a b = grind (arith, ints, nat_tests)

  module _ (m : ℕ) (xs : List X) (written : AllByRecursion IsWritten xs) where
    pub placed_same : IsPlaced m xs xs
    placed_same = record { others = λ k other. refl; written = written; headed = λ heads here all. all }

    -- rows of the matter alone are taken out
    pub placed_left : (gone : X → Bool) → ((x : X) → int_eq (number x) (pos m) ≡ false → gone x ≡ false)
        → IsPlaced m xs (delete_where gone xs)
    placed_left gone stays = record {
      others = λ k other. ap (sort_by cmp) (others_stay number gone (pos m) k xs other stays);
      written = all-filter IsWritten _ xs written;
      headed = λ heads here all. all-filter (λ x. HasHeadAt heads (number x)) _ xs all;
    }

    -- a row of the matter is put behind the others
    pub placed_added : (new : X) → number new ≡ pos m → IsWritten new → IsPlaced m xs (xs ++ new ∷ [])
    placed_added new own is =
        grind (arith, ints, nat_tests, int_eq_apart, filter-append, filter, append-nil, all-append, written)

abbrev pub SeatsPlaced : ℕ → List Seat → List Seat → Type 0
SeatsPlaced = IsPlaced (λ (s : Seat). s.matter) seat_cmp IsWrittenSeat

abbrev pub EntriesPlaced : ℕ → List Entry → List Entry → Type 0
EntriesPlaced = IsPlaced (λ (e : Entry). e.matter) entry_cmp IsWrittenEntry
