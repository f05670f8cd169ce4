-- Rows that were handed over.
use Rattle.sql_reads.proofs.Names.{◌≡◌, ℕ, List, [], ◌∷◌, map, fold, Result, Err, IsErr, refl, length-map, map-append, on_ok_weaker, AreCounted, arith, ints, nat_tests}

module _ {S A B : Type 0} (step : S → A → S) (f : B → A) where
  pub fold_mapped : (s : S) (xs : List B) → fold (λ t x. step t (f x)) s xs ≡ fold step s (map f xs)
  fold_mapped s [] = refl
  fold_mapped s (x ∷ xs) = fold_mapped (step s (f x)) xs

  -- rows that are taken for what they stand for
  pub counted_mapped : {E : Type 0} (xs : List B) (r : Result ℕ E) (old new : S)
      → AreCounted (λ t x. step t (f x)) xs r old new → AreCounted step (map f xs) r old new
  counted_mapped xs r old new h = grind (arith, ints, nat_tests, on_ok_weaker, fold_mapped, map, map-append, length-map)

-- what holds at each error holds of a result that is one
pub of_err : {T E : Type 0} (P : Result T E → Type 0) → ((e : E) → P (Err e)) → (r : Result T E) → IsErr r → P r
of_err x0 at r is = grind (arith, ints, nat_tests)
