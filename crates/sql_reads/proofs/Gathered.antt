-- What a loop over rows has gathered so far.
use Rattle.sql_reads.proofs.Names.{◌≡◌, zero, suc, add-one, ℕ, ◌+◌, ◌<◌, ◌≤◌, List, [], ◌∷◌, ◌++◌, map, length, get_or, take, ap, ◌∙◌, arith, length-map, take_all, Row, ints, nat_tests}

module _ {X Y : Type 0} (shown : X → Row) (from : X → Y) (r : Row) (y : Y) (reads : (x : X) → r ≡ shown x → y ≡ from x) where
  front_more : (xs : List X) (i : ℕ) → i < length xs → r ≡ get_or (map shown xs) i r → map from (take i xs) ++ y ∷ [] ≡ map from (take (i + 1) xs)
  front_more [] i within at = absurd (omega (arith, within))
  front_more (x ∷ xs) zero within at = ap (λ z. z ∷ []) (reads x at)
  front_more (x ∷ xs) (suc i) within at = rw add-one (ap (λ l. from x ∷ l) (rw add-one at (front_more xs i (omega (arith, within)) at)))

  -- with what the next row stands for it is one more
  pub one_more : (xs : List X) (rows : List Row) (i : ℕ) (now : List Y) → rows ≡ map shown xs → i < length rows → r ≡ get_or rows i r → now ≡ map from (take i xs)
      → now ++ y ∷ [] ≡ map from (take (i + 1) xs)
  one_more xs rows i now is within at so_far = grind (arith, ints, nat_tests, front_more, length, length-map, get_or)

-- behind the last row it is all of them
pub all_taken : {X Y : Type 0} (shown : X → Row) (from : X → Y) (xs : List X) (rows : List Row) (i : ℕ) (now : List Y) → rows ≡ map shown xs → length rows ≤ i → now ≡ map from (take i xs) → now ≡ map from xs
all_taken shown from xs rows i now is over so_far = so_far ∙ ap (map from) (take_all i xs (omega (arith, over, ap length is, length-map xs shown)))
