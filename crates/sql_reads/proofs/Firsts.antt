-- The first row of an answer to a query by key.
use Rattle.sql_reads.proofs.Names.{◌≡◌, Bool, List, [], ◌∷◌, map, filter, Option, Some, None, option_map, find, slice_get, refl, sym, ap, ◌∙◌, Row, slice_get-filter, arith, ints, nat_tests}

first_shown : {X : Type 0} (shown : X → Row) (xs : List X) → slice_get (map shown xs) 0 ≡ option_map shown (slice_get xs 0)
first_shown shown [] = refl
first_shown shown (x ∷ xs) = refl

pub none_shown : {X : Type 0} (shown : X → Row) (o : Option X) → None ≡ option_map shown o → o ≡ None
none_shown shown o e = grind (arith, ints, nat_tests)

-- a row that shows the one that was found
pub record Finds {X : Type 0} (shown : X → Row) (found : Option X) (row : Row) : Type 0 where
  pub one : X
  pub found_one : found ≡ Some one
  pub shows : row ≡ shown one

pub some_shown : {X : Type 0} (shown : X → Row) (o : Option X) (r : Row) → Some r ≡ option_map shown o → Finds shown o r
some_shown shown None r e = absurd (let f = e in cc)
some_shown shown (Some x) r e = let shows : r ≡ shown x = cc in record { one = x; found_one = refl; shows = shows }

module _ {X : Type 0} (shown : X → Row) (p : X → Bool) (xs : List X) (rows : List Row) (is : rows ≡ map shown (filter p xs)) where
  first_is : slice_get rows 0 ≡ option_map shown (find p xs)
  first_is = ap (λ l. slice_get l 0) is ∙ first_shown shown (filter p xs) ∙ ap (option_map shown) (slice_get-filter p xs)

  -- without a first row nothing is found
  pub none_first : slice_get rows 0 ≡ None → find p xs ≡ None
  none_first none = none_shown shown (find p xs) (sym none ∙ first_is)

  -- the first row shows what is found
  pub some_first : (r : Row) → slice_get rows 0 ≡ Some r → Finds shown (find p xs) r
  some_first r there = some_shown shown (find p xs) r (sym there ∙ first_is)
