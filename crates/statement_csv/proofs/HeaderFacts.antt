-- The fields of the header.
use Rattle.statement_csv.proofs.Names.{◌≡◌, ◌==◌, ◌&&◌, ℕ, List, [], ◌∷◌, refl, length, arith, nat_tests, codes, get_or, is_header}
use Rattle.std.proofs.Math.Bool.{and-false, and-true, and_assoc}
use Rattle.std.specs.Str.{bytes_eq}

-- the test of each field in its place is that of all of them
pub is_header_fields : (fields : List (List ℕ))
    → (length fields == 5) && bytes_eq (get_or fields 0 []) (codes "date") && bytes_eq (get_or fields 1 []) (codes "reference") && bytes_eq (get_or fields 2 []) (codes "bank_ref")
    && bytes_eq (get_or fields 3 []) (codes "amount") && bytes_eq (get_or fields 4 []) (codes "text")
    ≡ is_header fields
is_header_fields [] = refl
is_header_fields (a ∷ []) = simp and-false
is_header_fields (a ∷ b ∷ []) = simp and-false
is_header_fields (a ∷ b ∷ c ∷ []) = simp and-false
is_header_fields (a ∷ b ∷ c ∷ d ∷ []) = simp and-false
is_header_fields (a ∷ b ∷ c ∷ d ∷ e ∷ []) = simp (and_assoc, and-true)
is_header_fields (a ∷ b ∷ c ∷ d ∷ e ∷ f ∷ rest) = grind (arith, nat_tests, and-false)
