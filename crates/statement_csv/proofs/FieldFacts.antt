-- The fields of a record by their places.
use Rattle.statement_csv.proofs.Names.{◌≡◌, ℕ, zero, suc, List, [], ◌∷◌, Some, None, refl, unwrap_or, field_at}
use Rattle.std.proofs.Common.{get_or}

-- the field at a place, or an empty one
pub field-or_empty : (fields : List (List ℕ)) (place : ℕ) → unwrap_or (field_at fields place) [] ≡ get_or fields place []
unfolding field_at
field-or_empty [] place = refl
field-or_empty (f ∷ fs) zero = refl
field-or_empty (f ∷ fs) (suc place) = field-or_empty fs place

-- a field that was found, and none that was
pub field_found : (fields : List (List ℕ)) (place : ℕ) (f : List ℕ) → field_at fields place ≡ Some f → f ≡ get_or fields place []
unfolding field_at
field_found [] place f e = cc
field_found (g ∷ fs) zero f e = cc
field_found (g ∷ fs) (suc place) f e = field_found fs place f e

pub field_missing : (fields : List (List ℕ)) (place : ℕ) → field_at fields place ≡ None → [] ≡ get_or fields place []
unfolding field_at
field_missing [] place e = refl
field_missing (g ∷ fs) zero e = cc
field_missing (g ∷ fs) (suc place) e = field_missing fs place e

pub ruleset field_steps = (field_found, field_missing)
