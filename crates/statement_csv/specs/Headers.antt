-- The header of a statement.
use Rattle.std.specs.Prelude.{ℕ, Bool, List, [], ◌∷◌, codes}
use Rattle.std.specs.Cmp.Lexicographic.{pointwise}
use Rattle.std.specs.Str.{bytes_eq}

-- the names in the first record
abbrev pub header : List (List ℕ)
header = codes "date" ∷ codes "reference" ∷ codes "bank_ref" ∷ codes "amount" ∷ codes "text" ∷ []

-- whether the fields of a record are exactly these names, in order
abbrev pub is_header : List (List ℕ) → Bool
is_header fields = pointwise bytes_eq fields header
