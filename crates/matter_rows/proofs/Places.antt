-- Where a list has its first element of a kind.
use Rattle.matter_rows.proofs.Names.{position, position_or_len, ◌≡◌, ℕ, ◌<◌, ◌≤◌, Bool, List, length, arith, Some, None, ltb, nat_tests}

pub place-some : {X : Type 0} (p : X → Bool) (xs : List X) (i : ℕ) → Some i ≡ position p xs → (i < length xs) × (i ≡ position_or_len p xs)
place-some p xs i h = grind (arith, nat_tests, ltb)

pub place-none : {X : Type 0} (p : X → Bool) (xs : List X) → None ≡ position p xs → length xs ≤ position_or_len p xs
place-none p xs h = grind (arith, nat_tests, ltb)
