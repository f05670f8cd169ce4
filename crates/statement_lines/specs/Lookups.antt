-- The elements of a list, looked up by a number of each.
use Rattle.std.specs.Prelude.{◌≡◌, ℕ, Bool, ◌==◌, List, map}
use Rattle.std.specs.List.{filter}
use denote.Ref.{Bor}

-- an element has this number
abbrev pub has_key : {T : Type 0} → ℕ → ℕ × T → Bool
has_key key entry = entry.0 == key

-- the elements without their numbers
abbrev pub elements : {T : Type 0} → List (ℕ × Bor T) → List T
elements entries = map (λ entry. entry.1.now) entries

-- each element with its number
abbrev pub IsKeyed : {T : Type 0} → (T → ℕ) → List T → List (ℕ × Bor T) → Type 0
IsKeyed {T} key all entries =
    map {B = ℕ × T} (λ entry. (entry.0, entry.1.now)) entries ≡ map {B = ℕ × T} (λ x. (key x, x)) all

-- a lookup by any number finds the elements that have it, in order
abbrev pub IsLookup : {T : Type 0} → (T → ℕ) → List T → List (ℕ × Bor T) → Type 0
IsLookup key all entries = (k : ℕ) → elements (filter (has_key k) entries) ≡ filter (λ x. key x == k) all
