-- What is kept, after an entry is put or what is left of one is written.
use Rattle.matter_parts.proofs.Names.{position, position_or_len, ◌≡◌, ℕ, ◌<◌, ◌≤◌, ◌==◌, Bool, true, false, cond, List, [], ◌∷◌, ◌++◌, length, refl, sym, arith, Option, Some, None, eqb, get_or, set, nat_tests, MAX_TOTAL, place-some, place-none, Kept, Left, entry_put, left_written, other_written, kept_in, IsSmallOther}

abbrev pub is_number : ℕ → Kept → Bool
is_number n k = k.number == n

abbrev place : ℕ → List Kept → ℕ
place n ks = position_or_len (is_number n) ks

-- The list after a write.

with-at : (ks : List Kept) (new : Kept) → place new.number ks < length ks → entry_put ks new ≡ set ks (place new.number ks) new
with-at [] new h = absurd (omega arith)
with-at (k ∷ ks) new h = grind (arith, nat_tests, eqb, (with-at ks new))

pub with-set : (ks : List Kept) (new : Kept) (i : ℕ) → Some i ≡ position (is_number new.number) ks → set ks i new ≡ entry_put ks new
with-set ks new i h = grind (arith, nat_tests, place-some, with-at)

with-end : (ks : List Kept) (new : Kept) → length ks ≤ place new.number ks → entry_put ks new ≡ ks ++ new ∷ []
with-end [] new h = refl
with-end (k ∷ ks) new h = grind (arith, nat_tests, eqb, (with-end ks new))

pub with-push : (ks : List Kept) (new : Kept) → None ≡ position (is_number new.number) ks → ks ++ new ∷ [] ≡ entry_put ks new
with-push ks new h = sym (with-end ks new (place-none (is_number new.number) ks h))

left-at : (ks : List Kept) (n left : ℕ) (k : Kept) → place n ks < length ks → k ≡ get_or ks (place n ks) k → left_written ks n left ≡ set ks (place n ks) (record k { left = left })
left-at [] n left k h is = absurd (omega arith)
left-at (j ∷ ks) n left k h is = grind (arith, nat_tests, eqb, (left-at ks n left k))

pub left-set : (ks : List Kept) (n left i : ℕ) (k : Kept) → Some i ≡ position (is_number n) ks → k ≡ get_or ks i k → set ks i (record k { left = left }) ≡ left_written ks n left
left-set ks n left i k h is = grind (arith, nat_tests, place-some, left-at)

left-past : (ks : List Kept) (n left : ℕ) → length ks ≤ place n ks → left_written ks n left ≡ ks
left-past [] n left h = refl
left-past (k ∷ ks) n left h = grind (arith, nat_tests, eqb, (left-past ks n left))

pub left-none : (ks : List Kept) (n left : ℕ) → None ≡ position (is_number n) ks → ks ≡ left_written ks n left
left-none ks n left h = sym (left-past ks n left (place-none (is_number n) ks h))

-- What is kept under a number after a write.

abbrev some : Kept → Option Kept
some k = Some k

abbrev pub put_in : List Kept → Kept → ℕ → Option Kept
put_in ks new n = cond (new.number == n) (Some new) (kept_in ks n)

abbrev pub with_left : Option Kept → ℕ → Option Kept
with_left None left = None
with_left (Some k) left = Some (record k { left = left })

abbrev pub relieved : ℕ → ℕ → ℕ → Option Kept → Option Kept
relieved number left n o = cond (number == n) (with_left o left) o

abbrev pub other_relieved : Option Left → ℕ → Option Kept → Option Kept
other_relieved None n k = k
other_relieved (Some o) n k = relieved o.number o.left n k

pub kept-with : (ks : List Kept) (new : Kept) (n : ℕ) → kept_in (entry_put ks new) n ≡ put_in ks new n
kept-with [] new n = refl
kept-with (k ∷ ks) new n = grind (arith, nat_tests, eqb, (kept-with ks new n))

pub kept-left : (ks : List Kept) (num left n : ℕ) → kept_in (left_written ks num left) n ≡ relieved num left n (kept_in ks n)
kept-left [] num left n = elim (eqb num n) as (λ b. kept_in [] n ≡ cond b (with_left (kept_in [] n) left) (kept_in [] n)) [ true ↦ refl | false ↦ refl ]
kept-left (k ∷ ks) num left n = grind (arith, nat_tests, eqb, (kept-left ks num left n))

pub kept-other : (ks : List Kept) (o : Option Left) (n : ℕ) → kept_in (other_written ks o) n ≡ other_relieved o n (kept_in ks n)
kept-other ks o n = grind (arith, nat_tests, kept-left)

-- What is left of what is kept stays in range.

abbrev pub AreSmallLefts : List Kept → Type 0
AreSmallLefts ks = (n : ℕ) (k : Kept) → kept_in ks n ≡ Some k → k.left ≤ MAX_TOTAL

pub small-with : (ks : List Kept) (new : Kept) → AreSmallLefts ks → new.left ≤ MAX_TOTAL → (n : ℕ) (k : Kept) → put_in ks new n ≡ Some k → k.left ≤ MAX_TOTAL
small-with ks new old small n k h = grind (arith, nat_tests, eqb)

small-relieved : (number left n : ℕ) (o : Option Kept) → ((k : Kept) → o ≡ Some k → k.left ≤ MAX_TOTAL) → left ≤ MAX_TOTAL → (k : Kept) → relieved number left n o ≡ Some k → k.left ≤ MAX_TOTAL
small-relieved number left n o old small k h = grind (arith, nat_tests, eqb)

pub small-after : (ks : List Kept) (new : Kept) (o : Option Left) → AreSmallLefts ks → new.left ≤ MAX_TOTAL → IsSmallOther o → AreSmallLefts (other_written (entry_put ks new) o)
small-after ks new o old small other n k h = grind (arith, nat_tests, small-with, kept-with, small-relieved, kept-left)
