-- Rows of a table by their numbers: which are there, and which are left where some are taken out.
use Rattle.sql_rows.proofs.Names.{◌≡◌, ℕ, ℤ, pos, ◌<ℤ◌, ◌<◌, ◌≤◌, Bool, true, false, not, ◌&&◌, List, [], ◌∷◌, filter, find, None, is_some, refl, sym, ap, ◌∙◌, subst, arith, int_eq, int_cmp, Greater, true≢false, ◌==◌, AllByRecursion, ints, cases_Bool, nat_tests, has_key, insert_by, delete_where, same_int, int_eq_apart, filter-filter, HasHeadAt, all_weaker, filter_none}
use Rattle.sql_tables.specs.Rows as table

-- Numbers.

-- a number is the same as itself
pub int_eq-itself : (z : ℤ) → int_eq z z ≡ true
int_eq-itself z = grind (arith, ints)

-- numbers that are not below zero compare as natural ones
pub int_eq-nat : (k m : ℕ) → int_eq (pos k) (pos m) ≡ (k == m)
int_eq-nat k m = grind (arith, ints, nat_tests)

-- a number that is not 0 is no sign for none
pub not_zero : (n : ℕ) → 1 ≤ n → (n == 0) ≡ false
not_zero n one = grind (arith, nat_tests)

-- columns compare as the numbers that are read from them
pub lt_ints : (a b : ℤ) (k m : ℕ) → a ≡ pos k → b ≡ pos m → k < m → a <ℤ b
lt_ints a b k m p q lt = omega (arith, ints, p, q, lt)

pub same_ints : (a b : ℤ) (k m : ℕ) → a ≡ pos k → b ≡ pos m → k ≡ m → int_eq a b ≡ true
same_ints a b k m p q e = rw (p, q, e) (int_eq-itself (pos m))

-- a number that is below another, or above, is not the same
pub apart_below : (a b : ℤ) → a <ℤ b → int_eq a b ≡ false
apart_below a b lt = grind (arith, ints)

pub apart_above : (a b : ℤ) → b <ℤ a → int_eq a b ≡ false
apart_above a b lt = grind (arith, ints)

pub Greater-from_lt : (a b : ℤ) → b <ℤ a → int_cmp a b ≡ Greater
Greater-from_lt a b lt = grind (arith, ints)

-- The heads that the rows of other tables name.

-- a row that was put in has its key there
pub has_key-put : {X : Type 0} (key : X → ℤ) (xs : List X) (new : X)
    → has_key key (insert_by key xs new) (key new) ≡ true
has_key-put key [] new = rw (int_eq-itself (key new)) refl
has_key-put key (x ∷ xs) new = grind (arith, ints, nat_tests, cases_Bool, int_eq-itself, (has_key-put key xs new))

-- where no head has the number, no row names it
pub none_of : {X : Type 0} (number : X → ℤ) (heads : List table.Head) (k : ℤ) (xs : List X)
    → find (table.is_head k) heads ≡ None → AllByRecursion (λ x. HasHeadAt heads (number x)) xs
    → filter (λ x. int_eq (number x) k) xs ≡ []
none_of number heads k xs none all =
    filter_none _ xs
    (all_weaker _ _ (λ x has. int_eq_apart (number x) k (λ e.
    let here : HasHeadAt heads k = subst (HasHeadAt heads) e has in
    true≢false (sym here ∙ ap is_some none))) xs all)

-- Rows that are taken out.

-- of those that pass a test none is left
pub filter-delete_where : {X : Type 0} (p : X → Bool) (xs : List X) → filter p (delete_where p xs) ≡ []
filter-delete_where p [] = refl
filter-delete_where p (x ∷ xs) = grind (arith, ints, nat_tests, cases_Bool, (filter-delete_where p xs))

-- of those that pass the first of two tests, what is left does not pass the second
pub filter-delete_both : {X : Type 0} (p q : X → Bool) (xs : List X)
    → filter p (delete_where (λ x. p x && q x) xs) ≡ filter (λ x. not (q x)) (filter p xs)
filter-delete_both p q [] = refl
filter-delete_both p q (x ∷ xs) = grind (arith, ints, nat_tests, cases_Bool, (filter-delete_both p q xs))

off_matter : (k m z : ℤ) → (k ≡ m → ⊥) → int_eq z k ≡ true → int_eq z m ≡ false
off_matter k m z other h = int_eq_apart z m (λ e. other (sym (same_int z k h) ∙ e))

-- where rows of one matter go, those of another stay
pub others_stay : {X : Type 0} (number : X → ℤ) (gone : X → Bool) (m k : ℤ) (xs : List X) → (k ≡ m → ⊥)
    → ((x : X) → int_eq (number x) m ≡ false → gone x ≡ false)
    → filter (λ x. int_eq (number x) k) (delete_where gone xs) ≡ filter (λ x. int_eq (number x) k) xs
others_stay number gone m k xs other stays = grind (arith, ints, nat_tests, filter-filter, int_eq, not, off_matter)

-- a test of the matter first fails for another
pub off_first : (a b : Bool) → a ≡ false → (a && b) ≡ false
off_first a b e = rw e refl
