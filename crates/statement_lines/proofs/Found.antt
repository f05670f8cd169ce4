-- What a test finds among the elements that have a number, where all that pass it have that.
use Rattle.statement_lines.proofs.Names.{◌≡◌, ◌∙◌, sym, ap, ℕ, Bool, true, false, List, [], ◌∷◌, length, refl, ◌&&◌, ◌||◌, option_map, count_by, filter, find, list_any, cases_Bool, length-map, elements, arith, ints, nat_tests}
use Rattle.std.proofs.Math.Bool.{and-false, and-true}
use Rattle.std.proofs.lemmas.List.Sums.{length-filter}
use Rattle.std.proofs.lemmas.Map.Views.{any-filter_same}
use denote.Ref.{Bor}

-- all that pass p pass q
abbrev pub Narrows : {T : Type 0} → (T → Bool) → (T → Bool) → Type 0
Narrows {T} p q = (x : T) → p x ≡ true → q x ≡ true

module _ {T : Type 0} (p q : T → Bool) (narrows : Narrows p q) where
  misses : (x : T) → q x ≡ false → p x ≡ false
  misses x off = grind (arith, ints, nat_tests, cases_Bool)

  pub any_among : (xs : List T) → list_any p (filter q xs) ≡ list_any p xs
  any_among = any-filter_same p q true narrows

  pub filter_among : (xs : List T) → filter p (filter q xs) ≡ filter p xs
  filter_among [] = refl
  filter_among (x ∷ xs) = grind (arith, ints, nat_tests, cases_Bool, misses, (filter_among xs))

  pub find_among : (xs : List T) → find p (filter q xs) ≡ find p xs
  find_among [] = refl
  find_among (x ∷ xs) = grind (arith, ints, nat_tests, cases_Bool, misses, (find_among xs))

  pub count_among : (xs : List T) → count_by p (filter q xs) ≡ count_by p xs
  count_among xs = sym (length-filter p (filter q xs)) ∙ ap length (filter_among xs) ∙ length-filter p xs

-- the elements that were found, behind their numbers
module _ {T : Type 0} (p : T → Bool) where
  pub filter_elements : (found : List (ℕ × Bor T)) → elements (filter (λ e. p e.1.now) found) ≡ filter p (elements found)
  filter_elements [] = refl
  filter_elements (e ∷ found) = grind (arith, ints, nat_tests, cases_Bool, (filter_elements found))

  pub count_elements : (found : List (ℕ × Bor T)) → count_by (λ e. p e.1.now) found ≡ count_by p (elements found)
  count_elements found =
      sym (length-filter (λ e. p e.1.now) found)
      ∙ sym (length-map (filter (λ e. p e.1.now) found) (λ e. e.1.now))
      ∙ ap length (filter_elements found) ∙ length-filter p (elements found)

  pub any_elements : (found : List (ℕ × Bor T)) → list_any (λ e. p e.1.now) found ≡ list_any p (elements found)
  any_elements [] = refl
  any_elements (e ∷ found) = ap (λ r. p e.1.now || r) (any_elements found)

  pub find_elements : (found : List (ℕ × Bor T))
      → option_map (λ e. e.1.now) (find (λ e. p e.1.now) found) ≡ find p (elements found)
  find_elements [] = refl
  find_elements (e ∷ found) = grind (arith, ints, nat_tests, cases_Bool, (find_elements found))

-- where those were found that have the number
module _ {T : Type 0} (p q : T → Bool) (narrows : Narrows p q) (found : List (ℕ × Bor T)) (all : List T)
    (same : elements found ≡ filter q all) where
  pub counted : count_by (λ e. p e.1.now) found ≡ count_by p all
  counted = count_elements p found ∙ ap (count_by p) same ∙ count_among p q narrows all

  pub any_found : list_any (λ e. p e.1.now) found ≡ list_any p all
  any_found = any_elements p found ∙ ap (list_any p) same ∙ any_among p q narrows all

  pub first_found : option_map (λ e. e.1.now) (find (λ e. p e.1.now) found) ≡ find p all
  first_found = find_elements p found ∙ ap (find p) same ∙ find_among p q narrows all

  pub filtered : filter p (elements found) ≡ filter p all
  filtered = ap (filter p) same ∙ filter_among p q narrows all

-- where those that pass another test, which all that pass this one pass, are the same among the elements that were
-- found
module _ {T : Type 0} (p q : T → Bool) (narrows : Narrows p q) (found : List (ℕ × Bor T)) (all : List T)
    (same : filter q (elements found) ≡ filter q all) where
  pub filtered_kept : filter p (elements found) ≡ filter p all
  filtered_kept = grind (arith, ints, nat_tests, filter_among, elements, filter)

  pub counted_kept : count_by (λ e. p e.1.now) found ≡ count_by p all
  counted_kept = grind (arith, ints, nat_tests, count_elements, count_among, elements, count_by)

  pub any_kept : list_any (λ e. p e.1.now) found ≡ list_any p all
  any_kept = grind (arith, ints, nat_tests, any_elements, any_among, elements, list_any)

  pub first_kept : option_map (λ e. e.1.now) (find (λ e. p e.1.now) found) ≡ find p all
  first_kept = grind (arith, ints, nat_tests, find_elements, find_among, elements, find)

-- what passes two tests
module _ {T : Type 0} (p q : T → Bool) where
  pub filter_both : (xs : List T) → filter p (filter q xs) ≡ filter (λ x. p x && q x) xs
  filter_both [] = refl
  filter_both (x ∷ xs) = grind (arith, ints, nat_tests, cases_Bool, and-true, and-false, (filter_both xs))

  pub find_both : (xs : List T) → find p (filter q xs) ≡ find (λ x. p x && q x) xs
  find_both [] = refl
  find_both (x ∷ xs) = grind (arith, ints, nat_tests, cases_Bool, and-true, and-false, (find_both xs))
