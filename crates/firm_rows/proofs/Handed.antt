-- A sink is handed the rows of a list, one after another.
use Rattle.firm_rows.proofs.Names.{◌≡◌, ℕ, List, [], ◌∷◌, ◌++◌, ◌+◌, ◌<◌, ◌≤◌, take, take_all, length, drop, get_or, map, map-append, refl, suc, sym, ap, ◌∙◌, subst, append_assoc, append-nil, AllByRecursion}
use Rattle.std.proofs.Common.{Err, Ok, fold}
use Rattle.std.proofs.lemmas.List.{at_drop_more, drop_all, take_more}
use Rattle.std.proofs.lemmas.List.Folds.{fold-map}
use Rattle.std.proofs.lemmas.List.Sums.{fold-append}
use Rattle.firm_rows.specs.Countable.{MOST_ROWS}
use Rattle.firm_rows.specs.Handing.{AreHanded, HandedOver}
use Rattle.firm_rows.proofs.Ordered.{all-append}

module _ {S A : Type 0} (step : S → A → S) where
  pub begun : (s : S) (xs : List A) → HandedOver step s xs xs s
  begun s xs = record { front = []; parts = refl; folded = refl }

  -- the next row
  pub one_more : (s t u : S) (all : List A) (x : A) (rest : List A) → HandedOver step s all (x ∷ rest) t → u ≡ step t x → HandedOver step s all rest u
  one_more s t u all x rest h is = record {
    front = h.front ++ x ∷ [];
    parts = append_assoc h.front (x ∷ []) rest ∙ h.parts;
    folded = is ∙ (ap (λ v. step v x) h.folded ∙ sym (fold-append step s h.front (x ∷ [])));
  }

  -- the next rows, or some of them
  pub some_more : (s t u : S) (all xs ys rest : List A) → HandedOver step s all (xs ++ rest) t → HandedOver step t xs ys u → HandedOver step s all (ys ++ rest) u
  some_more s t u all xs ys rest h k = record {
    front = h.front ++ k.front;
    parts = append_assoc h.front k.front (ys ++ rest) ∙ (ap (λ zs. h.front ++ zs) (sym (append_assoc k.front ys rest) ∙ ap (λ zs. zs ++ rest) k.parts) ∙ h.parts);
    folded = k.folded ∙ (ap (λ v. fold step v k.front) h.folded ∙ sym (fold-append step s h.front k.front));
  }

  -- all the next rows
  pub all_more : (s t u : S) (all xs rest : List A) → HandedOver step s all (xs ++ rest) t → u ≡ fold step t xs → HandedOver step s all rest u
  all_more s t u all xs rest h is = some_more s t u all xs [] rest h (record { front = xs; parts = append-nil xs; folded = is })

  pub ended : (s t : S) (all : List A) → HandedOver step s all [] t → t ≡ fold step s all
  ended s t all h = h.folded ∙ ap (fold step s) (sym (append-nil h.front) ∙ h.parts)

-- those before the place were handed over, and are in range
pub record HandedSoFar {S A : Type 0} (step : S → A → S) (IsInRange : A → Type 0) (old : S) (all : List A) (i : ℕ) (now : S) : Type 0 where
  pub handed : HandedOver step old all (drop i all) now
  pub ranged : AllByRecursion IsInRange (take i all)

module _ {S A : Type 0} (step : S → A → S) (IsInRange : A → Type 0) (s : S) (all : List A) where
  pub next_handed : (i : ℕ) (x : A) (t u : S) → HandedSoFar step IsInRange s all i t → i < length all → x ≡ get_or all i x → u ≡ step t x → IsInRange x → HandedSoFar step IsInRange s all (i + 1) u
  next_handed i x t u so_far lt at is range =
      let from : drop i all ≡ x ∷ drop (i + 1) all = at_drop_more (λ xs. xs) all i x lt ∙ ap (λ y. y ∷ drop (i + 1) all) (sym at) in
      record {
        handed = one_more step s t u all x (drop (i + 1) all) (subst (λ xs. HandedOver step s all xs t) from so_far.handed) is;
        ranged = subst (AllByRecursion IsInRange) (sym (take_more all i x lt ∙ ap (λ y. take i all ++ y ∷ []) (sym at))) (all-append IsInRange (take i all) (x ∷ []) so_far.ranged (range, tt));
      }

-- A sink to which rows were handed, each by its value, was handed these values.

pub all-mapped : {A B : Type 0} (f : A → B) (P : B → Type 0) (xs : List A) → AllByRecursion (λ x. P (f x)) xs → AllByRecursion P (map f xs)
all-mapped f P [] all = tt
all-mapped f P (x ∷ xs) all = (all.0, all-mapped f P xs all.1)

pub length-mapped : {A B : Type 0} (f : A → B) (xs : List A) → length (map f xs) ≡ length xs
length-mapped f [] = refl
length-mapped f (x ∷ xs) = ap suc (length-mapped f xs)

module _ {S A B : Type 0} (f : A → B) (step : S → B → S) (IsInRange : B → Type 0) where
  over-map : (s t : S) (all rest : List A) → HandedOver (λ u x. step u (f x)) s all rest t → HandedOver step s (map f all) (map f rest) t
  over-map s t all rest h = record {
    front = map f h.front;
    parts = sym (map-append f h.front rest) ∙ ap (map f) h.parts;
    folded = h.folded ∙ sym (fold-map step f s h.front);
  }

  pub some-mapped : {T E : Type 0} (s t : S) (all : List A) (i : ℕ) (e : E) → HandedSoFar (λ u x. step u (f x)) (λ x. IsInRange (f x)) s all i t → AreHanded {T = T} step IsInRange (map f all) (Err e) s t
  some-mapped s t all i e so_far = record { all = tt; some = (map f (drop i all), over-map s t all (drop i all) so_far.handed); countable = tt }

  pub every-mapped : {T E : Type 0} (s t : S) (all : List A) (i : ℕ) (done : T) → HandedSoFar (λ u x. step u (f x)) (λ x. IsInRange (f x)) s all i t → length all ≤ i → length all ≤ MOST_ROWS → AreHanded {E = E} step IsInRange (map f all) (Ok done) s t
  every-mapped s t all i done so_far past few =
      let handed = over-map s t all (drop i all) so_far.handed in
      record {
        all = ended step s t (map f all) (subst (λ rest. HandedOver step s (map f all) (map f rest) t) (drop_all i all past) handed);
        some = (map f (drop i all), handed);
        countable = record {
          few = subst (λ n. n ≤ MOST_ROWS) (sym (length-mapped f all)) few;
          ranged = all-mapped f IsInRange all (subst (AllByRecursion (λ x. IsInRange (f x))) (take_all i all past) so_far.ranged);
        };
      }
