-- Entries with the numbers 1, 2 and so on: each stands at the place of its number.
use Rattle.matter_parts.proofs.Names.{filter, position, position_or_len, slice_get, zero, suc, ◌≡◌, ℕ, ◌+◌, ◌-◌, ◌<◌, ◌≤◌, Bool, true, false, cond, List, [], ◌∷◌, ◌++◌, take, length, get_or, refl, ap, sym, ◌∙◌, subst, arith, Some, None, set, nat_tests, append-nil, take_all, filter_more, place-none, place-some, Kept, IsNextPlace, AreNumbered, kept_in, more}
use Rattle.std.proofs.lemmas.List.Folds.{find_at}
use Rattle.std.proofs.lemmas.List.Sums.{passes_at_first, position_or_len_is}
use Rattle.std.proofs.lemmas.Option.{slice_get_past, slice_get_read}
use Rattle.matter_parts.proofs.AllKept.{numbered-left, numbered-put}
use Rattle.matter_parts.proofs.Keepers.{is_number, left-set, with-set}

pub number-at : (a i : ℕ) (ks : List Kept) (d : Kept) → AreNumbered a ks → i < length ks → (get_or ks i d).number ≡ a + i
number-at a i [] d numbered inside = absurd (omega arith)
number-at a i (k ∷ ks) d numbered inside = grind (arith, (number-at (a + 1) (i - 1) ks d numbered.1))

-- The place of a number.

pub placed : (n : ℕ) (ks : List Kept) → AreNumbered 1 ks → 1 ≤ n → n ≤ length ks → Some (n - 1) ≡ position (is_number n) ks
placed n [] numbered low high = absurd (omega arith)
placed n (k ∷ ks) numbered low high =
    let is = position_or_len_is (is_number n) (k ∷ ks) (n - 1) k (omega arith) (λ i h. let own = number-at 1 i (k ∷ ks) k numbered (omega arith) in grind (arith, nat_tests)) (λ h. let own = number-at 1 (n - 1) (k ∷ ks) k numbered h in grind (arith, nat_tests)) in
    grind (arith, nat_tests)

pub not-placed : (n : ℕ) (ks : List Kept) → AreNumbered 1 ks → (1 ≤ n → length ks < n) → None ≡ position (is_number n) ks
not-placed n [] numbered out = refl
not-placed n (k ∷ ks) numbered out =
    let is = position_or_len_is (is_number n) (k ∷ ks) (length (k ∷ ks)) k (omega arith) (λ i h. let own = number-at 1 i
    (k ∷ ks) k numbered h in grind (arith, nat_tests)) (λ h. absurd (omega arith)) in
    grind (arith, nat_tests)

-- what stands at the place of a number is what is kept under it
pub kept-at-place : (ks : List Kept) (n i : ℕ) (k : Kept) → Some i ≡ position (is_number n) ks → k ≡ get_or ks i k → Some k ≡ kept_in ks n
kept-at-place ks n i k is at = grind (arith, nat_tests, place-some, find_at, slice_get, slice_get_read)

pub kept-nowhere : (ks : List Kept) (n : ℕ) → None ≡ position (is_number n) ks → None ≡ kept_in ks n
kept-nowhere ks n none = grind (arith, nat_tests, place-none, find_at, slice_get_past, position_or_len)

-- The numbers after a write.

pub numbered-push : (a : ℕ) (ks : List Kept) (new : Kept) → AreNumbered a ks → new.number ≡ a + length ks → AreNumbered a (ks ++ new ∷ [])
numbered-push a [] new numbered next = (omega (arith, next), tt)
numbered-push a (k ∷ ks) new numbered next = (numbered.0, numbered-push (a + 1) ks new numbered.1 (omega (arith, next)))

pub numbered-set : (ks : List Kept) (new : Kept) (i : ℕ) → AreNumbered 1 ks → Some i ≡ position (is_number new.number) ks → AreNumbered 1 (set ks i new)
numbered-set ks new i numbered is =
    let place = place-some (is_number new.number) ks i is in
    let at : i ≡ position_or_len (is_number new.number) ks = place.1 in
    let inside : position_or_len (is_number new.number) ks < length ks = let low = place.0 in omega (arith, at, low) in
    let own = number-at 1 (position_or_len (is_number new.number) ks) ks new numbered inside in
    let found = passes_at_first (is_number new.number) ks new inside in
    let number : (get_or ks (position_or_len (is_number new.number) ks) new).number ≡ new.number = grind (arith, nat_tests) in
    let P : List Kept → Type 0 = AreNumbered 1 in
    subst P (sym (with-set ks new i is))
    (numbered-put 1 ks new numbered (omega (arith, own, number)) (omega (arith, own, number, inside)))

pub numbered-left-set : (ks : List Kept) (n left i : ℕ) (k : Kept) → AreNumbered 1 ks → Some i ≡ position (is_number n) ks → k ≡ get_or ks i k → AreNumbered 1 (set ks i (record k { left = left }))
numbered-left-set ks n left i k numbered is at =
    grind (arith, nat_tests, (left-set ks n left i k is), (numbered-left 1 ks n left numbered))

-- The named ones, from place to place.

abbrev those : (ℕ → Bool) → List Kept → List Kept
those p ks = filter (λ k. p k.number) ks

-- the named ones before a place are copied, and its own is named, or it is the end
pub record AreCopiedTo (p : ℕ → Bool) (ks : List Kept) (place : ℕ) (copies : List Kept) : Type 0 where
  pub high : place ≤ length ks
  pub is : place < length ks → p (place + 1) ≡ true
  pub before : copies ≡ filter (λ k. p k.number) (take place ks)

none-between : (p : ℕ → Bool) (ks : List Kept) (d : Kept) (i s : ℕ) → AreNumbered 1 ks → i + s ≤ length ks → ((n : ℕ) → i ≤ n → n < i + s → p (n + 1) ≡ false) → those p (take (i + s) ks) ≡ those p (take i ks)
none-between p ks d i zero numbered high none = let same : i + 0 ≡ i = omega arith in rw same refl
none-between p ks d i (suc s) numbered high none =
    let next : i + suc s ≡ i + s + 1 = omega arith in
    let own = number-at 1 (i + s) ks d numbered (omega arith) in
    let number : (get_or ks (i + s) d).number ≡ i + s + 1 = omega (arith, own) in
    let other : p (get_or ks (i + s) d).number ≡ false = ap p number ∙ none (i + s) (omega arith) (omega arith) in
    ap (λ (j : ℕ). those p (take j ks)) next
    ∙ filter_more (λ (k : Kept). p k.number) ks (i + s) d (omega arith)
    ∙ ap (λ (b : Bool). those p (take (i + s) ks) ++ cond b (get_or ks (i + s) d ∷ []) []) other
    ∙ append-nil (those p (take (i + s) ks))
    ∙ none-between p ks d i s numbered (omega arith) (λ n low h. none n low (omega arith))

up-to : (p : ℕ → Bool) (ks : List Kept) (i j : ℕ) → AreNumbered 1 ks → IsNextPlace p i (length ks) j → those p (take j ks) ≡ those p (take i ks)
up-to p [] i j numbered next = let at : j ≡ i = (let low = next.low in let high = next.high in omega (arith, low, high)) in rw at refl
up-to p (k ∷ ks) i j numbered next = grind (arith, nat_tests, (none-between p (k ∷ ks) k i (j - i) numbered))

pub copied-none : (p : ℕ → Bool) (ks : List Kept) (j : ℕ) → AreNumbered 1 ks → IsNextPlace p 0 (length ks) j → AreCopiedTo p ks j []
copied-none p ks j numbered next = record { high = next.high; is = next.is; before = sym (up-to p ks 0 j numbered next) }

pub copied-more : (p : ℕ → Bool) (ks : List Kept) (i j : ℕ) (k : Kept) (copies : List Kept) → AreNumbered 1 ks → AreCopiedTo p ks i copies → i < length ks → k ≡ get_or ks i k → IsNextPlace p (i + 1) (length ks) j → AreCopiedTo p ks j (copies ++ k ∷ [])
copied-more p ks i j k copies numbered so inside at next =
    let own = number-at 1 i ks k numbered inside in
    let far = up-to p ks (i + 1) j numbered next in
    let more = filter_more (λ (x : Kept). p x.number) ks i k inside in
    grind (arith, nat_tests)

pub copied-all : (p : ℕ → Bool) (ks : List Kept) (i : ℕ) (copies : List Kept) → AreCopiedTo p ks i copies → length ks ≤ i → copies ≡ filter (λ k. p k.number) ks
copied-all p ks i copies so past = so.before ∙ ap (λ (l : List Kept). those p l) (take_all i ks past)
