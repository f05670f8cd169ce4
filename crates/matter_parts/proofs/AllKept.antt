-- What a matter keeps that keeps all entries in the order of their numbers.
use Rattle.matter_parts.proofs.Names.{◌≡◌, ℕ, ◌+◌, ◌-◌, ◌<◌, ◌≤◌, ltb, true, List, [], ◌∷◌, ◌++◌, length, refl, ap, sym, ◌∙◌, arith, Option, Some, eqb, is_some, nat_tests, length-map, Entry, Rows, entry_at, with_entry, within, Kept, Left, Part, kept_in, entries_kept, AreNumbered, IsWhole, HoldsAll, entry_put, left_written, other_written}
use Rattle.std.proofs.lemmas.List.{map-append}

-- An entry behind the others.

pub put-end : (a : ℕ) (ks : List Kept) (new : Kept) → AreNumbered a ks → new.number ≡ a + length ks → entry_put ks new ≡ ks ++ new ∷ []
put-end a [] new numbered next = refl
put-end a (k ∷ ks) new numbered next = grind (arith, nat_tests, eqb, (put-end (a + 1) ks new numbered.1))

pub entries-end : (a : ℕ) (ks : List Kept) (new : Kept) → AreNumbered a ks → new.number ≡ a + length ks → entries_kept (entry_put ks new) ≡ entries_kept ks ++ new.entry ∷ []
entries-end a ks new numbered next = grind (arith, nat_tests, put-end, map-append)

-- the numbers stay, of an entry that is behind the others or in the place of one
pub numbered-put : (a : ℕ) (ks : List Kept) (new : Kept) → AreNumbered a ks → a ≤ new.number → new.number ≤ a + length ks → AreNumbered a (entry_put ks new)
numbered-put a [] new numbered low high = (omega arith, tt)
numbered-put a (k ∷ ks) new numbered low high = grind (arith, nat_tests, eqb, (numbered-put (a + 1) ks new numbered.1))

pub numbered-end : (a : ℕ) (ks : List Kept) (new : Kept) → AreNumbered a ks → new.number ≡ a + length ks → AreNumbered a (entry_put ks new)
numbered-end a ks new numbered next = numbered-put a ks new numbered (omega (arith, next)) (omega (arith, next))

-- An entry in the place of another.

pub entries-at : (a n : ℕ) (ks : List Kept) (old : Entry) (new : Kept) → AreNumbered a ks → entry_at (entries_kept ks) n ≡ Some old → new.number + 1 ≡ a + n → entries_kept (entry_put ks new) ≡ with_entry (entries_kept ks) n new.entry
entries-at a n [] old new numbered there place = cc
entries-at a n (k ∷ ks) old new numbered there place =
    grind (arith, nat_tests, within, eqb, (entries-at (a + 1) (n - 1) ks old new numbered.1))

pub numbered-at : (a n : ℕ) (ks : List Kept) (old : Entry) (new : Kept) → AreNumbered a ks → entry_at (entries_kept ks) n ≡ Some old → new.number + 1 ≡ a + n → AreNumbered a (entry_put ks new)
numbered-at a n ks old new numbered there place = grind (arith, nat_tests, within, length-map, numbered-put)

-- What is left of an entry, written.

entries-left : (ks : List Kept) (n left : ℕ) → entries_kept (left_written ks n left) ≡ entries_kept ks
entries-left [] n left = refl
entries-left (k ∷ ks) n left = grind (arith, nat_tests, eqb, (entries-left ks n left))

pub numbered-left : (a : ℕ) (ks : List Kept) (n left : ℕ) → AreNumbered a ks → AreNumbered a (left_written ks n left)
numbered-left a [] n left numbered = tt
numbered-left a (k ∷ ks) n left numbered = grind (arith, nat_tests, eqb, (numbered-left (a + 1) ks n left numbered.1))

pub entries-other : (ks : List Kept) (o : Option Left) → entries_kept (other_written ks o) ≡ entries_kept ks
entries-other ks o = grind (arith, nat_tests, entries-left)

pub numbered-other : (a : ℕ) (ks : List Kept) (o : Option Left) → AreNumbered a ks → AreNumbered a (other_written ks o)
numbered-other a ks o numbered = grind (arith, nat_tests, numbered-left)

-- All entries are held.

pub kept-numbered : (a n : ℕ) (ks : List Kept) → AreNumbered a ks → a ≤ n → n < a + length ks → is_some (kept_in ks n) ≡ true
kept-numbered a n [] numbered low high = absurd (omega arith)
kept-numbered a n (k ∷ ks) numbered low high = grind (arith, nat_tests, eqb, (kept-numbered (a + 1) n ks numbered.1))

pub length-kept : (ks : List Kept) (es : List Entry) → entries_kept ks ≡ es → length ks ≡ length es
length-kept ks es h = sym (length-map ks (λ k. k.entry)) ∙ ap length h

pub whole-all : (m : Part) (rows : Rows) → IsWhole m rows → HoldsAll m
whole-all m rows whole n low = grind (arith, nat_tests, length-kept, ltb, kept-numbered)
