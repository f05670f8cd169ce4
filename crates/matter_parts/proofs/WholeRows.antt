-- Whole rows are sound where each of their tests passes, and only there.
use Rattle.std.specs.Prelude.{find, is_some}
use Rattle.matter_parts.proofs.Names.{AllByRecursion, ◌≡◌, ℕ, ◌≤◌, ◌==◌, true, List, [], ◌∷◌, length, refl, subst, arith, Option, Some, None, pos, ◌≤ℤ◌, All, ints, All-head, All-tail, Head, Seat, Entry, entry_at, closed_on, available, left_of, names, AreBacked, AreInOrder, IsAtRestIfClosed, IsRanged, IsBy, IsRising, IsFundedInTime, Sound, IsByIfClosed, IsSoundEntry, IsClosedWithin, AreInForm, MAX_TOTAL, total-covered, within, all-map, Figures, Kept, AreEmptyIfClosed, AreFigures, AreKept, AreNumbered, entries_kept, kept_in, more, nat_tests}
use Rattle.matter_parts.proofs.AllKept.{kept-numbered, length-kept}
use Rattle.matter_parts.proofs.StepForms.{rows-of}

-- What sound rows pass.

close-all : (closed : Option ℕ) (es : List Entry) (h : Head) → IsAtRestIfClosed h closed es → AllByRecursion (IsByIfClosed closed) es
close-all (Some day) es h rest = rest.by_close
close-all None [] h rest = tt
close-all None (e ∷ es) h rest = (tt, close-all None es h tt)

closed-within : (closed : Option ℕ) (es : List Entry) (h : Head) → IsAtRestIfClosed h closed es → IsClosedWithin h.opened h.last closed
closed-within closed es h rest = grind (arith, ints)

-- the facts of each entry, from each fact of all
entries-all : (h : Head) (es some : List Entry) → AllByRecursion IsRanged some → AllByRecursion (λ e. names es e ≡ true) some → AllByRecursion (IsBy h.last) some → AllByRecursion (IsByIfClosed h.closed) some → AllByRecursion IsRising some → AllByRecursion (IsFundedInTime es) some → AllByRecursion (IsSoundEntry h es) some
entries-all h es [] ranged named by_last by_close rising funded = tt
entries-all h es (e ∷ some) ranged named by_last by_close rising funded =
    grind (arith, ints, (entries-all h es some ranged.1 named.1 by_last.1 by_close.1 rising.1 funded.1))

pub form-of : (head : Option Head) (seats : List Seat) (es : List Entry) → Sound (rows-of head seats es) → AreInForm head seats es
form-of head seats es s = grind (arith, ints, closed-within, entries-all, close-all)

empty-at : (closed : Option ℕ) (es : List Entry) (h : Head) (f : Figures) → AllByRecursion (λ e. names es e ≡ true) es → AreFigures f es → IsAtRestIfClosed h closed es → AreEmptyIfClosed closed f
empty-at closed es h f named a rest = grind (arith, ints, total-covered)

pub empty-of : (head : Option Head) (seats : List Seat) (es : List Entry) (f : Figures) → Sound (rows-of head seats es) → AreFigures f es → AreEmptyIfClosed (closed_on head) f
empty-of head seats es f s a = grind (arith, ints, empty-at)

-- Rows that pass are sound.

-- each entry has what a sound one has
each-of : (P : List Entry → Entry → Type 0) (head : Option Head) (seats : List Seat) (es : List Entry) → ((h : Head) (e : Entry) → IsSoundEntry h es e → P es e) → AreInForm head seats es → AllByRecursion (P es) es
each-of P head seats es e form = grind (arith, ints, all-map)

pub named-of : (head : Option Head) (seats : List Seat) (es : List Entry) → AreInForm head seats es → AllByRecursion (λ e. names es e ≡ true) es
named-of head seats es form = each-of (λ l e. names l e ≡ true) head seats es (λ h e i. i.named) form

-- what is left of each entry is a total
lefts-of : (es : List Entry) (ks : List Kept) → entries_kept ks ≡ es → AreNumbered 1 ks → AreKept ks es → (n : ℕ) (e : Entry) → entry_at es n ≡ Some e → pos 0 ≤ℤ left_of es n e
lefts-of es ks entries numbered own n e at =
    let inside = within es n e at in
    let len = length-kept ks es entries in
    kept (kept_in ks n) refl (kept-numbered 1 n ks numbered (omega (arith, inside.0)) (omega (arith, inside.1, len)))
  where
    kept : (o : Option Kept) → kept_in ks n ≡ o → is_some o ≡ true → pos 0 ≤ℤ left_of es n e
    kept None is there = absurd (cc)
    kept (Some k) is there =
        let here = own n k is in
        let same_there = here.there in
        let same : k.entry ≡ e = cc in
        let P : Entry → Type 0 = λ x. pos k.left ≡ left_of es n x in
        let left = subst P same here.left in
        omega (arith, ints, left)

pub backed-of : (head : Option Head) (seats : List Seat) (es : List Entry) (f : Figures) (ks : List Kept) → length es ≤ 9_999 → AreInForm head seats es → pos f.available ≡ available es → entries_kept ks ≡ es → AreNumbered 1 ks → AreKept ks es → AreBacked es
backed-of head seats es f ks few form is entries numbered own =
    grind (arith, ints, each-of, named-of, lefts-of, (each-of (λ l e. IsRanged e) head seats es))

rest-of : (closed : Option ℕ) (es : List Entry) (h : Head) (f : Figures) → AllByRecursion (λ e. names es e ≡ true) es → AreFigures f es → AreEmptyIfClosed closed f → IsClosedWithin h.opened h.last closed → AllByRecursion (IsByIfClosed closed) es → IsAtRestIfClosed h closed es
rest-of None es h f named a empty between all = tt
rest-of (Some day) es h f named a empty between all = grind (arith, ints, total-covered)

pub sound-of : (head : Option Head) (seats : List Seat) (es : List Entry) (f : Figures) → AreInOrder seats → AreInForm head seats es → AreBacked es → AreFigures f es → AreEmptyIfClosed (closed_on head) f → Sound (rows-of head seats es)
sound-of head seats es f order form backed a empty = grind (arith, ints, each-of, all-map, rest-of)

-- Stored figures.

pub lefts-within : (ks : List Kept) → All (λ k. k.left ≤ MAX_TOTAL) ks → (n : ℕ) (k : Kept) → find (λ j. j.number == n) ks ≡ Some k → k.left ≤ MAX_TOTAL
lefts-within [] all n k found = absurd (cc)
lefts-within (j ∷ ks) all n k found =
    let here = All-head (λ (x : Kept). x.left ≤ MAX_TOTAL) j ks all in
    let more = lefts-within ks (All-tail (λ (x : Kept). x.left ≤ MAX_TOTAL) j ks all) n k in
    grind (arith, nat_tests)
