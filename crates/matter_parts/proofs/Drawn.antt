-- What is drawn on each entry, added up entry by entry.
use Rattle.matter_parts.proofs.Names.{◌≡◌, ℕ, ◌+◌, ◌<◌, ◌≤◌, List, length, get_or, replicate, arith, ◌∙◌, ℤ, pos, ◌+ℤ◌, nat_tests, ints, length-set, get_or-set_same, get_or-set_other, get_or-replicate, get_or_read, length-replicate, Entry, IsSmallShare, draw, draw_on, target, IsSumTo, IsSumOf, more, small-sum, start, whole, draw-apart, AreDrawn, IsUntargeted, within}
use Rattle.std.proofs.Common.{set}

-- what the first i entries draw on each
pub record AreDrawnTo (es : List Entry) (i : ℕ) (drawn : List ℤ) : Type 0 where
  pub count : length drawn ≡ length es
  pub sums : (place : ℕ) → place < length es → IsSumTo (draw_on (place + 1)) es i (get_or drawn place (pos 0))

pub drawn-none : (es : List Entry) (drawn : List ℤ) → drawn ≡ replicate (length es) (pos 0) → AreDrawnTo es 0 drawn
drawn-none es drawn is = grind (arith, ints, nat_tests, length-replicate, get_or-replicate, start)

-- what was read of a place
pub read-sum : (es : List Entry) (i : ℕ) (drawn : List ℤ) (p : ℕ) (x : ℤ) → AreDrawnTo es i drawn → p < length es → x ≡ get_or drawn p x → (x ≡ get_or drawn p (pos 0)) × IsSumOf i x
read-sum es i drawn p x so there at = grind (arith, ints, nat_tests, get_or_read)

-- an entry that draws nothing on the one of a number
none-more : (es : List Entry) (n i : ℕ) (e : Entry) (z : ℤ) → IsSumTo (draw_on n) es i z → i < length es → e ≡ get_or es i e → draw_on n e ≡ pos 0 → IsSumTo (draw_on n) es (i + 1) z
none-more es n i e z so inside at none = grind (arith, ints, nat_tests, (more (draw_on n) es i e z z so inside))

-- with an entry that draws on none
pub drawn-same : (es : List Entry) (i : ℕ) (drawn : List ℤ) (e : Entry) → AreDrawnTo es i drawn → i < length es → e ≡ get_or es i e → IsUntargeted e (length es) → AreDrawnTo es (i + 1) drawn
drawn-same es i drawn e so inside at none = record {
  count = so.count;
  sums = λ place within. none-more es (place + 1) i e (get_or drawn place (pos 0)) (so.sums place within) inside at (draw-apart (place + 1) e (none place within));
}

-- with an entry that draws on the one of a place
pub drawn-more : (es : List Entry) (i : ℕ) (drawn : List ℤ) (e : Entry) (p : ℕ) (w : ℤ) → AreDrawnTo es i drawn → i < length es → e ≡ get_or es i e → p < length es → target e ≡ p + 1 → IsSmallShare (draw e) → w ≡ get_or drawn p (pos 0) +ℤ draw e → AreDrawnTo es (i + 1) (set drawn p w)
drawn-more es i drawn e p w so inside at there aims small is = record {
  count = length-set drawn p w ∙ so.count;
  sums = λ place within.
      let count = so.count in
      let sum = so.sums place within in
      let more = more (draw_on (place + 1)) es i e (get_or drawn place (pos 0)) w sum inside at in
      let same = none-more es (place + 1) i e (get_or drawn place (pos 0)) sum inside at in
      grind (
        arith,
        ints,
        nat_tests,
        (get_or-set_same drawn p w (pos 0)),
        (get_or-set_other drawn p place w (pos 0)),
        draw-apart,
      );
}

pub drawn-all : (es : List Entry) (i : ℕ) (drawn : List ℤ) → AreDrawnTo es i drawn → length es ≤ i → i ≤ length es → length es ≤ 9_999 → AreDrawn drawn es
drawn-all es i drawn so past end few = grind (arith, ints, nat_tests, whole, small-sum)
