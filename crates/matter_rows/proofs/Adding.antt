-- Sums that are added up entry by entry, and stay in range.
use Rattle.matter_rows.proofs.Names.{◌≡◌, ℕ, ◌+◌, ◌*◌, ◌<◌, ◌≤◌, List, take, length, get_or, refl, ap, ◌∙◌, arith, subst, ℤ, pos, ◌+ℤ◌, ◌≤ℤ◌, FitsSigned, w64, to_z, of_z, ints, take_more, take_all, Entry, IsSmallShare, held_share, available_share, disputed_share, fee_share, claim_share, pending_share, IsSmallSum, AreSmallSums, total_of}
use Rattle.matter_rows.specs.declared.shares.Shares.{Shares}
use Rattle.matter_rows.proofs.Sums.{total-append}

-- a sum of n small shares
pub record IsSumOf (n : ℕ) (z : ℤ) : Type 0 where
  pub low : pos 0 ≤ℤ (z +ℤ pos (199_999_999_998 * n))
  pub high : z ≤ℤ pos (199_999_999_998 * n)

-- the sum of the first i entries' shares
pub record IsSumTo (f : Entry → ℤ) (es : List Entry) (i : ℕ) (z : ℤ) : Type 0 where
  pub sum : z ≡ total_of f (take i es)
  pub small : IsSumOf i z

pub start : (f : Entry → ℤ) (es : List Entry) → IsSumTo f es 0 (pos 0)
start f es = record { sum = refl; small = record { low = omega (arith, ints); high = omega (arith, ints) } }

pub more : (f : Entry → ℤ) (es : List Entry) (i : ℕ) (e : Entry) (z w : ℤ) → IsSumTo f es i z → i < length es → e ≡ get_or es i e → IsSmallShare (f e) → w ≡ z +ℤ f e → IsSumTo f es (i + 1) w
more f es i e z w so inside at small is = grind (arith, ints, (take_more es i e inside), (total-append f (take i es) e))

-- each total of the first i entries
pub record AreSumsTo (es : List Entry) (i : ℕ) (s : Shares) : Type 0 where
  pub held : IsSumTo held_share es i s.held
  pub available : IsSumTo available_share es i s.available
  pub disputed : IsSumTo disputed_share es i s.disputed
  pub fees : IsSumTo fee_share es i s.fees
  pub claims : IsSumTo claim_share es i s.claims
  pub pending : IsSumTo pending_share es i s.pending

-- such a sum and one more share fit a signed word
pub fits : (x y : ℤ) (n : ℕ) → IsSumOf n x → IsSmallShare y → n ≤ 9_999 → FitsSigned w64 (to_z w64 (of_z w64 x) +ℤ to_z w64 (of_z w64 y))
fits x y n so small few = omega (arith, ints, so.low, so.high, small.low, small.high)

pub added : (x y : ℤ) (n : ℕ) → IsSumOf n x → IsSmallShare y → n ≤ 9_999 → to_z w64 (of_z w64 (to_z w64 (of_z w64 x) +ℤ to_z w64 (of_z w64 y))) ≡ x +ℤ y
added x y n so small few = omega (arith, ints, so.low, so.high, small.low, small.high)

pub next : (f : Entry → ℤ) (es : List Entry) (i : ℕ) (e : Entry) (z y : ℤ) → IsSumTo f es i z → i < length es → length es ≤ 9_999 → e ≡ get_or es i e → y ≡ f e → IsSmallShare y → IsSumTo f es (i + 1) (to_z w64 (of_z w64 (to_z w64 (of_z w64 z) +ℤ to_z w64 (of_z w64 y))))
next f es i e z y so inside few at is small =
    let P : ℤ → Type 0 = IsSmallShare in
    more f es i e z _ so inside at (subst P is small) (added z y i so.small small (omega (arith, inside, few)) ∙ ap (λ w. z +ℤ w) is)

pub whole : (f : Entry → ℤ) (es : List Entry) (i : ℕ) (z : ℤ) → IsSumTo f es i z → length es ≤ i → z ≡ total_of f es
whole f es i z so past = so.sum ∙ ap (total_of f) (take_all i es past)

pub small-sum : (f : Entry → ℤ) (es : List Entry) (i : ℕ) (z : ℤ) → IsSumTo f es i z → i ≤ length es → length es ≤ 9_999 → IsSmallSum z
small-sum f es i z so end few = record { low = omega (arith, ints, so.small.low, end, few); high = omega (arith, ints, so.small.high, end, few) }

pub small-sums : (es : List Entry) (i : ℕ) (s : Shares) → AreSumsTo es i s → i ≤ length es → length es ≤ 9_999 → AreSmallSums s
small-sums es i s so end few = grind (arith, ints, small-sum)
