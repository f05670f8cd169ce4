-- Sound entries stay sound where an entry is added or exchanged.
use Rattle.matter_rows.proofs.Names.{AllByRecursion, ◌≡◌, ℕ, ◌+◌, ◌<◌, ◌≢◌, Bool, true, false, List, [], ◌∷◌, ◌++◌, length, refl, arith, Some, eqb, length-append, ℤ, pos, ◌+ℤ◌, ◌-ℤ◌, ◌≤ℤ◌, ints, nat_tests, Entry, total_of, left_of, passes, names, is_fee, is_settled, available, entry_at, with_entry, draw_on, target, worth, available_share, AreBacked, IsRanged}
use Rattle.matter_rows.proofs.Sums.{total-append, total-with}
use Rattle.matter_rows.proofs.Exchange.{all-map}
use Rattle.matter_rows.proofs.Entries.{entry_at-append, entry_at-with, length-with, none-past, all-append, all-with}

-- Nothing is drawn on what is neither a fee nor a settled claim.

pub target-apart : (es : List Entry) (n : ℕ) → 0 < n → passes is_fee (entry_at es n) ≡ false → passes is_settled (entry_at es n) ≡ false → (r : Entry) → names es r ≡ true → target r ≢ n
unfolding names
target-apart es n p a b r h = grind (arith, ints, nat_tests)

-- nothing is drawn on another number than the target
pub draw-apart : (n : ℕ) (r : Entry) → target r ≢ n → draw_on n r ≡ pos 0
draw-apart n r h = grind (arith, nat_tests, eqb)

pub undrawn : (es : List Entry) (n : ℕ) → 0 < n → passes is_fee (entry_at es n) ≡ false → passes is_settled (entry_at es n) ≡ false → (r : Entry) → names es r ≡ true → draw_on n r ≡ pos 0
undrawn es n p a b r h = draw-apart n r (target-apart es n p a b r h)

total-none : (f : Entry → ℤ) (es : List Entry) → AllByRecursion (λ e. f e ≡ pos 0) es → total_of f es ≡ pos 0
total-none f [] h = refl
total-none f (e ∷ es) h = omega (arith, ints, total-none f es h.1, h.0)

-- what is drawn there by all entries together is zero
pub total-undrawn : (es : List Entry) (n : ℕ) → AllByRecursion (λ e. names es e ≡ true) es → 0 < n → passes is_fee (entry_at es n) ≡ false → passes is_settled (entry_at es n) ≡ false → total_of (draw_on n) es ≡ pos 0
total-undrawn es n h p a b = grind (arith, ints, nat_tests, total-none, all-map, undrawn)

-- What is named stays named.

-- each number that held an entry of a kind holds one
record Stays (es fs : List Entry) : Type 0 where
  fee : (k : ℕ) → passes is_fee (entry_at es k) ≡ true → passes is_fee (entry_at fs k) ≡ true
  settled : (k : ℕ) → passes is_settled (entry_at es k) ≡ true → passes is_settled (entry_at fs k) ≡ true

names-stay : (es fs : List Entry) → Stays es fs → (e : Entry) → names es e ≡ true → names fs e ≡ true
unfolding names
names-stay es fs s e h = grind (arith, ints, nat_tests)

passes-append : (kind : Entry → Bool) (es : List Entry) (x : Entry) (k : ℕ) → passes kind (entry_at es k) ≡ true → passes kind (entry_at (es ++ x ∷ []) k) ≡ true
passes-append kind es x k h = grind (arith, ints, nat_tests, entry_at-append, eqb, none-past)

stays-append : (es : List Entry) (x : Entry) → Stays es (es ++ x ∷ [])
stays-append es x = record { fee = passes-append is_fee es x; settled = passes-append is_settled es x }

passes-with : (kind : Entry → Bool) (es : List Entry) (n : ℕ) (old new : Entry) → entry_at es n ≡ Some old → (kind old ≡ true → kind new ≡ true) → (k : ℕ) → passes kind (entry_at es k) ≡ true → passes kind (entry_at (with_entry es n new) k) ≡ true
passes-with kind es n old new at keep k h = grind (arith, ints, nat_tests, entry_at-with, eqb)

-- What is left after an entry is added.

pub left-append : (es : List Entry) (x : Entry) (n : ℕ) (e : Entry) → left_of (es ++ x ∷ []) n e ≡ left_of es n e -ℤ draw_on n x
left-append es x n e = omega (arith, ints, total-append (draw_on n) es x)

pub left-with : (es : List Entry) (k : ℕ) (old new : Entry) (n : ℕ) (e : Entry) → entry_at es k ≡ Some old → left_of (with_entry es k new) n e ≡ (left_of es n e +ℤ draw_on n old) -ℤ draw_on n new
left-with es k old new n e h = omega (arith, ints, total-with (draw_on n) es k old new h)

-- a new entry that may be added
pub record MayAdd (es : List Entry) (x : Entry) : Type 0 where
  pub room : length es < 9_999
  pub ranged : IsRanged x
  pub named : names es x ≡ true
  pub available : pos 0 ≤ℤ (available es +ℤ available_share x)
  pub worth : pos 0 ≤ℤ worth x
  pub left : (n : ℕ) (e : Entry) → entry_at es n ≡ Some e → pos 0 ≤ℤ (left_of es n e -ℤ draw_on n x)

left-added : (es : List Entry) (x : Entry) → AreBacked es → MayAdd es x → (n : ℕ) (e : Entry)
    → entry_at (es ++ x ∷ []) n ≡ Some e → pos 0 ≤ℤ left_of (es ++ x ∷ []) n e
left-added es x s m n e at =
    grind (arith, ints, nat_tests, eqb, entry_at-append, left-append, none-past, total-undrawn, undrawn)

pub sound-append : (es : List Entry) (x : Entry) → AreBacked es → MayAdd es x → AreBacked (es ++ x ∷ [])
sound-append es x s m = record {
  few = let l = length-append es (x ∷ []) in let r = m.room in omega (arith, l, r);
  ranged = all-append IsRanged es x s.ranged m.ranged;
  named = all-append (λ e. names (es ++ x ∷ []) e ≡ true) es x
      (all-map (λ e. names es e ≡ true) (λ e. names (es ++ x ∷ []) e ≡ true) es (names-stay es (es ++ x ∷ []) (stays-append es x)) s.named)
      (names-stay es (es ++ x ∷ []) (stays-append es x) x m.named);
  available = omega (arith, ints, total-append available_share es x, m.available);
  left = left-added es x s m;
}

-- an entry that may take another's place
pub record MayTake (es : List Entry) (k : ℕ) (old new : Entry) : Type 0 where
  pub at : entry_at es k ≡ Some old
  pub ranged : IsRanged new
  pub named : names es new ≡ true
  pub fee : is_fee old ≡ true → is_fee new ≡ true
  pub settled : is_settled old ≡ true → is_settled new ≡ true
  pub available : pos 0 ≤ℤ ((available es -ℤ available_share old) +ℤ available_share new)
  pub same_target : target old ≡ target new
  pub apart : target new ≢ k
  pub own : pos 0 ≤ℤ left_of es k new
  pub left : (n : ℕ) (e : Entry) → entry_at es n ≡ Some e → n ≢ k → pos 0 ≤ℤ ((left_of es n e +ℤ draw_on n old) -ℤ draw_on n new)

left-exchanged : (es : List Entry) (k : ℕ) (old new : Entry) → AreBacked es → MayTake es k old new → (n : ℕ) (e : Entry)
    → entry_at (with_entry es k new) n ≡ Some e → pos 0 ≤ℤ left_of (with_entry es k new) n e
left-exchanged es k old new s m n e at =
    let now = entry_at-with es k old new n m.at in
    let moved = left-with es k old new n e m.at in
    grind (arith, ints, nat_tests, eqb, now, moved, draw-apart, (m.left n e))

pub sound-with : (es : List Entry) (k : ℕ) (old new : Entry) → AreBacked es → MayTake es k old new → AreBacked (with_entry es k new)
sound-with es k old new s m =
    let stays : Stays es (with_entry es k new) = record { fee = passes-with is_fee es k old new m.at m.fee; settled = passes-with is_settled es k old new m.at m.settled } in
    record {
      few = let l = length-with es k new in let f = s.few in omega (arith, l, f);
      ranged = all-with IsRanged es k new s.ranged m.ranged;
      named = all-with (λ e. names (with_entry es k new) e ≡ true) es k new
          (all-map (λ e. names es e ≡ true) (λ e. names (with_entry es k new) e ≡ true) es (names-stay es (with_entry es k new) stays) s.named)
          (names-stay es (with_entry es k new) stays new m.named);
      available = omega (arith, ints, total-with available_share es k old new m.at, m.available);
      left = left-exchanged es k old new s m;
    }
