-- For a part of sound rows there is always a change in range, so Store is never answered.
use Rattle.matter_rows.proofs.Names.{AllByRecursion, ◌≡◌, ℕ, ◌+◌, ◌-◌, ◌*◌, ◌≤◌, Bool, List, [], ◌∷◌, length, refl, arith, Some, ℤ, pos, negsuc, ◌≤ℤ◌, ints, nat_tests, Entry, ClaimState, total_of, left_of, lefts_from, is_fee, is_general_claim, available, held, disputed, fees, claims, draw, draw_on, worth, available_share, held_share, disputed_share, fee_share, claim_share, pending_share, to_client, to_claimant, off_fee, on_fee, on_general, from_general, from_fee, from_claim, held_deposit, cleared_deposit, pending_payment, entry_at, AreBacked, IsRanged, part_of}
use Rattle.matter_rows.specs.declared.entry.Entry.TheVariants as entry
use Rattle.matter_rows.specs.declared.limits.TheConstants.{MAX_TOTAL}
use Rattle.matter_rows.proofs.Entries.{all-at, within}
use Rattle.matter_rows.proofs.Sums.{total-least}
use Rattle.matter_rows.proofs.Exchange.{fees-by_share, claims-by_share}

-- each share of an entry in range is small, and some are never below zero

abbrev Few : ℤ → Type 0
Few z = z ≤ℤ pos 99_999_999_999

held-few : (e : Entry) → IsRanged e → Few (held_share e) × (pos 0 ≤ℤ held_share e)
unfolding held_share
held-few e r = grind (arith, ints, nat_tests, held_deposit)

pending-few : (e : Entry) → Few (pending_share e) × (pos 0 ≤ℤ pending_share e)
unfolding pending_share
pending-few e = grind (arith, ints, nat_tests, pending_payment)

client-few : (s : ClaimState) (a : ℕ) → part_of s ≤ a → (to_client s ≤ℤ pos a) × (pos 0 ≤ℤ to_client s)
client-few s a h = grind (arith, ints, nat_tests)

claimant-few : (s : ClaimState) (a : ℕ) → part_of s ≤ a → (to_claimant s a ≤ℤ pos a) × (pos 0 ≤ℤ to_claimant s a)
claimant-few s a h = grind (arith, ints, nat_tests)

disputed-few : (e : Entry) → IsRanged e → Few (disputed_share e) × (pos 0 ≤ℤ disputed_share e)
unfolding disputed_share
disputed-few e r = grind (arith, ints, nat_tests, on_fee)

available-few : (e : Entry) → IsRanged e → Few (available_share e)
unfolding available_share
available-few (entry.Deposit d) r = grind (arith, ints, nat_tests, cleared_deposit)
available-few (entry.Payment p) r = grind (arith, ints, nat_tests, from_general)
available-few (entry.Fee f) r = omega (arith, ints)
available-few (entry.Claim c) r = grind (arith, ints, nat_tests, client-few, claimant-few, on_fee, on_general)

fee-few : (e : Entry) → IsRanged e → Few (fee_share e)
unfolding fee_share
fee-few e r = grind (arith, ints, nat_tests, from_fee, client-few, on_fee, off_fee)

claim-few : (e : Entry) → IsRanged e → Few (claim_share e)
unfolding claim_share
claim-few e r = grind (arith, ints, nat_tests, from_claim, claimant-few, on_general)

-- sums of small shares

sum-few : (f : Entry → ℤ) (es : List Entry) → ((e : Entry) → IsRanged e → Few (f e)) → AllByRecursion IsRanged es → total_of f es ≤ℤ pos (length es * 99_999_999_999)
sum-few f [] h r = omega (arith, ints)
sum-few f (e ∷ es) h r = omega (arith, ints, sum-few f es h r.1, h e r.0)

sum-least : (f : Entry → ℤ) (es : List Entry) → ((e : Entry) → IsRanged e → pos 0 ≤ℤ f e) → AllByRecursion IsRanged es → pos 0 ≤ℤ total_of f es
sum-least f [] h r = omega (arith, ints)
sum-least f (e ∷ es) h r = omega (arith, ints, sum-least f es h r.1, h e r.0)

next-left : (es part : List Entry) (n : ℕ) (e : Entry)
    → ((i : ℕ) (x : Entry) → entry_at (e ∷ part) i ≡ Some x → pos 0 ≤ℤ left_of es (n + i - 1) x)
    → (i : ℕ) (x : Entry) → entry_at part i ≡ Some x → pos 0 ≤ℤ left_of es (n + 1 + i - 1) x
next-left es part n e h i x at = grind (arith, ints, nat_tests, within, (h (i + 1) x))

lefts-least : (kind : Entry → Bool) (es : List Entry) (n : ℕ) (part : List Entry)
    → ((i : ℕ) (e : Entry) → entry_at part i ≡ Some e → pos 0 ≤ℤ left_of es (n + i - 1) e)
    → pos 0 ≤ℤ lefts_from kind es n part
lefts-least kind es n [] h = omega (arith, ints)
lefts-least kind es n (e ∷ part) h =
    grind (arith, ints, (h 1 e refl), (lefts-least kind es (n + 1) part (next-left es part n e h)))

-- a number for a sum
-- z as a natural number, 0 below zero
abbrev pub natural : ℤ → ℕ
natural (pos n) = n
natural (negsuc n) = 0

-- a balance of sound entries, as a number in range
pub record IsBalance (z : ℤ) : Type 0 where
  pub is : pos (natural z) ≡ z
  pub small : natural z ≤ MAX_TOTAL

balance : (z : ℤ) (n : ℕ) → n ≤ 9_999 → pos 0 ≤ℤ z → z ≤ℤ pos (n * 99_999_999_999) → IsBalance z
balance z n few low high = grind (arith, ints, nat_tests)

pub held-balance : (es : List Entry) → AreBacked es → IsBalance (held es)
held-balance es s = balance (held es) (length es) s.few (sum-least held_share es (λ e r. (held-few e r).1) s.ranged) (sum-few held_share es (λ e r. (held-few e r).0) s.ranged)

pub pending-balance : (es : List Entry) → AreBacked es → IsBalance (total_of pending_share es)
pending-balance es s = balance (total_of pending_share es) (length es) s.few (sum-least pending_share es (λ e r. (pending-few e).1) s.ranged) (sum-few pending_share es (λ e r. (pending-few e).0) s.ranged)

pub disputed-balance : (es : List Entry) → AreBacked es → IsBalance (disputed es)
disputed-balance es s = balance (disputed es) (length es) s.few (sum-least disputed_share es (λ e r. (disputed-few e r).1) s.ranged) (sum-few disputed_share es (λ e r. (disputed-few e r).0) s.ranged)

pub available-balance : (es : List Entry) → AreBacked es → IsBalance (available es)
available-balance es s = balance (available es) (length es) s.few s.available (sum-few available_share es available-few s.ranged)

lefts-sound : (kind : Entry → Bool) (es : List Entry) → AreBacked es → pos 0 ≤ℤ lefts_from kind es 1 es
lefts-sound kind es s = lefts-least kind es 1 es (λ i e at. grind (arith, (s.left i e at)))

pub fees-balance : (es : List Entry) → AreBacked es → IsBalance (fees es)
fees-balance es s = balance (fees es) (length es) s.few (lefts-sound is_fee es s) (let f = fees-by_share es s.named in let g = sum-few fee_share es fee-few s.ranged in omega (arith, ints, f, g))

pub claims-balance : (es : List Entry) → AreBacked es → IsBalance (claims es)
claims-balance es s = balance (claims es) (length es) s.few (lefts-sound is_general_claim es s) (let f = claims-by_share es s.named in let g = sum-few claim_share es claim-few s.ranged in omega (arith, ints, f, g))

draw-least : (n : ℕ) (e : Entry) → pos 0 ≤ℤ draw_on n e
unfolding draw
draw-least n e = grind (arith, ints, nat_tests, on_fee, off_fee)

worth-few : (e : Entry) → IsRanged e → Few (worth e)
unfolding worth
worth-few e r = grind (arith, ints, nat_tests, claimant-few, on_general)

-- what is left of an entry of sound entries, as a number in range
pub left-balance : (es : List Entry) (n : ℕ) (e : Entry) → AreBacked es → entry_at es n ≡ Some e → IsBalance (left_of es n e)
left-balance es n e s at =
    balance (left_of es n e) 1 (omega arith) (s.left n e at)
    (let w = worth-few e (all-at IsRanged es n e s.ranged at) in
    omega (arith, ints, w, total-least (draw_on n) es (draw-least n)))
