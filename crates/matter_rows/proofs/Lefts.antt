-- What is left of a fee or a claim, as sums over the entries.
use Rattle.matter_rows.proofs.Names.{AllByRecursion, filter, ◌≡◌, ℕ, ◌<◌, not, ◌&&◌, ◌==◌, Bool, true, false, cond, List, [], ◌∷◌, map, sum, refl, ap, arith, ℤ, pos, ◌+ℤ◌, ◌-ℤ◌, Some, None, eqb, ints, false≢true, nat_tests, Fund, PaymentState, Against, ClaimState, Entry, entry_at, entry_amount, draw, draw_on, worth, has_settled, on_fee, on_general, off_fee, paid, fund_no, against_no, total_of, names, funds, is_fee, is_settled, is_general, passes, part_of}
use Rattle.std.proofs.lemmas.List.Sums.{sum_by-cons}
use Rattle.matter_rows.specs.declared.claim.Against.TheVariants as against
use Rattle.matter_rows.specs.LeftLaws.{is_paid, is_fee_no, is_claim_no, is_paid_from_fee, is_paid_from_claim, is_on_fee_no, is_open_on, is_settled_on, clients_part, amounts_of, parts_of, FeeLeft, ClaimLeft}
use Rattle.matter_rows.proofs.Entries.{within}
use Rattle.matter_rows.proofs.Exchange.{total-agree, all-map}
use Rattle.matter_rows.proofs.Keeping.{total-undrawn}
use Rattle.matter_rows.proofs.Sums.{total-add}

-- A sum of some entries is one of shares.

abbrev picked : (Entry → Bool) → (Entry → ℕ) → Entry → ℤ
picked p g e = pos (cond (p e) (g e) 0)

sum-picked : (p : Entry → Bool) (g : Entry → ℕ) (es : List Entry) → pos (sum (map g (filter p es))) ≡ total_of (picked p g) es
sum-picked p g [] = refl
sum-picked p g (e ∷ es) =
    grind (arith, ints, (sum_by-cons (λ (n : ℕ). n) (g e) (map g (filter p es))), (sum-picked p g es))

-- What each entry draws on fee k.

-- what is drawn on an entry that is not of the kind that is named is nothing
named-apart : (kind : Entry → Bool) (es : List Entry) (j k : ℕ) (z : ℤ) → passes kind (entry_at es k) ≡ false → passes kind (entry_at es j) ≡ true → cond (j == k) z (pos 0) ≡ pos 0
named-apart kind es j k z other named = grind (arith, ints, nat_tests, eqb, false≢true)

-- entry k is a fee
record IsFeeAt (es : List Entry) (k : ℕ) : Type 0 where
  some : 0 < k
  unsettled : passes is_settled (entry_at es k) ≡ false

fee-paid : (es : List Entry) (k : ℕ) (f : Fund) (s : PaymentState) (a : ℕ) → IsFeeAt es k → funds es f ≡ true → cond (fund_no f == k) (paid s a) (pos 0) ≡ pos (cond (is_fee_no k f && is_paid s) a 0)
fee-paid es k f s a is named = grind (arith, ints, nat_tests, named-apart)

fee-claimed : (k : ℕ) (on : Against) (s : ClaimState) (a : ℕ) → cond (against_no on == k) (on_fee on (off_fee s a)) (pos 0) ≡ pos (cond (is_on_fee_no k on && not (has_settled s)) a 0) +ℤ pos (cond (is_on_fee_no k on && has_settled s) (part_of s) 0)
fee-claimed k on s a = grind (arith, ints, nat_tests)

abbrev fee_shares : ℕ → Entry → ℤ
fee_shares k e = (picked (is_open_on k) entry_amount e +ℤ picked (is_settled_on k) clients_part e) +ℤ picked (is_paid_from_fee k) entry_amount e

fee-drawn : (es : List Entry) (k : ℕ) → IsFeeAt es k → (e : Entry) → names es e ≡ true → draw_on k e ≡ fee_shares k e
unfolding names draw
fee-drawn es k is e named = grind (arith, ints, nat_tests, fee-paid, fee-claimed)

fee-total : (es : List Entry) (k : ℕ) → IsFeeAt es k → AllByRecursion (λ e. names es e ≡ true) es → total_of (draw_on k) es ≡ (pos (amounts_of (is_open_on k) es) +ℤ pos (parts_of (is_settled_on k) es)) +ℤ pos (amounts_of (is_paid_from_fee k) es)
fee-total es k is named =
    let open_claims = picked (is_open_on k) entry_amount in
    let parts = picked (is_settled_on k) clients_part in
    let all = total-agree (draw_on k) (fee_shares k) es (all-map (λ e. names es e ≡ true) (λ e. draw_on k e ≡ fee_shares k e) es (fee-drawn es k is) named) in
    let two = total-add open_claims parts es in
    let three = total-add (λ e. open_claims e +ℤ parts e) (picked (is_paid_from_fee k) entry_amount) es in
    grind (arith, ints, sum-picked, all, two, three)

pub fee-left : FeeLeft
unfolding worth
fee-left rows k f s at = grind (arith, ints, nat_tests, within, fee-total)

-- What each entry draws on claim k.

record IsClaimAt (es : List Entry) (k : ℕ) : Type 0 where
  some : 0 < k
  no_fee : passes is_fee (entry_at es k) ≡ false

claim-paid : (es : List Entry) (k : ℕ) (f : Fund) (s : PaymentState) (a : ℕ) → IsClaimAt es k → funds es f ≡ true → cond (fund_no f == k) (paid s a) (pos 0) ≡ pos (cond (is_claim_no k f && is_paid s) a 0)
claim-paid es k f s a is named = grind (arith, ints, nat_tests, named-apart)

claim-drawn : (es : List Entry) (k : ℕ) → IsClaimAt es k → (e : Entry) → names es e ≡ true → draw_on k e ≡ picked (is_paid_from_claim k) entry_amount e
unfolding names draw
claim-drawn es k is e named = grind (arith, ints, nat_tests, claim-paid, named-apart)

claim-total : (es : List Entry) (k : ℕ) → IsClaimAt es k → AllByRecursion (λ e. names es e ≡ true) es → total_of (draw_on k) es ≡ pos (amounts_of (is_paid_from_claim k) es)
claim-total es k is named = grind (arith, ints, nat_tests, total-agree, all-map, claim-drawn, sum-picked)

unsettled : (a : Against) (s : ClaimState) → has_settled s ≡ false → (is_general a && has_settled s) ≡ false
unsettled a s h = grind (arith, ints, nat_tests)

left-general : (on : Against) (who : List ℕ) (z w drawn : ℤ) → on ≡ against.General who → z -ℤ drawn ≡ w → cond (is_general on) (Some (on_general on z -ℤ drawn)) None ≡ Some w
left-general on who z w drawn is h = rw is (ap (λ (v : ℤ). Some v) h)

pub claim-left : ClaimLeft
unfolding worth
claim-left rows k c who s at general =
    grind (arith, ints, nat_tests, within, unsettled, total-undrawn, left-general, claim-total)
