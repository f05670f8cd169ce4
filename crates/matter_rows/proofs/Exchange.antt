-- What is left of all fees (or claims) together is a sum of one share per entry.
use Rattle.matter_rows.proofs.Names.{AllByRecursion, zero, suc, ◌≡◌, ℕ, ◌+◌, ◌-◌, ◌<◌, ◌≤◌, ◌==◌, Bool, true, false, cond, List, [], ◌∷◌, refl, sym, ◌∙◌, arith, ℤ, pos, ◌+ℤ◌, ◌-ℤ◌, Option, eqb, ints, nat_tests, Entry, total_of, left_of, lefts_from, passes, names, is_fee, is_general_claim, fees, claims, entry_at, draw, draw_on, target, worth, fee_share, claim_share, on_fee, off_fee, paid, from_fee, from_claim, to_claimant}
use Rattle.matter_rows.specs.declared.entry.Entry.TheVariants as entry
use Rattle.matter_rows.proofs.Sums.{total-add, total-zero}

-- is entry t, in the list from number n on, of this kind
abbrev kind_at : (Entry → Bool) → ℕ → List Entry → ℕ → Bool
kind_at kind n [] t = false
kind_at kind n (e ∷ es) t = cond (t == n) (kind e) (kind_at kind (n + 1) es t)

-- what r draws on the entries of the kind
abbrev picked : (Entry → Bool) → ℕ → List Entry → Entry → ℤ
picked kind n [] r = pos 0
picked kind n (e ∷ es) r = cond (kind e) (draw_on n r) (pos 0) +ℤ picked kind (n + 1) es r

abbrev worth_if : (Entry → Bool) → Entry → ℤ
worth_if kind e = cond (kind e) (worth e) (pos 0)

cond-same : {A : Type 0} (b : Bool) (x : A) → cond b x x ≡ x
cond-same true x = refl
cond-same false x = refl

lefts-split : (kind : Entry → Bool) (es : List Entry) (n : ℕ) (part : List Entry) →
    lefts_from kind es n part ≡ total_of (worth_if kind) part -ℤ total_of (picked kind n part) es
lefts-split kind es n [] = omega (arith, ints, total-zero es)
lefts-split kind es n (e ∷ part) =
    let more = lefts-split kind es (n + 1) part in
    elim (kind e) as (λ b. cond b (left_of es n e) (pos 0) +ℤ lefts_from kind es (n + 1) part ≡ (cond b (worth e) (pos 0) +ℤ total_of (worth_if kind) part) -ℤ total_of (λ r. cond b (draw_on n r) (pos 0) +ℤ picked kind (n + 1) part r) es) [
      | true ↦ omega (arith, ints, more, total-add (draw_on n) (picked kind (n + 1) part) es)
      | false ↦ omega (arith, ints, more, total-add (λ _. pos 0) (picked kind (n + 1) part) es, total-zero es)
    ]

kind_at-below : (kind : Entry → Bool) (n : ℕ) (es : List Entry) (t : ℕ) → t < n → kind_at kind n es t ≡ false
kind_at-below kind n [] t h = refl
kind_at-below kind n (e ∷ es) t h = grind (arith, ints, nat_tests, eqb, (kind_at-below kind (n + 1) es t))

picked-is : (kind : Entry → Bool) (n : ℕ) (es : List Entry) (r : Entry) → picked kind n es r ≡ cond (kind_at kind n es (target r)) (draw r) (pos 0)
picked-is kind n [] r = refl
picked-is kind n (e ∷ es) r =
    grind (arith, ints, nat_tests, kind_at-below, eqb, cond-same, (picked-is kind (n + 1) es r))

-- the kind of an entry, by its number
kind_at-is : (kind : Entry → Bool) (n : ℕ) (es : List Entry) (t : ℕ) → n ≤ t → kind_at kind n es t ≡ passes kind (entry_at es (t + 1 - n))
kind_at-is kind n [] t h = refl
kind_at-is kind n (e ∷ es) t h = grind (arith, ints, nat_tests, eqb, (kind_at-is kind (n + 1) es t))

-- sums of shares that agree on each entry of the list
pub total-agree : (f g : Entry → ℤ) (es : List Entry) → AllByRecursion (λ e. f e ≡ g e) es → total_of f es ≡ total_of g es
total-agree f g [] h = refl
total-agree f g (e ∷ es) h = omega (arith, ints, total-agree f g es h.1, h.0)

-- each fact about an entry of the list, from one about it that follows
pub all-map : (P Q : Entry → Type 0) (es : List Entry) → ((e : Entry) → P e → Q e) → AllByRecursion P es → AllByRecursion Q es
all-map P Q [] f h = tt
all-map P Q (e ∷ es) f h = (f e h.0, all-map P Q es f h.1)

pub none-at-zero : (kind : Entry → Bool) (es : List Entry) → passes kind (entry_at es 0) ≡ false
none-at-zero kind [] = refl
none-at-zero kind (e ∷ es) = none-at-zero kind es

at-one : (kind : Entry → Bool) (es : List Entry) (t : ℕ) → kind_at kind 1 es t ≡ passes kind (entry_at es t)
at-one kind es zero = kind_at-below kind 1 es 0 (omega arith) ∙ sym (none-at-zero kind es)
at-one kind es (suc t) = grind (arith, ints, nat_tests, kind_at-is)

fee-no-claim : (o : Option Entry) → passes is_fee o ≡ true → passes is_general_claim o ≡ false
fee-no-claim o h = grind (arith, ints, nat_tests)

-- what an entry draws on the fees, and on the claims on the general fund
abbrev fee_draw : Entry → ℤ
fee_draw (entry.Deposit d) = pos 0
fee_draw (entry.Payment p) = from_fee p.fund (paid p.state p.amount)
fee_draw (entry.Fee f) = pos 0
fee_draw (entry.Claim c) = on_fee c.against (off_fee c.state c.amount)

abbrev claim_draw : Entry → ℤ
claim_draw (entry.Deposit d) = pos 0
claim_draw (entry.Payment p) = from_claim p.fund (paid p.state p.amount)
claim_draw (entry.Fee f) = pos 0
claim_draw (entry.Claim c) = pos 0

fee-drawn : (es : List Entry) (e : Entry) → names es e ≡ true → cond (passes is_fee (entry_at es (target e))) (draw e) (pos 0) ≡ fee_draw e
unfolding names draw
fee-drawn es e h = grind (arith, ints, nat_tests, cond-same, none-at-zero, paid, off_fee)

claim-drawn : (es : List Entry) (e : Entry) → names es e ≡ true → cond (passes is_general_claim (entry_at es (target e))) (draw e) (pos 0) ≡ claim_draw e
unfolding names draw
claim-drawn es e h = grind (arith, ints, nat_tests, cond-same, none-at-zero, fee-no-claim, paid, off_fee)

fee-picked : (es : List Entry) (e : Entry) → names es e ≡ true → picked is_fee 1 es e ≡ fee_draw e
fee-picked es e h = grind (arith, ints, nat_tests, picked-is, at-one, fee-drawn)

claim-picked : (es : List Entry) (e : Entry) → names es e ≡ true → picked is_general_claim 1 es e ≡ claim_draw e
claim-picked es e h = grind (arith, ints, nat_tests, picked-is, at-one, claim-drawn)

fee_share-is : (e : Entry) → fee_share e +ℤ fee_draw e ≡ worth_if is_fee e
unfolding fee_share worth
fee_share-is e = grind (arith, ints, nat_tests)

claim_share-is : (e : Entry) → claim_share e +ℤ claim_draw e ≡ worth_if is_general_claim e
unfolding claim_share worth
claim_share-is e = grind (arith, ints, nat_tests, to_claimant)

shares-less : (f g : Entry → ℤ) (h : Entry → ℤ) (es : List Entry) → ((e : Entry) → f e +ℤ g e ≡ h e) → total_of f es ≡ total_of h es -ℤ total_of g es
shares-less f g h [] p = refl
shares-less f g h (e ∷ es) p = omega (arith, ints, shares-less f g h es p, p e)

-- the sum of what is left of the fees is a sum of shares
pub fees-by_share : (es : List Entry) → AllByRecursion (λ e. names es e ≡ true) es → fees es ≡ total_of fee_share es
fees-by_share es h =
    let drawn = total-agree (picked is_fee 1 es) fee_draw es (all-map (λ e. names es e ≡ true) (λ e. picked is_fee 1 es e ≡ fee_draw e) es (fee-picked es) h) in
    let split = lefts-split is_fee es 1 es in
    let less = shares-less fee_share fee_draw (worth_if is_fee) es fee_share-is in
    omega (arith, ints, drawn, split, less)

pub claims-by_share : (es : List Entry) → AllByRecursion (λ e. names es e ≡ true) es → claims es ≡ total_of claim_share es
claims-by_share es h =
    let drawn = total-agree (picked is_general_claim 1 es) claim_draw es (all-map (λ e. names es e ≡ true) (λ e. picked is_general_claim 1 es e ≡ claim_draw e) es (claim-picked es) h) in
    let split = lefts-split is_general_claim es 1 es in
    let less = shares-less claim_share claim_draw (worth_if is_general_claim) es claim_share-is in
    omega (arith, ints, drawn, split, less)
