-- Fees and claims, as steps.
use Rattle.trust_matter.proofs.Names.{Against, AreBacked, Ask, Caller, ClaimAsk, ClaimState, Entry, FeeAsk, HasAmount, Head, IsAmount, IsBy, IsRanged, IsRising, List, MayAdd, MayTake, None, Numbered, Option, Seat, Some, Sound, [], against_left, against_no, all-at, arith, available, available_share, claim_of, days_of, differs_from_offer, draw, edit_of, entry_at, events_of, exceeds, exceeds_claim, facts_of, false, false≢true, fee_of, has_settled, inl, inr, ints, is_another_offer, is_claim_settled, is_claim_without_offer, is_fee, is_general, is_no_claim, is_no_fee, is_none, is_offered_state, is_on_fee, is_settled, le_refl, left-drawn, left-moved, left_in, left_of, length, made-before, names, nat_tests, not, number_named, of_kind, off_fee, on_fee, on_general, other_of, part_of, pos, refl, rows-of, settled, subst, sym, target-apart, target_in, to_claimant, to_client, total-undrawn, true, with_claim, within, worth, ℕ, ◌&&◌, ◌-ℤ◌, ◌<◌, ◌∙◌, ◌≡◌, ◌≤ℤ◌, ◌≤◌}
use Rattle.matter_rows.specs.declared.claim.Against.TheVariants as against
use Rattle.matter_rows.specs.declared.claim.Claim.{Claim}
use Rattle.matter_rows.specs.declared.claim.ClaimState.TheVariants as claim
use Rattle.matter_rows.specs.declared.fee.Fee.{Fee}
use Rattle.matter_rows.specs.declared.entry.Entry.TheVariants as entry
use Rattle.trust_matter.specs.declared.ask.Ask.TheVariants as ask
use Rattle.trust_matter.specs.declared.claim.SplitAsk.{SplitAsk}
use Rattle.trust_matter.proofs.PaymentSteps.{within-left}
use Rattle.trust_matter.proofs.StepForms.{step-append, step-exchange, exchange-moves, next-is, not-before, not-false, asked, Stepped}
use Rattle.trust_matter.proofs.Table.{Passes}

-- A fee takes at most what is available.

fee-may : (es : List Entry) (f : Fee) → AreBacked es → length es < 9_999 → IsAmount f.amount → pos f.amount ≤ℤ available es → MayAdd es (entry.Fee f)
unfolding names draw worth available_share
fee-may es f s room few enough = grind (arith, ints, nat_tests, worth, left-drawn)

pub step-fee : (h : Head) (seats : List Seat) (es : List Entry) (c : Caller) (a : FeeAsk) (day : ℕ) → Sound (rows-of (Some h) seats es) → HasAmount (ask.EarnFee a) → h.closed ≡ None → h.last ≤ day → Passes (facts_of (rows-of (Some h) seats es) (ask.EarnFee a)) (asked c (ask.EarnFee a) day) → Stepped (Some h) seats es (asked c (ask.EarnFee a) day) (edit_of (ask.EarnFee a) (entry_at es a.number) day)
unfolding events_of days_of
step-fee h seats es c a day s amount unclosed later p =
    let x : Numbered = record { number = a.number; entry = fee_of a day } in
    let next = next-is (length es) a.number p.next in
    let may =
    fee-may es (record { book = day; amount = a.amount; description = a.description }) s.backed next.0 amount
    (within-left a.amount (available es) p.enough) in
    step-append h seats es x _ _ day s unclosed may next.1 later later (le_refl day, tt) tt
    (record { moved = refl; dated = tt }) (inl refl)

-- A claim takes at most what is left of its fee, or what is available.

abbrev open-claim : ℕ → ℕ → Against → List ℕ → Entry
open-claim book amount on reason = entry.Claim (record { book = book; amount = amount; against = on; reason = reason; state = claim.Open })

fee-claim-may : (es : List Entry) (book amount k : ℕ) (reason : List ℕ) (o : Option Entry) → entry_at es k ≡ o → AreBacked es → length es < 9_999 → IsAmount amount → is_none o ≡ false → is_no_fee o ≡ false → exceeds amount (left_in es k o) ≡ false → MayAdd es (open-claim book amount (against.Fee k) reason)
unfolding names draw worth available_share
fee-claim-may es book amount k reason o at s room few there kind enough =
    grind (arith, ints, nat_tests, is_fee, not-false, worth, left-drawn, left_of, within-left)

claim-may : (es : List Entry) (book amount : ℕ) (on : Against) (reason : List ℕ) → AreBacked es → length es < 9_999 → IsAmount amount → (is_on_fee on && is_none (entry_at es (against_no on))) ≡ false → (is_on_fee on && is_no_fee (entry_at es (against_no on))) ≡ false → exceeds amount (against_left on (available es) (left_in es (against_no on) (entry_at es (against_no on)))) ≡ false → MayAdd es (open-claim book amount on reason)
unfolding names draw worth available_share
claim-may es book amount (against.General who) reason s room few there kind enough =
    let some = within-left amount (available es) enough in
    record {
      room = room;
      ranged = record { amount = few; part = omega arith };
      named = refl;
      available = omega (arith, ints, some);
      worth = omega (arith, ints);
      left = left-drawn es (open-claim book amount (against.General who) reason) (λ e h. let l = s.left 0 e h in omega (arith, ints, l)) s.left;
    }
claim-may es book amount (against.Fee k) reason s room few there kind enough = search (fee-claim-may)

pub step-claim : (h : Head) (seats : List Seat) (es : List Entry) (c : Caller) (a : ClaimAsk) (day : ℕ) → Sound (rows-of (Some h) seats es) → HasAmount (ask.RaiseClaim a) → h.closed ≡ None → h.last ≤ day → Passes (facts_of (rows-of (Some h) seats es) (ask.RaiseClaim a)) (asked c (ask.RaiseClaim a) day) → Stepped (Some h) seats es (asked c (ask.RaiseClaim a) day) (edit_of (ask.RaiseClaim a) (entry_at es a.number) day)
unfolding events_of days_of
step-claim h seats es c a day s amount unclosed later p =
    let x : Numbered = record { number = a.number; entry = claim_of a day } in
    let next = next-is (length es) a.number p.next in
    let may = claim-may es day a.amount a.against a.reason s.backed next.0 amount p.there p.kind p.enough in
    step-append h seats es x _ _ day s unclosed may next.1 later later (le_refl day, tt) tt
    (record { moved = refl; dated = tt }) (inr refl)

-- An open claim: all of it is kept apart.

open-is : (s : ClaimState) (amount : ℕ) → has_settled s ≡ false
    → (to_client s ≡ pos 0) × (to_claimant s amount ≡ pos amount) × (off_fee s amount ≡ pos amount)
open-is s amount h = grind (arith, ints, nat_tests)

open-unsettled : (on : Against) (s : ClaimState) → has_settled s ≡ false → (is_general on && has_settled s) ≡ false
open-unsettled on s h = grind (arith, ints, nat_tests)

-- a claim with at most its amount to the client
parts-are : (s : ClaimState) (amount : ℕ) → part_of s ≤ amount
    → (pos 0 ≤ℤ to_client s) × (to_claimant s amount ≤ℤ pos amount) × (pos 0 ≤ℤ to_claimant s amount) × (off_fee s
    amount ≤ℤ pos amount)
parts-are s amount le = grind (arith, ints, nat_tests)

-- Another state of an open claim gives no less to what is available, and takes no more from its fee.

available-rises : (on : Against) (s next : ClaimState) (amount : ℕ) → has_settled s ≡ false → part_of next ≤ amount
    → (on_fee on (to_client s) -ℤ on_general on (to_claimant s amount)) ≤ℤ
    (on_fee on (to_client next) -ℤ on_general on (to_claimant next amount))
available-rises on s next amount h le = grind (arith, ints, nat_tests, open-is, parts-are)

draw-falls : (on : Against) (s next : ClaimState) (amount : ℕ) → has_settled s ≡ false → part_of next ≤ amount → on_fee on (off_fee next amount) ≤ℤ on_fee on (off_fee s amount)
draw-falls on s next amount h le = grind (arith, ints, nat_tests, open-is, parts-are)

worth-some : (on : Against) (next : ClaimState) (amount : ℕ) → part_of next ≤ amount → pos 0 ≤ℤ on_general on (to_claimant next amount)
worth-some on next amount le = grind (arith, ints, nat_tests, parts-are)

abbrev with-state : Claim → ClaimState → Entry
with-state d state = entry.Claim (record d { state = state })

-- an open claim may be offered a part of, or settled: none could be paid from it before
restated-may : (es : List Entry) (n : ℕ) (d : Claim) (next : ClaimState) → AreBacked es → entry_at es n ≡ Some (entry.Claim d) → has_settled d.state ≡ false → part_of next ≤ d.amount → MayTake es n (entry.Claim d) (with-state d next)
unfolding names draw worth available_share
restated-may es n d next s at unsettled le =
    let some = within es n (entry.Claim d) at in
    let there : names es (entry.Claim d) ≡ true = all-at (λ e. names es e ≡ true) es n (entry.Claim d) s.named at in
    let no-settled : is_settled (entry.Claim d) ≡ false = open-unsettled d.against d.state unsettled in
    let no-fee : of_kind is_fee (entry_at es n) ≡ false = rw at refl in
    let no-claim : of_kind is_settled (entry_at es n) ≡ false = rw at no-settled in
    let all = total-undrawn es n s.named some.0 no-fee no-claim in
    record {
      at = at;
      ranged = record { amount = (all-at IsRanged es n (entry.Claim d) s.ranged at).amount; part = le };
      named = there;
      fee = λ h. h;
      settled = λ h. absurd (cc);
      available = omega (arith, ints, available-rises d.against d.state next d.amount unsettled le, s.available);
      same_target = refl;
      apart = target-apart es n some.0 no-fee no-claim (with-state d next) there;
      own = omega (arith, ints, all, worth-some d.against next d.amount le);
      left = λ k e h elsewhere. left-moved es (entry.Claim d) (with-state d next) refl
          (λ e h. omega (arith, ints, draw-falls d.against d.state next d.amount unsettled le, s.left (against_no d.against) e h)) s.left k e h;
    }

-- the days of a claim in another state are not after a day, and rise
abbrev pub AreDays : ℕ → ClaimState → Type 0
AreDays day next = (d : Claim) → d.book ≤ day → IsBy day (with-state d next) × IsRising (with-state d next)

pub offered-days : (day part : ℕ) → AreDays day (claim.Offered part)
unfolding days_of
offered-days day part d made = ((made, tt), tt)

pub settled-days : (day part : ℕ) → AreDays day (settled day part)
unfolding days_of
settled-days day part d made = ((made, (omega arith, tt)), (made, tt))

-- an ask about a claim that is open, and the state that it leaves the claim in
step-split : (h : Head) (seats : List Seat) (es : List Entry) (c : Caller) (q : Ask) (n day : ℕ) (d : Claim) (next : ClaimState) → number_named q ≡ n → ((e : Option Entry) → other_of q e ≡ target_in e) → entry_at es n ≡ Some (entry.Claim d) → Sound (rows-of (Some h) seats es) → h.closed ≡ None → h.last ≤ day → has_settled d.state ≡ false → part_of next ≤ d.amount → AreDays day next → Stepped (Some h) seats es (asked c q day) (with_claim n (Some (entry.Claim d)) next)
unfolding events_of
step-split h seats es c q n day d next number other at s unclosed later unsettled le days =
    let x : Numbered = record { number = n; entry = with-state d next } in
    let may = restated-may es n d next s.backed at unsettled le in
    let made : d.book ≤ day = let b = made-before h es n (entry.Claim d) s.headed.0 at in omega (arith, b, later) in
    let ok = days d made in
    step-exchange h seats es x (entry.Claim d) _ _ day s unclosed may refl
    (λ was. absurd (false≢true (sym (open-unsettled d.against d.state unsettled) ∙ was))) later ok.0 ok.1
    (exchange-moves es x h.last day [] (rw at refl) tt) (inr (rw number (rw (other (entry_at es n)) (rw at refl))))
    (sym number)

-- An offer, or an award.

pub step-unsettled : (h : Head) (seats : List Seat) (es : List Entry) (c : Caller) (q : Ask) (n day : ℕ) (next : ClaimState) (o : Option Entry) → number_named q ≡ n → ((e : Option Entry) → other_of q e ≡ target_in e) → AreDays day next → entry_at es n ≡ o → Sound (rows-of (Some h) seats es) → h.closed ≡ None → h.last ≤ day → is_none o ≡ false → is_no_claim o ≡ false → is_claim_settled o ≡ false → exceeds_claim o (part_of next) ≡ false → Stepped (Some h) seats es (asked c q day) (with_claim n o next)
step-unsettled h seats es c q n day next (Some (entry.Claim d)) number other days at s unclosed later there kind state split =
    search (step-split, not-before)
step-unsettled h seats es c q n day next o number other days at s unclosed later there kind state split = absurd (cc)

-- An offer that is accepted: its part is that of the claim.

offered-is : (s : ClaimState) (part : ℕ) → not (is_offered_state s) ≡ false → is_another_offer s part ≡ false → s ≡ claim.Offered part
offered-is s part h g = grind (arith, ints, nat_tests, not-false)

pub step-accept : (h : Head) (seats : List Seat) (es : List Entry) (c : Caller) (a : SplitAsk) (day : ℕ) (o : Option Entry) → entry_at es a.number ≡ o → Sound (rows-of (Some h) seats es) → h.closed ≡ None → h.last ≤ day → is_none o ≡ false → is_no_claim o ≡ false → is_claim_without_offer o ≡ false → differs_from_offer o a.to_client ≡ false → Stepped (Some h) seats es (asked c (ask.Accept a) day) (with_claim a.number o (settled day a.to_client))
step-accept h seats es c a day (Some (entry.Claim d)) at s unclosed later there kind state split =
    let is = offered-is d.state a.to_client state split in
    let P : ClaimState → Type 0 = λ v. part_of v ≤ d.amount in
    let le : a.to_client ≤ d.amount = subst P is (all-at IsRanged es a.number (entry.Claim d) s.backed.ranged at).part in
    let unsettled : has_settled d.state ≡ false = rw is refl in
    step-split h seats es c (ask.Accept a) a.number day d (settled day a.to_client) refl (λ e. refl) at s unclosed later unsettled le (settled-days day a.to_client)
step-accept h seats es c a day o at s unclosed later there kind state split = absurd (cc)
