-- Payments, as steps.
use Rattle.trust_matter.proofs.Names.{AreBacked, AreDated, Caller, Entry, Event, Fund, HasAmount, Head, IsAmount, IsBy, IsRanged, IsRising, List, MayAdd, MayTake, MovesWithin, None, Numbered, Option, Payment, PaymentAsk, PaymentState, Seat, Some, Sound, [], all-at, ap, arith, available, available_share, days_of, draw, edit_of, entry_at, events_in, events_of, exceeds, facts_of, false, from_general, fund_left, fund_no, funds, has_settled, inr, ints, is_an_entry, is_fee, is_general, is_issued_state, is_no_fund, is_no_fund_yet, is_no_payment, is_none, is_payment_not_issued, is_payment_not_proposed, is_proposed_state, is_settled, is_short_payment, le_refl, left-drawn, left-moved, left_in, left_of, length, made-before, names, nat_tests, not, of_kind, paid, paid_out, payment_bank, payment_days, payment_of, payments, pos, received, refl, rows-of, subst, sym, target-apart, target_in, total-undrawn, true, voided, with_payment, within, worth, ℕ, ℤ, ◌&&◌, ◌++◌, ◌+ℤ◌, ◌-ℤ◌, ◌<◌, ◌∷◌, ◌≡◌, ◌≤ℤ◌, ◌≤◌}
use Rattle.matter_rows.specs.declared.entry.Entry.TheVariants as entry
use Rattle.matter_rows.specs.declared.payment.Fund.TheVariants as fund
use Rattle.matter_rows.specs.declared.payment.PaymentState.TheVariants as payment
use Rattle.matter_parts.specs.declared.edit.Edit.TheVariants as edit
use Rattle.trust_matter.specs.declared.ask.Ask.TheVariants as ask
use Rattle.trust_matter.proofs.StepForms.{step-append, step-exchange, AreWithin, exchange-moves, next-is, not-false, asked, Stepped}
use Rattle.trust_matter.proofs.Table.{Passes}

-- what does not exceed is at most what is left
pub within-left : (a : ℕ) (z : ℤ) → exceeds a z ≡ false → pos a ≤ℤ z
within-left a z h = grind (arith, ints, nat_tests)

from-zero : (f : Fund) → from_general f (pos 0) ≡ pos 0
from-zero f = grind (arith, ints, nat_tests)

from-some : (f : Fund) (a : ℕ) → pos 0 ≤ℤ from_general f (pos a)
from-some f a = grind (arith, ints, nat_tests)

-- A proposal.

-- the fund that passes the table is a fee, or a settled claim on the general fund
funded : (es : List Entry) (f : Fund) (o : Option Entry) → entry_at es (fund_no f) ≡ o → (is_an_entry f && is_none o) ≡ false → is_no_fund f o ≡ false → is_no_fund_yet f o ≡ false → funds es f ≡ true
funded es f o at there kind state = grind (arith, ints, nat_tests, not-false, is_fee, is_general, has_settled)

-- it draws nothing yet
proposed-may : (es : List Entry) (a : PaymentAsk) (day : ℕ) → AreBacked es → length es < 9_999 → IsAmount a.amount → funds es a.fund ≡ true → MayAdd es (payment_of a day)
unfolding names draw worth available_share
proposed-may es a day s room amount there = grind (arith, ints, nat_tests, from-zero, worth, left-drawn)

pub step-propose : (h : Head) (seats : List Seat) (es : List Entry) (c : Caller) (a : PaymentAsk) (day : ℕ) → Sound (rows-of (Some h) seats es) → HasAmount (ask.Propose a) → h.closed ≡ None → h.last ≤ day → Passes (facts_of (rows-of (Some h) seats es) (ask.Propose a)) (asked c (ask.Propose a) day) → Stepped (Some h) seats es (asked c (ask.Propose a) day) (edit_of (ask.Propose a) (entry_at es a.number) day)
unfolding events_of days_of
step-propose h seats es c a day s amount unclosed later p =
    let x : Numbered = record { number = a.number; entry = payment_of a day } in
    let next = next-is (length es) a.number p.next in
    let may = proposed-may es a day s.backed next.0 amount (funded es a.fund (entry_at es (fund_no a.fund)) refl p.there p.kind p.state) in
    step-append h seats es x _ _ day s unclosed may next.1 later later (le_refl day, tt) tt
    (record { moved = refl; dated = tt }) (inr refl)

-- A payment in another state.

abbrev pub with-state : Payment → PaymentState → Entry
with-state p state = entry.Payment (record p { state = state })

-- it may be in a state whose payment its fund covers; nothing is drawn on it, as its number is that of no fee or claim
pub restated-may : (es : List Entry) (n : ℕ) (p : Payment) (state : PaymentState) → AreBacked es → entry_at es n ≡ Some (entry.Payment p) → pos 0 ≤ℤ ((available es +ℤ from_general p.fund (paid p.state p.amount)) -ℤ from_general p.fund (paid state p.amount)) → ((e : Entry) → entry_at es (fund_no p.fund) ≡ Some e → pos 0 ≤ℤ ((left_of es (fund_no p.fund) e +ℤ paid p.state p.amount) -ℤ paid state p.amount)) → MayTake es n (entry.Payment p) (with-state p state)
unfolding names draw worth available_share
restated-may es n p state s at general enough =
    let named : names es (with-state p state) ≡ true =
    all-at (λ e. names es e ≡ true) es n (entry.Payment p) s.named at in
    let some = within es n (entry.Payment p) at in
    let no-fee : of_kind is_fee (entry_at es n) ≡ false = rw at refl in
    let no-claim : of_kind is_settled (entry_at es n) ≡ false = rw at refl in
    let all = total-undrawn es n s.named some.0 no-fee no-claim in
    record {
      at = at;
      ranged = record { amount = (all-at IsRanged es n (entry.Payment p) s.ranged at).amount; part = tt };
      named = named;
      fee = λ h. h;
      settled = λ h. h;
      available = omega (arith, ints, general);
      same_target = refl;
      apart = target-apart es n some.0 no-fee no-claim (with-state p state) named;
      own = omega (arith, ints, all);
      left = λ k e h elsewhere. left-moved es (entry.Payment p) (with-state p state) refl enough s.left k e h;
    }

-- what it moves is behind what it moved before
restating-moves : (es : List Entry) (n last day : ℕ) (p : Payment) (state : PaymentState) (more : List Event)
    → entry_at es n ≡ Some (entry.Payment p) → payments state p.amount ≡ payments p.state p.amount ++ more
    → AreWithin last day more
    → MovesWithin es (edit.Exchange (record { number = n; entry = with-state p state })) last day
unfolding events_of
restating-moves es n last day p state more at is within =
    grind (arith, ints, nat_tests, events_in, exchange-moves, within)

-- An approval.

paid-general : (es : List Entry) (f : Fund) (a : ℕ) (left : ℤ) → exceeds a (fund_left f (available es) left) ≡ false → pos 0 ≤ℤ available es → pos 0 ≤ℤ (available es -ℤ from_general f (pos a))
paid-general es f a left h s = grind (arith, ints, nat_tests, within-left)

paid-left : (es : List Entry) (f : Fund) (a : ℕ) → exceeds a (fund_left f (available es) (left_in es (fund_no f) (entry_at es (fund_no f)))) ≡ false → (e : Entry) → entry_at es (fund_no f) ≡ Some e → pos a ≤ℤ left_of es (fund_no f) e
paid-left es f a h e g = grind (arith, ints, nat_tests, within, within-left)

proposed-is : (s : PaymentState) → not (is_proposed_state s) ≡ false → s ≡ payment.Proposed
proposed-is s h = grind (arith, ints, nat_tests)

pub step-approve : (h : Head) (seats : List Seat) (es : List Entry) (c : Caller) (n day : ℕ) (o : Option Entry) → entry_at es n ≡ o → Sound (rows-of (Some h) seats es) → h.closed ≡ None → h.last ≤ day → is_none o ≡ false → is_no_payment o ≡ false → is_payment_not_proposed o ≡ false → is_short_payment o (available es) (left_in es (target_in o) (entry_at es (target_in o))) ≡ false → Stepped (Some h) seats es (asked c (ask.Approve n) day) (with_payment n o (λ _. payment.Issued day))
unfolding days_of
step-approve h seats es c n day (Some (entry.Payment p)) at s unclosed later there kind state enough =
    let x : Numbered = record { number = n; entry = with-state p (payment.Issued day) } in
    let new = proposed-is p.state state in
    -- it draws on its fund at most what is left
    let may = restated-may es n p (payment.Issued day) s.backed at
    (rw new (let g = paid-general es p.fund p.amount (left_in es (fund_no p.fund) (entry_at es (fund_no p.fund))) enough
    s.backed.available in omega (arith, ints, from-zero p.fund, g)))
    (λ e g. rw new (let l = paid-left es p.fund p.amount enough e g in omega (arith, ints, l))) in
    let made : p.book ≤ day = let b = made-before h es n (entry.Payment p) s.headed.0 at in omega (arith, b, later) in
    step-exchange h seats es x (entry.Payment p) _ _ day s unclosed may refl (λ _. omega arith) later
    (made, (le_refl day, tt)) (made, tt) (restating-moves es n h.last day p (payment.Issued day)
    (paid_out day p.amount ∷ []) at (rw new refl) (later, omega arith)) (inr (sym (ap target_in at))) (refl)
step-approve h seats es c n day o at s unclosed later there kind state enough = absurd (cc)

-- A declining draws nothing.

pub step-decline : (h : Head) (seats : List Seat) (es : List Entry) (c : Caller) (n day : ℕ) (o : Option Entry) → entry_at es n ≡ o → Sound (rows-of (Some h) seats es) → h.closed ≡ None → h.last ≤ day → is_none o ≡ false → is_no_payment o ≡ false → is_payment_not_proposed o ≡ false → Stepped (Some h) seats es (asked c (ask.Decline n) day) (with_payment n o (λ _. payment.Declined))
unfolding days_of
step-decline h seats es c n day (Some (entry.Payment p)) at s unclosed later there kind state =
    let x : Numbered = record { number = n; entry = with-state p payment.Declined } in
    let new = proposed-is p.state state in
    let may = restated-may es n p payment.Declined s.backed at
    (rw new (let a = s.backed.available in omega (arith, ints, a)))
    (λ e g. rw new (let l = s.backed.left (fund_no p.fund) e g in omega (arith, ints, l))) in
    let made : p.book ≤ day = let b = made-before h es n (entry.Payment p) s.headed.0 at in omega (arith, b, later) in
    step-exchange h seats es x (entry.Payment p) _ _ day s unclosed may refl (λ _. omega arith) later (made, tt) tt
    (restating-moves es n h.last day p payment.Declined [] at (rw new refl) tt) (inr (sym (ap target_in at))) (refl)
step-decline h seats es c n day o at s unclosed later there kind state = absurd (cc)

-- So does a withdrawal.

pub step-withdraw : (h : Head) (seats : List Seat) (es : List Entry) (c : Caller) (n day : ℕ) (o : Option Entry) → entry_at es n ≡ o → Sound (rows-of (Some h) seats es) → h.closed ≡ None → h.last ≤ day → is_none o ≡ false → is_no_payment o ≡ false → is_payment_not_proposed o ≡ false → Stepped (Some h) seats es (asked c (ask.Withdraw n) day) (with_payment n o (λ _. payment.Declined))
step-withdraw h seats es c n day o at s unclosed later there kind state = step-decline h seats es c n day o at s unclosed later there kind state

-- A voiding gives back.

abbrev taken-back : ℕ → ℕ → PaymentState
taken-back issued day = payment.Voided (record { issued = issued; undone = day })

-- an issued payment was issued between its making and the last day
issued-within : (h : Head) (p : Payment) (issued : ℕ) → p.state ≡ payment.Issued issued → IsBy h.last (entry.Payment p) → IsRising (entry.Payment p) → (p.book ≤ issued) × (issued ≤ h.last)
unfolding days_of
issued-within h p issued was by rising = grind (arith, ints, nat_tests, payment_days, payment_bank)

issued-is : (s : PaymentState) → not (is_issued_state s) ≡ false → (issued : ℕ) × (s ≡ payment.Issued issued)
issued-is s h = grind (arith, ints, nat_tests)

void-issued : (h : Head) (seats : List Seat) (es : List Entry) (c : Caller) (n day issued : ℕ) (p : Payment) → entry_at es n ≡ Some (entry.Payment p) → Sound (rows-of (Some h) seats es) → h.closed ≡ None → h.last ≤ day → p.state ≡ payment.Issued issued → Stepped (Some h) seats es (asked c (ask.VoidPayment n) day) (edit.Exchange (record { number = n; entry = with-state p (taken-back issued day) }))
unfolding days_of
void-issued h seats es c n day issued p at s unclosed later was =
    let x : Numbered = record { number = n; entry = with-state p (taken-back issued day) } in
    let may = restated-may es n p (taken-back issued day) s.backed at
    (rw was (let a = s.backed.available in omega (arith, ints, from-zero p.fund, from-some p.fund p.amount, a)))
    (λ e g. rw was (let l = s.backed.left (fund_no p.fund) e g in omega (arith, ints, l))) in
    let dated : AreDated h es = s.headed.0 in
    let days = issued-within h p issued was (all-at (IsBy h.last) es n (entry.Payment p) dated.by_last at) (all-at IsRising es n (entry.Payment p) dated.changed at) in
    let on : issued ≤ day = let d = days.1 in omega (arith, d, later) in
    let made : p.book ≤ day = let d = days.0 in omega (arith, d, on) in
    step-exchange h seats es x (entry.Payment p) _ _ day s unclosed may refl (λ _. omega arith) later
    (made, (on, (le_refl day, tt))) (days.0, (on, tt)) (restating-moves es n h.last day p (taken-back issued day)
    (received day p.amount ∷ []) at (rw was refl) (later, omega arith)) (inr (sym (ap target_in at))) (refl)

pub step-void : (h : Head) (seats : List Seat) (es : List Entry) (c : Caller) (n day : ℕ) (o : Option Entry) → entry_at es n ≡ o → Sound (rows-of (Some h) seats es) → h.closed ≡ None → h.last ≤ day → is_none o ≡ false → is_no_payment o ≡ false → is_payment_not_issued o ≡ false → Stepped (Some h) seats es (asked c (ask.VoidPayment n) day) (with_payment n o (voided day))
step-void h seats es c n day (Some (entry.Payment p)) at s unclosed later there kind state =
    let was = issued-is p.state state in
    let P : PaymentState → Type 0 = λ v. Stepped (Some h) seats es (asked c (ask.VoidPayment n) day) (edit.Exchange (record { number = n; entry = with-state p (voided day v) })) in
    subst P (sym was.1) (void-issued h seats es c n day was.0 p at s unclosed later was.1)
step-void h seats es c n day o at s unclosed later there kind state = absurd (cc)
