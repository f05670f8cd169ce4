-- Lines of the bank, as steps.
use Rattle.trust_matter.proofs.Names.{AllByRecursion, AreBacked, BankLine, Bool, DatedEdit, Deposit, DepositState, Entry, Head, IsAtRestIfClosed, IsBy, IsRanged, IsRising, IsStepOf, Line, LineEffect, LineFacts, LinesKeepSound, List, MayTake, MovesWithin, NoReasonHolds, None, Numbered, Option, Payment, PaymentState, Reason, ReturnedDeposit, Rows, Seat, Some, Sound, [], after_line_effect, all-at, ap, append-nil, arith, available, awaits_no_line, cleared_payment, clearing_by, cond, dated_by, days_of, deposit_by, entry_at, events_in, events_of, exceeds, false, false≢true, first_reason, from_general, fund_no, has_amount_back, has_no_line, held_deposit, held_share, inl, inr, ints, is_cleared_state, is_gone, is_held_state, is_issued_state, is_line_again, is_none, is_of_another_amount, is_uncovered, last_by, le-max_left, le-max_right, line_effect, line_facts, line_on, made-before, matched, max, nat_lt, not, paid, payment_bank, payment_days, payments, pending_payment, pending_share, pos, reasons, refl, rows-of, sound-covered, subst, sym, target_in, told_by, true, ℕ, ◌&&◌, ◌++◌, ◌||◌, ◌∙◌, ◌∷◌, ◌≡◌, ◌≤ℤ◌, ◌≤◌, ◌⊎◌, nat_tests, up-to}
use Rattle.matter_rows.specs.declared.deposit.DepositState.TheVariants as deposit
use Rattle.matter_rows.specs.declared.payment.PaymentState.TheVariants as payment
use Rattle.matter_rows.specs.declared.entry.Entry.TheVariants as entry
use Rattle.matter_rows.proofs.Sums.{total-within}
use Rattle.matter_parts.specs.declared.edit.Edit.TheVariants as edit
use Rattle.trust_matter.specs.declared.line_verdict.LineEffect.TheVariants as told
use Rattle.trust_matter.proofs.DepositSteps.{restated-may, returned-may, returning-moves, returned-by}
use Rattle.trust_matter.proofs.StepForms.{either-false, step-exchange, exchange-moves, not-false, not-before}
use Rattle.trust_matter.proofs.PaymentSteps.{within-left, restated-may as payment-restated}

-- A line that is applied.

pub none-hold : (cs : List (Bool × Reason)) → first_reason cs ≡ None → NoReasonHolds cs
none-hold [] h = tt
none-hold ((true, r) ∷ cs) h = absurd (cc)
none-hold ((false, r) ∷ cs) h = (refl, none-hold cs h)

-- the line is none that came before, and no reason holds against it
pub record IsMatched (f : LineFacts) : Type 0 where
  pub new : is_line_again f.entry f.line ≡ false
  pub dated : nat_lt f.today f.line.date ≡ false
  pub opened : is_gone f.head ≡ false
  pub there : is_none f.entry ≡ false
  pub kind : has_no_line f.entry ≡ false
  pub state : awaits_no_line f.entry f.line ≡ false
  pub amount : is_of_another_amount f.entry f.line ≡ false
  pub covered : is_uncovered f ≡ false

applied-is : (b : Bool) (r : Option Reason) (e f : DatedEdit) → cond b told.Repeat (matched r e) ≡ told.Applied f → (b ≡ false) × (r ≡ None) × (e ≡ f)
applied-is b r e f h = grind (arith, ints)

-- what is known where a line is applied
pub applied-matched : (f : LineFacts) (d : DatedEdit) → line_effect f ≡ told.Applied d → IsMatched f × (dated_by f ≡ d)
applied-matched f d h =
    let a = applied-is (is_line_again f.entry f.line) (first_reason (reasons f)) (dated_by f) d h in
    let l : NoReasonHolds (reasons f) = none-hold (reasons f) a.1 in
    assumption

-- An entry that waits for a line.

held-least : (e : Entry) → pos 0 ≤ℤ held_share e
unfolding held_share
held-least e = grind (arith, ints, held_deposit)

pending-least : (e : Entry) → pos 0 ≤ℤ pending_share e
unfolding pending_share
pending-least e = grind (arith, ints, pending_payment)

-- money that is held, or a payment that waits
abbrev Waits : Entry → Type 0
Waits e = (pos 1 ≤ℤ held_share e) ⊎ (pos 1 ≤ℤ pending_share e)

-- a matter with an entry that waits is not closed
waits-unclosed : (h : Head) (closed : Option ℕ) (es : List Entry) (n : ℕ) (e : Entry) → AreBacked es → entry_at es n ≡ Some e → Waits e → IsAtRestIfClosed h closed es → closed ≡ None
waits-unclosed h None es n e s at waits rest = refl
waits-unclosed h (Some day) es n e s at (inl some) rest =
    grind (arith, ints, (total-within held_share es n e held-least), held-least, (sound-covered es s))
waits-unclosed h (Some day) es n e s at (inr some) rest =
    grind (arith, ints, (total-within pending_share es n e pending-least), pending-least)

held-waits : (es : List Entry) (n : ℕ) (d : Deposit) → AreBacked es → entry_at es n ≡ Some (entry.Deposit d) → d.state ≡ deposit.Held → Waits (entry.Deposit d)
unfolding held_share
held-waits es n d s at held = grind (arith, ints, all-at)

issued-waits : (p : Payment) → is_issued_state p.state ≡ true → Waits (entry.Payment p)
unfolding pending_share
issued-waits p h = grind (arith, ints, pending_payment, false≢true)

-- A payment that a line has cleared.

abbrev cleared-by-line : Line → Payment → Entry
cleared-by-line line p = entry.Payment (record p { state = cleared_payment line p.state })

cleared-same : (line : Line) (s : PaymentState) (a : ℕ)
    → (paid (cleared_payment line s) a ≡ paid s a) × (payments (cleared_payment line s) a ≡ payments s
    a) × (payment_days (cleared_payment line s) ≡ payment_days s)
cleared-same line s a = grind (arith, ints)

-- a payment may be cleared
payment-may : (es : List Entry) (n : ℕ) (line : Line) (p : Payment) → AreBacked es → entry_at es n ≡ Some (entry.Payment p) → MayTake es n (entry.Payment p) (cleared-by-line line p)
payment-may es n line p s at =
    let same = (cleared-same line p.state p.amount).0 in
    let general = ap (from_general p.fund) same in
    payment-restated es n p (cleared_payment line p.state) s at
    (let a = s.available in omega (arith, ints, a, general))
    (λ e g. let l = s.left (fund_no p.fund) e g in omega (arith, ints, l, same))

-- What is cleared by a line.

clearing-moves : (es : List Entry) (n last day : ℕ) (old new : Entry) → entry_at es n ≡ Some old → events_of new ≡ events_of old → MovesWithin es (edit.Exchange (record { number = n; entry = new })) last day
clearing-moves es n last day old new at same =
    let was : events_in (entry_at es n) ≡ events_of old = rw at refl in
    let none : events_of new ≡ events_in (entry_at es n) ++ [] = same ∙ (sym was ∙ sym (append-nil (events_in (entry_at es n)))) in
    exchange-moves es (record { number = n; entry = new }) last day [] none tt

later-by : (line : Line) (s : PaymentState) (a b : ℕ) → a ≤ b → line.date ≤ b → AllByRecursion (λ d. d ≤ a) (payment_days s ++ payment_bank s) → AllByRecursion (λ d. d ≤ b) (payment_days (cleared_payment line s) ++ payment_bank (cleared_payment line s))
later-by line s a b later seen h = grind (arith, ints, up-to)

-- what is known of the line of a cleared deposit
record IsTakenBack (h : Head) (es : List Entry) (d : Deposit) (line : Line) (today : ℕ) : Type 0 where
  back : has_amount_back d line ≡ true
  later : h.last ≤ today
  covered : pos d.amount ≤ℤ available es

taken-back : (h : Head) (es : List Entry) (d : Deposit) (line : Line) (today : ℕ) (b : Bool) → has_amount_back d line ≡ b → not b ≡ false → (b && (nat_lt today h.last || exceeds d.amount (available es))) ≡ false → IsTakenBack h es d line today
taken-back h es d line today b is state covered = grind (arith, ints, either-false, not-before, within-left)

-- a matter in which something is available is not closed
available-unclosed : (h : Head) (closed : Option ℕ) (es : List Entry) → AreBacked es → pos 1 ≤ℤ available es → IsAtRestIfClosed h closed es → closed ≡ None
available-unclosed h closed es s some rest = grind (arith, ints, sound-covered)

-- the step of a deposit in a state
abbrev DepositStep : Head → List Seat → List Entry → BankLine → ℕ → Deposit → DepositState → Type 0
DepositStep h seats es l today d s =
    IsStepOf (rows-of (Some h) seats es) 0 l.entry (edit.Exchange (record { number = l.entry; entry = entry.Deposit (record d { state = deposit_by l.line today s }) }))
    (cond (is_cleared_state s && has_amount_back d l.line) today (max h.last l.line.date))

-- what the reasons leave of a deposit in a state
abbrev DepositMatched : Head → List Entry → Line → ℕ → Deposit → DepositState → Type 0
DepositMatched h es line today d s =
    ((not (is_held_state s) && not (is_cleared_state s && has_amount_back d line)) ≡ false)
    × (((is_cleared_state s && has_amount_back d line) && (nat_lt today h.last || exceeds d.amount (available es))) ≡ false)

deposit-step : (h : Head) (seats : List Seat) (es : List Entry) (l : BankLine) (today : ℕ) (d : Deposit) (state : DepositState) → d.state ≡ state → entry_at es l.entry ≡ Some (entry.Deposit d) → Sound (rows-of (Some h) seats es) → nat_lt today l.line.date ≡ false → DepositMatched h es l.line today d state → DepositStep h seats es l today d state
unfolding events_of days_of
deposit-step h seats es l today d deposit.Held held at s dated m =
    let new : Deposit = record d { state = deposit.Cleared (clearing_by l.line) } in
    let x : Numbered = record { number = l.entry; entry = entry.Deposit new } in
    let may = restated-may es l.entry d (deposit.Cleared (clearing_by l.line)) s.backed at held in
    let unclosed = waits-unclosed h h.closed es l.entry (entry.Deposit d) s.backed at (held-waits es l.entry d s.backed at held) s.headed.1 in
    let later = le-max_left h.last l.line.date in
    let seen = le-max_right h.last l.line.date in
    let made : d.book ≤ max h.last l.line.date = let b = made-before h es l.entry (entry.Deposit d) s.headed.0 at in omega (arith, b, later) in
    step-exchange h seats es x (entry.Deposit d) _ _ (max h.last l.line.date) s unclosed may refl (λ _. omega arith)
    later (made, (seen, tt)) (tt, tt) (clearing-moves es l.entry h.last (max h.last l.line.date) (entry.Deposit d)
    (entry.Deposit new) at (rw held refl)) (inl refl) (refl)
deposit-step h seats es l today d (deposit.Cleared c) cleared at s dated m =
    let known = taken-back h es d l.line today (has_amount_back d l.line) refl m.0 m.1 in
    let r : ReturnedDeposit = record { clearing = c; returning = clearing_by l.line; undone = today } in
    let new : Deposit = record d { state = deposit.Returned r } in
    let x : Numbered = record { number = l.entry; entry = entry.Deposit new } in
    let may = returned-may es l.entry d c r s.backed at cleared known.covered in
    let amount = (all-at IsRanged es l.entry (entry.Deposit d) s.backed.ranged at).amount in
    let covered = known.covered in
    let some : pos 1 ≤ℤ available es = omega (arith, ints, amount, covered) in
    let unclosed = available-unclosed h h.closed es s.backed some s.headed.1 in
    let later = known.later in
    let back : l.line.date ≤ today = not-before today l.line.date dated in
    let by = all-at (IsBy h.last) es l.entry (entry.Deposit d) s.headed.0.by_last at in
    let made : d.book ≤ today = let b = made-before h es l.entry (entry.Deposit d) s.headed.0 at in omega (arith, b, later) in
    let step : IsStepOf (rows-of (Some h) seats es) 0 l.entry (edit.Exchange x) today =
    step-exchange h seats es x (entry.Deposit d) _ _ today s unclosed may refl (λ _. omega arith) later (returned-by d c r h.last cleared refl by later back) ((made, tt), back) (returning-moves es l.entry h.last d c r at cleared later) (inl refl) refl in
    grind (arith, ints, nat_tests, rows-of, max)
deposit-step h seats es l today d state is at s dated m = absurd (false≢true (sym m.0))

-- the facts of a line
abbrev facts-of : Option Head → List Entry → BankLine → ℕ → Option Entry → LineFacts
facts-of head es l today o = record { head = head; number = l.entry; entry = o; available = available es; line = l.line; today = today }

-- a line that matches an entry of sound rows makes a step
pub line-step : (head : Option Head) (seats : List Seat) (es : List Entry) (l : BankLine) (today : ℕ) (o : Option Entry) → entry_at es l.entry ≡ o → Sound (rows-of head seats es) → IsMatched (facts-of head es l today o) → IsStepOf (rows-of head seats es) (target_in o) l.entry (told_by l.entry o l.line today) (last_by (facts-of head es l today o))
unfolding events_of days_of
line-step None seats es l today o at s m = absurd (false≢true (sym m.opened))
line-step (Some h) seats es l today None at s m = absurd (false≢true (sym m.there))
line-step (Some h) seats es l today (Some (entry.Deposit d)) at s m = deposit-step h seats es l today d d.state refl at s m.dated (m.state, m.covered)
line-step (Some h) seats es l today (Some (entry.Payment p)) at s m =
    let x : Numbered = record { number = l.entry; entry = cleared-by-line l.line p } in
    let may = payment-may es l.entry l.line p s.backed at in
    let issued = not-false (is_issued_state p.state) m.state in
    let unclosed = waits-unclosed h h.closed es l.entry (entry.Payment p) s.backed at (issued-waits p issued) s.headed.1 in
    let later = le-max_left h.last l.line.date in
    let seen = le-max_right h.last l.line.date in
    let by = all-at (IsBy h.last) es l.entry (entry.Payment p) s.headed.0.by_last at in
    let rising = all-at IsRising es l.entry (entry.Payment p) s.headed.0.changed at in
    let same = cleared-same l.line p.state p.amount in
    let made : p.book ≤ max h.last l.line.date = let b = by.0 in omega (arith, b, later) in
    step-exchange h seats es x (entry.Payment p) _ _ (max h.last l.line.date) s unclosed may refl (λ _. omega arith)
    later (made, later-by l.line p.state h.last (max h.last l.line.date) later seen by.1) (rw same.2 rising)
    (clearing-moves es l.entry h.last (max h.last l.line.date) (entry.Payment p) (cleared-by-line l.line p) at
    same.1) (inr refl) (refl)
line-step (Some h) seats es l today o at s m = absurd (false≢true (sym m.kind))

-- a line that is applied makes a step
pub applied-step : (rows : Rows) (l : BankLine) (today : ℕ) (d : DatedEdit) → Sound rows → line_on rows l today ≡ told.Applied d → IsStepOf rows (target_in (entry_at rows.entries l.entry)) l.entry d.edit d.last
applied-step rows l today d s h =
    let a = applied-matched (line_facts rows l today) d h in
    let P : DatedEdit → Type 0 = λ f. IsStepOf rows (target_in (entry_at rows.entries l.entry)) l.entry f.edit f.last in
    subst P a.1 (line-step rows.head rows.seats rows.entries l today (entry_at rows.entries l.entry) refl s a.0)

sound-after : (rows : Rows) (l : BankLine) (today : ℕ) (e : LineEffect) → line_on rows l today ≡ e → Sound rows → Sound (after_line_effect e rows)
sound-after rows l today (told.Applied d) is s = (applied-step rows l today d s is).sound
sound-after rows l today e is s = s

-- sound rows stay sound at every line
pub lines-sound : LinesKeepSound
lines-sound rows l today s = sound-after rows l today (line_on rows l today) refl s
