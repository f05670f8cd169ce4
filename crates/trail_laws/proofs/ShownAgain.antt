-- An applied line adds the act of which the new rows say what the bank showed.
use Rattle.trail_laws.proofs.Names.{ALine, Act, BankLine, Deed, Doing, Dossier, Entry, IsApplied, Line, LineEffect, List, None, Option, Payment, PaymentState, Rows, Some, [], ap, applied-matched, arith, cleared_payment, cond, entry_at, false, false≢true, last_by, line_act, line_facts, line_on, nat_tests, not, refl, subst, sym, told_by, true, ℕ, ◌&&◌, ◌∙◌, ◌∷◌, ◌≡◌}
use Rattle.std.proofs.Common.{inl, inr}
use Rattle.std.proofs.lemmas.Bool.Decides.{Decides-int_eq}
use Rattle.std.specs.Ordering.{int_eq}
use Rattle.std.specs.Prelude.{flat_map, ℤ, pos, ◌-ℤ◌}
use Rattle.matter_rows.specs.Balances.{available}
use Rattle.matter_rows.specs.Clearings.{deposit_by}
use Rattle.matter_rows.specs.Rows.{is_gone}
use Rattle.matter_rows.specs.declared.act.Caller.TheVariants as caller
use Rattle.matter_rows.specs.declared.act.Deed.TheVariants as deed
use Rattle.matter_rows.specs.declared.deposit.Deposit.{Deposit}
use Rattle.matter_rows.specs.declared.deposit.DepositState.{DepositState}
use Rattle.matter_rows.specs.declared.deposit.DepositState.TheVariants as deposit
use Rattle.matter_rows.specs.declared.entry.Entry.TheVariants as entry
use Rattle.matter_rows.specs.declared.payment.PaymentState.TheVariants as payment
use Rattle.matter_parts.specs.declared.edit.Edit.TheVariants as edit
use Rattle.trust_matter.proofs.LineSteps.{IsMatched}
use Rattle.trust_matter.proofs.StepForms.{not-false}
use Rattle.trust_matter.specs.LineStep.{LineFacts, awaits_no_line, is_of_another_amount, line_effect}
use Rattle.trust_matter.specs.declared.line_verdict.LineEffect.TheVariants as told
use Rattle.trail_laws.proofs.Added.{dossier-by-line, line-adds-none}
use Rattle.trail_laws.proofs.AskedAgain.{exchanged-there}
use Rattle.trail_laws.proofs.Told.{SaysStill, StepIs, Stays, edit-keeps, there-stays}
use Rattle.trail_laws.specs.Dossier.{dossier_after_line}
use Rattle.trail_laws.specs.Replayed.{cleared_by, deposit_cleared, deposit_returned, of_found, own_by, payment_cleared, returned_by, shown_by}
use Rattle.trail_laws.specs.Signed.{is_opened_by}

-- A line's words change nothing.

-- a line's day and reference, with this amount and without its words
abbrev with-amount : ℕ → BankLine → ℤ → BankLine
with-amount m l amount = record {
  matter = m;
  entry = l.entry;
  line = record { date = l.line.date; reference = []; bank_ref = l.line.bank_ref; amount = amount; text = [] };
}

abbrev plain : ℕ → BankLine → BankLine
plain m l = with-amount m l l.line.amount

abbrev deposit-in : Deposit → DepositState → Entry
deposit-in d s = entry.Deposit (record d { state = s })

abbrev payment-in : Payment → PaymentState → Entry
payment-in v s = entry.Payment (record v { state = s })

-- the facts of a line, by its entry
abbrev facts-by : Rows → BankLine → ℕ → Option Entry → LineFacts
facts-by rows l today o = record {
  head = rows.head;
  number = l.entry;
  entry = o;
  available = available rows.entries;
  line = l.line;
  today = today;
}

-- what a line leaves of a dossier, by its entry
abbrev by-line : Dossier → BankLine → ℕ → Option Entry → Dossier
by-line p l today o = dossier-by-line p (line_act o l today) (line_effect (facts-by p.rows l today o))

plain-deposit : (m : ℕ) (p : Dossier) (l : BankLine) (today : ℕ) (d : Deposit) (s : DepositState)
    → by-line p (plain m l) today (Some (deposit-in d s)) ≡ by-line p l today (Some (deposit-in d s))
plain-deposit m p l today d deposit.Held = refl
plain-deposit m p l today d (deposit.Cleared c) = refl
plain-deposit m p l today d (deposit.Cancelled day) = refl
plain-deposit m p l today d (deposit.Returned r) = refl

plain-payment : (m : ℕ) (p : Dossier) (l : BankLine) (today : ℕ) (v : Payment) (s : PaymentState)
    → by-line p (plain m l) today (Some (payment-in v s)) ≡ by-line p l today (Some (payment-in v s))
plain-payment m p l today v payment.Proposed = refl
plain-payment m p l today v (payment.Issued day) = refl
plain-payment m p l today v (payment.Cleared c) = refl
plain-payment m p l today v (payment.Voided u) = refl
plain-payment m p l today v payment.Declined = refl

plain-by : (m : ℕ) (p : Dossier) (l : BankLine) (today : ℕ) (o : Option Entry)
    → by-line p (plain m l) today o ≡ by-line p l today o
plain-by m p l today None = refl
plain-by m p l today (Some (entry.Deposit d)) = plain-deposit m p l today d d.state
plain-by m p l today (Some (entry.Payment v)) = plain-payment m p l today v v.state
plain-by m p l today (Some (entry.Fee f)) = refl
plain-by m p l today (Some (entry.Claim c)) = refl

plain-same : (m : ℕ) (p : Dossier) (l : BankLine) (today : ℕ)
    → dossier_after_line p (plain m l) today ≡ dossier_after_line p l today
plain-same m p l today = plain-by m p l today (entry_at p.rows.entries l.entry)

-- What the bank showed stays.

deposit-cleared : (line : Line) (today amount : ℕ) (s : DepositState)
    → Stays (deposit_cleared amount s) (deposit_cleared amount (deposit_by line today s))
deposit-cleared line today amount deposit.Held = tt
deposit-cleared line today amount (deposit.Cleared c) = refl
deposit-cleared line today amount (deposit.Cancelled day) = tt
deposit-cleared line today amount (deposit.Returned r) = refl

deposit-returned : (line : Line) (today amount : ℕ) (s : DepositState)
    → Stays (deposit_returned amount s) (deposit_returned amount (deposit_by line today s))
deposit-returned line today amount deposit.Held = tt
deposit-returned line today amount (deposit.Cleared c) = tt
deposit-returned line today amount (deposit.Cancelled day) = tt
deposit-returned line today amount (deposit.Returned r) = refl

payment-cleared : (line : Line) (amount : ℕ) (s : PaymentState)
    → Stays (payment_cleared amount s) (payment_cleared amount (cleared_payment line s))
payment-cleared line amount payment.Proposed = tt
payment-cleared line amount (payment.Issued day) = tt
payment-cleared line amount (payment.Cleared c) = refl
payment-cleared line amount (payment.Voided u) = tt
payment-cleared line amount payment.Declined = tt

deposit-says : (line : Line) (today : ℕ) (d : Deposit) (s : DepositState)
    → SaysStill (deposit-in d s) (deposit-in d (deposit_by line today s))
deposit-says line today d s = record {
  made = λ n. refl;
  cleared = deposit-cleared line today d.amount s;
  returned = deposit-returned line today d.amount s;
  parts = tt;
}

payment-says : (line : Line) (v : Payment) (s : PaymentState)
    → SaysStill (payment-in v s) (payment-in v (cleared_payment line s))
payment-says line v s = record {
  made = λ n. refl;
  cleared = payment-cleared line v.amount s;
  returned = tt;
  parts = tt;
}

-- What a line does that is applied.

abbrev act-of : BankLine → ℕ → Deed → Act
act-of l today d = record { entry = Some l.entry; day = today; caller = caller.Cashier; deed = d }

-- what is left by an act that exchanges the line's entry for another, on this last day
abbrev exchanged-by : Dossier → BankLine → Act → Entry → ℕ → Dossier
exchanged-by p l act new last =
    dossier-by-line p act
    (told.Applied (record { edit = edit.Exchange (record { number = l.entry; entry = new }); last = last }))

-- what the line leaves that clears its entry or takes it back, on this last day
abbrev shown : Dossier → BankLine → ℕ → ℕ → Option Entry → Dossier
shown p l today last o =
    dossier-by-line p (line_act o l today)
    (told.Applied (record { edit = told_by l.entry o l.line today; last = last }))

-- what an entry says of the bank
abbrev SaysOf : Type 0
SaysOf = ℕ → Entry → List Doing

abbrev cleared-says : ℕ → Act → SaysOf
cleared-says m act n e = flat_map (λ s. shown_by m n act s ∷ []) (cleared_by e)

abbrev returned-says : ℕ → Act → SaysOf
returned-says m act n e = flat_map (λ s. shown_by m n act s ∷ []) (returned_by e)

-- the exchanged entry says what the bank showed
shown-exchange : (m : ℕ) (p after : Dossier) (l : BankLine) (today last : ℕ) (old new : Entry) (d : Deed)
    → (says : SaysOf) → after ≡ exchanged-by p l (act-of l today d) new last → dossier_after_line p l today ≡ after
    → ((rows : Rows) → own_by m rows (act-of l today d) ≡ of_found says l.entry (entry_at rows.entries l.entry))
    → says l.entry new ≡ ALine (plain m l) today ∷ [] → entry_at p.rows.entries l.entry ≡ Some old → SaysStill old new
    → is_opened_by d ≡ false → is_gone p.rows.head ≡ false → StepIs m p after
shown-exchange m p after l today last old new d says is again own shows at still other here =
    let e = edit.Exchange (record { number = l.entry; entry = new }) in
    let made = exchanged-by p l (act-of l today d) new last in
    let there = exchanged-there p.rows.entries l.entry old new at in
    subst (StepIs m p) (sym is) (inr (inl (record {
      act = act-of l today d;
      doing = ALine (plain m l) today;
      acts = refl;
      told = own made.rows ∙ (ap (of_found says l.entry) there ∙ shows);
      again = plain-same m p l today ∙ (again ∙ is);
      keeps = edit-keeps p.rows e last (old, at, still);
      fresh = λ opens. absurd (false≢true (sym other ∙ opens));
      before = inl here;
      there = there-stays p.rows.head e last tt here;
    })))

-- a line that takes back, or clears, has the amount
back-amount : (x y : ℤ) → not (int_eq x y) ≡ false → x ≡ y
back-amount x y is = grind (arith, nat_tests, (Decides-int_eq x y))

clears-amount : (x y : ℤ) → (not (int_eq x y) && true) ≡ false → x ≡ y
clears-amount x y is = grind (arith, nat_tests, (Decides-int_eq x y))

deposit-is : (m : ℕ) (p : Dossier) (l : BankLine) (today last : ℕ) (d : Deposit) (s : DepositState)
    → entry_at p.rows.entries l.entry ≡ Some (deposit-in d s) → awaits_no_line (Some (deposit-in d s)) l.line ≡ false
    → is_of_another_amount (Some (deposit-in d s)) l.line ≡ false → is_gone p.rows.head ≡ false
    → dossier_after_line p l today ≡ shown p l today last (Some (deposit-in d s))
    → StepIs m p (shown p l today last (Some (deposit-in d s)))
deposit-is m p l today last d deposit.Held at state amount here again =
    let old = deposit-in d deposit.Held in
    shown-exchange m p (shown p l today last (Some old)) l today last old
    (deposit-in d (deposit_by l.line today deposit.Held)) deed.Cleared
    (cleared-says m (act-of l today deed.Cleared)) refl again (λ rows. refl)
    (ap (λ a. ALine (with-amount m l a) today ∷ []) (clears-amount (pos d.amount) l.line.amount amount)) at
    (deposit-says l.line today d deposit.Held) refl here
deposit-is m p l today last d (deposit.Cleared c) at state amount here again =
    let old = deposit-in d (deposit.Cleared c) in
    let new = deposit-in d (deposit_by l.line today (deposit.Cleared c)) in
    let back = not-false (int_eq (pos 0 -ℤ pos d.amount) l.line.amount) state in
    shown-exchange m p (shown p l today last (Some old)) l today last old new deed.Returned
    (returned-says m (act-of l today deed.Returned))
    (ap (λ b. exchanged-by p l (act-of l today (cond b deed.Returned deed.Cleared)) new last) back) again (λ rows. refl)
    (ap (λ a. ALine (with-amount m l a) today ∷ []) (back-amount (pos 0 -ℤ pos d.amount) l.line.amount state)) at
    (deposit-says l.line today d (deposit.Cleared c)) refl here
deposit-is m p l today last d s at state amount here again = absurd (false≢true (sym state))

payment-is : (m : ℕ) (p : Dossier) (l : BankLine) (today last : ℕ) (v : Payment) (s : PaymentState)
    → entry_at p.rows.entries l.entry ≡ Some (payment-in v s) → awaits_no_line (Some (payment-in v s)) l.line ≡ false
    → is_of_another_amount (Some (payment-in v s)) l.line ≡ false → is_gone p.rows.head ≡ false
    → dossier_after_line p l today ≡ shown p l today last (Some (payment-in v s))
    → StepIs m p (shown p l today last (Some (payment-in v s)))
payment-is m p l today last v (payment.Issued day) at state amount here again =
    let old = payment-in v (payment.Issued day) in
    shown-exchange m p (shown p l today last (Some old)) l today last old
    (payment-in v (cleared_payment l.line (payment.Issued day))) deed.Cleared
    (cleared-says m (act-of l today deed.Cleared)) refl again (λ rows. refl)
    (ap (λ a. ALine (with-amount m l a) today ∷ []) (clears-amount (pos 0 -ℤ pos v.amount) l.line.amount amount)) at
    (payment-says l.line v (payment.Issued day)) refl here
payment-is m p l today last v s at state amount here again = absurd (false≢true (sym state))

applied-is : (m : ℕ) (p : Dossier) (l : BankLine) (today last : ℕ) (o : Option Entry)
    → entry_at p.rows.entries l.entry ≡ o → IsMatched (facts-by p.rows l today o)
    → dossier_after_line p l today ≡ shown p l today last o → StepIs m p (shown p l today last o)
applied-is m p l today last None at matched again = absurd (false≢true (sym matched.there))
applied-is m p l today last (Some (entry.Deposit d)) at matched again =
    deposit-is m p l today last d d.state at matched.state matched.amount matched.opened again
applied-is m p l today last (Some (entry.Payment v)) at matched again =
    payment-is m p l today last v v.state at matched.state matched.amount matched.opened again
applied-is m p l today last (Some e) at matched again = absurd (false≢true (sym matched.kind))

pub line-is : (m : ℕ) (p : Dossier) (l : BankLine) (today : ℕ) → StepIs m p (dossier_after_line p l today)
line-is m p l today = cases (line_on p.rows l today) refl
  where
    cases : (e : LineEffect) → line_on p.rows l today ≡ e → StepIs m p (dossier_after_line p l today)
    cases told.Repeat is = inl (line-adds-none p l today (λ applied. subst IsApplied is applied))
    cases (told.Unmatched r) is = inl (line-adds-none p l today (λ applied. subst IsApplied is applied))
    cases (told.Applied d) is =
        let f = line_facts p.rows l today in
        let o = entry_at p.rows.entries l.entry in
        let matched = applied-matched f d is in
        let same : dossier_after_line p l today ≡ shown p l today (last_by f) o =
        ap (dossier-by-line p (line_act o l today)) (is ∙ ap told.Applied (sym matched.1)) in
        subst (StepIs m p) (sym same) (applied-is m p l today (last_by f) o refl matched.0 same)
