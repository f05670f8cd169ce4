-- A line that was applied is a repeat when it comes again.
use Rattle.matter_laws.proofs.Names.{BankLine, Deposit, DepositState, Entry, Head, IsApplied, Line, LineEffect, List, None, Option, PaymentState, Rows, Some, after_line_effect, arith, cleared_payment, clearing_by, common_steps, deposit_by, edited, entry_at, entry_at-with, false, false≢true, has_amount_back, has_its_amount, is_cleared_state, is_clearing_by, is_held_state, is_issued_state, is_line_again, is_payment_cleared_by, line_facts, line_on, not, refl, rows_after_line, sym, told_by, true, with_entry, ℕ, ℤ, ◌&&◌, ◌∙◌, ◌≡◌, ints, nat_tests}
use Rattle.matter_rows.specs.declared.deposit.DepositState.TheVariants as deposit
use Rattle.matter_rows.specs.declared.payment.PaymentState.TheVariants as payment
use Rattle.matter_rows.specs.declared.entry.Entry.TheVariants as entry
use Rattle.trust_matter.specs.declared.line_verdict.LineEffect.TheVariants as told
use Rattle.trust_matter.proofs.LineSteps.{IsMatched, applied-matched}
use Rattle.matter_laws.proofs.Repeats.{again-in, same-amount, same-bytes}

-- A line that was applied.

own-clearing : (line : Line) → is_clearing_by (clearing_by line) line ≡ true
own-clearing line = rw (same-amount line.date) (same-bytes line.bank_ref)

own-payment : (line : Line) (s : PaymentState) → not (is_issued_state s) ≡ false → is_payment_cleared_by (cleared_payment line s) line ≡ true
own-payment line s h = grind (arith, own-clearing, false≢true)

here : (es : List Entry) (k : ℕ) (old new : Entry) → entry_at es k ≡ Some old → entry_at (with_entry es k new) k ≡ Some new
here es k old new at = entry_at-with es k old new k at ∙ rw (same-amount k) refl

-- the deposit is cleared by it, or taken back
deposit-now : (line : Line) (today : ℕ) (d : Deposit) (s : DepositState) → (not (is_held_state s) && not (is_cleared_state s && has_amount_back d line)) ≡ false → (not (has_its_amount (entry.Deposit d) line) && not (is_cleared_state s && has_amount_back d line)) ≡ false → again-in d line (deposit_by line today s) ≡ true
deposit-now line today d s state amount = grind (arith, common_steps, own-clearing, false≢true)

-- the line is one of the entry's
cleared-now : (head : Option Head) (es : List Entry) (k : ℕ) (a : ℤ) (today : ℕ) (line : Line) (o : Option Entry) → entry_at es k ≡ o → IsMatched (record { head = head; number = k; entry = o; available = a; line = line; today = today }) → is_line_again (entry_at (edited es (told_by k o line today)) k) line ≡ true
cleared-now head es k a today line None at m = absurd (false≢true (sym m.there))
cleared-now head es k a today line (Some (entry.Deposit d)) at m =
    grind (arith, (here es k (entry.Deposit d)), (deposit-now line today d d.state m.state m.amount))
cleared-now head es k a today line (Some (entry.Payment p)) at m = grind (arith, common_steps, own-payment, here)
cleared-now head es k a today line o at m = absurd (false≢true (sym m.kind))

pub applied-now : (rows : Rows) (l : BankLine) (today : ℕ) (e : LineEffect) → line_on rows l today ≡ e → IsApplied e → is_line_again (entry_at (after_line_effect e rows).entries l.entry) l.line ≡ true
applied-now rows l today (told.Applied d) is applied =
    let f = line_facts rows l today in
    let m = applied-matched f d is in
    grind (arith, ints, nat_tests, is_line_again, entry_at, edited, cleared-now)
applied-now rows l today e is applied = absurd applied

-- A line that comes again.

-- neither the text nor the reference is looked at
pub again-same : (o : Option Entry) (a b : Line) → b.date ≡ a.date → b.bank_ref ≡ a.bank_ref → b.amount ≡ a.amount → is_line_again o a ≡ true → is_line_again o b ≡ true
again-same o a b date bank_ref amount h = grind (arith, again-in)

-- the line is a repeat, and changes nothing
pub record IsLineSpent (rows : Rows) (l : BankLine) (today : ℕ) : Type 0 where
  pub repeat : line_on rows l today ≡ told.Repeat
  pub unchanged : rows_after_line rows l today ≡ rows

pub line-spent : (rows : Rows) (l : BankLine) (today : ℕ) → is_line_again (entry_at rows.entries l.entry) l.line ≡ true → IsLineSpent rows l today
line-spent rows l today h = record { repeat = rw h refl; unchanged = rw h refl }
