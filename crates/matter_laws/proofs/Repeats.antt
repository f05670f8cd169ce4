-- What was made stays, and what a line cleared stays cleared, so that an ask that comes again is a repeat.
use Rattle.matter_laws.proofs.Names.{ALine, Against, AnAsk, Ask, Asked, BankLine, Bool, Caller, DatedEdit, Deposit, DepositState, Doing, Edit, Entry, Fund, Grows, Head, IsExchange, Line, LineEffect, LinesLeaveMade, List, MadeStays, MadeStaysOrGoes, None, Option, PaymentState, Refusal, Rows, Some, [], after, after_doing, after_line_effect, ap, append-nil, append_assoc, arith, as_made, bytes_eq, bytes_eq-Decides, changed_by, claim_of, cleared_payment, comes_again, common_steps, cond, conditions, deposit_by, deposit_of, early_conditions, edit_of, edit_on, entry_at, entry_at-append, entry_at-with, eqb, facts_of, false, false≢true, fee_of, first, has_amount_back, has_its_amount, head_after, inl, is_deposit_cleared_by, is_deposit_returned_by, is_held_state, is_in_another_state_for, is_issued_state, is_line_again, is_not_yet_closed_for, is_payment_cleared_by, is_proposed_state, is_purged, is_purging, is_repeat, is_same_against, is_same_fund, is_some, last_after, last_by, length, line_facts, line_on, made_in, map, map-with, misses, nat_tests, none-past, not, number_made, number_named, option_map, payment_of, refl, refusal, rows_after, subst, sym, told_by, true, with_entry, ℕ, ◌&&◌, ◌++◌, ◌+◌, ◌-◌, ◌==◌, ◌||◌, ◌∙◌, ◌∷◌, ◌≡◌, ◌⊎◌, ints}
use Rattle.std.proofs.lemmas.List.{map-append}
use Rattle.matter_rows.specs.declared.claim.Against.TheVariants as against
use Rattle.matter_rows.specs.declared.deposit.DepositState.TheVariants as deposit
use Rattle.matter_rows.specs.declared.payment.Fund.TheVariants as fund
use Rattle.matter_rows.specs.declared.payment.PaymentState.TheVariants as payment
use Rattle.matter_rows.specs.declared.entry.Entry.TheVariants as entry
use Rattle.matter_parts.specs.declared.edit.Edit.TheVariants as edit
use Rattle.trust_matter.specs.declared.ask.Ask.TheVariants as ask
use Rattle.trust_matter.specs.declared.line_verdict.LineEffect.TheVariants as told
use Rattle.matter_laws.proofs.HeadSteps.{unchanged}
use Rattle.trust_matter.proofs.LineSteps.{applied-matched}
use Rattle.trust_matter.proofs.StepForms.{asked, either-false, next-is}
use Rattle.trust_matter.proofs.Table.{passes}

-- Entries are added to what was made, and what a line cleared stays cleared.

pub record Leaves (rows later : Rows) : Type 0 where
  pub grows : Grows rows later
  pub cleared : (line : Line) (n : ℕ) → is_line_again (entry_at rows.entries n) line ≡ true
      → is_line_again (entry_at later.entries n) line ≡ true

pub same-leaves : (rows later : Rows) → later.entries ≡ rows.entries → Leaves rows later
same-leaves rows later same = grind (arith, nat_tests, append-nil, made_in)

pub further : (a b c : Rows) → Leaves a b → Leaves b c → Leaves a c
further a b c g h = grind (arith, nat_tests, append_assoc, made_in)

-- all is left, or the matter was purged
abbrev pub LeavesOrGoes : Rows → Rows → Type 0
LeavesOrGoes rows later = Leaves rows later ⊎ (is_purged later.head ≡ true)

append-keeps : (line : Line) (es : List Entry) (x : Entry) (n : ℕ) → is_line_again (entry_at es n) line ≡ true → is_line_again (entry_at (es ++ x ∷ []) n) line ≡ true
append-keeps line es x n h = grind (arith, nat_tests, entry_at-append, eqb, none-past, false≢true)

-- an entry may be exchanged for one of which the line is a repeat where it was one of the old
with-keeps : (line : Line) (es : List Entry) (k : ℕ) (old new : Entry) → entry_at es k ≡ Some old → (is_line_again (Some old) line ≡ true → is_line_again (Some new) line ≡ true) → (n : ℕ) → is_line_again (entry_at es n) line ≡ true → is_line_again (entry_at (with_entry es k new) n) line ≡ true
with-keeps line es k old new at keeps n h = grind (arith, nat_tests, (entry_at-with es k old new n), (eqb n k))

-- the edit takes no entry away; an exchanged one was made as before, and the lines that were repeats of it still are
abbrev LeavesIn : List Entry → Edit → Type 0
LeavesIn es (edit.Exchange x) =
    (old : Entry) × IsExchange es x old × ((line : Line) → is_line_again (Some old) line ≡ true → is_line_again
    (Some x.entry) line ≡ true)
LeavesIn es (edit.Purge day) = ⊥
LeavesIn es _ = Unit {0}

edit-leaves : (rows : Rows) (e : Edit) (last : ℕ) → LeavesIn rows.entries e → Leaves rows (changed_by e last rows)
edit-leaves rows (edit.Append x) last is =
    grind (arith, nat_tests, (map-append as_made rows.entries (x.entry ∷ [])), append-keeps)
edit-leaves rows (edit.Exchange x) last is =
    let same = map-with as_made rows.entries x.number is.0 x.entry is.1.there is.1.same in
    record {
      grows = ([], same ∙ sym (append-nil (made_in rows)));
      cleared = λ line n h. with-keeps line rows.entries x.number is.0 x.entry is.1.there (is.2 line) n h;
    }
edit-leaves rows (edit.Purge day) last is = absurd is
edit-leaves rows e last is = same-leaves rows (changed_by e last rows) refl

-- the line is a repeat of one of a deposit's lines, in this state
abbrev pub again-in : Deposit → Line → DepositState → Bool
again-in d line s = (is_deposit_cleared_by s line && has_its_amount (entry.Deposit d) line) || (is_deposit_returned_by s line && has_amount_back d line)

-- of what is not cleared no line is a repeat
held-not : (d : Deposit) (line : Line) (s : DepositState) (c : Bool) → not (is_held_state s) ≡ false → again-in d line s ≡ true → c ≡ true
held-not d line s c h g = grind (arith, nat_tests, false≢true)

proposed-not : (line : Line) (s : PaymentState) (a c : Bool) → not (is_proposed_state s) ≡ false
    → (is_payment_cleared_by s line && a) ≡ true → c ≡ true
proposed-not line s a c h g = grind (arith, nat_tests, false≢true)

issued-not : (line : Line) (s : PaymentState) (a c : Bool) → not (is_issued_state s) ≡ false
    → (is_payment_cleared_by s line && a) ≡ true → c ≡ true
issued-not line s a c h g = grind (arith, nat_tests, false≢true)

-- an ask that finds its entry in the state that it needs
ask-leaves : (es : List Entry) (a : Ask) (o other : Option Entry) (day : ℕ) → entry_at es (number_named a) ≡ o
    → is_purging a ≡ false → is_in_another_state_for a o other ≡ false → LeavesIn es (edit_of a o day)
ask-leaves es (ask.CancelDeposit n) (Some (entry.Deposit d)) other day at stays state =
    (entry.Deposit d, record { there = at; same = refl }, λ line. held-not d line d.state _ state)
ask-leaves es (ask.Approve n) (Some (entry.Payment p)) other day at stays state = grind (arith, nat_tests, proposed-not)
ask-leaves es (ask.Decline n) (Some (entry.Payment p)) other day at stays state = grind (arith, nat_tests, proposed-not)
ask-leaves es (ask.Withdraw n) (Some (entry.Payment p)) other day at stays state = grind (arith, nat_tests, proposed-not)
ask-leaves es (ask.VoidPayment n) (Some (entry.Payment p)) other day at stays state =
    (entry.Payment p, record { there = at; same = refl }, λ line. issued-not line p.state _ _ state)
ask-leaves es (ask.Offer a) (Some (entry.Claim c)) other day at stays state = grind (arith, nat_tests)
ask-leaves es (ask.Accept a) (Some (entry.Claim c)) other day at stays state = grind (arith, nat_tests)
ask-leaves es (ask.Award a) (Some (entry.Claim c)) other day at stays state = grind (arith, nat_tests)
ask-leaves es a o other day at stays state = first_of (assumption, cc)

-- no ask but the purging takes an entry away
decided-leaves : (rows : Rows) (a : Asked) (b : Bool) → is_purging a.ask ≡ false
    → first (cond b (early_conditions (facts_of rows a.ask) a) (conditions (facts_of rows a.ask) a)) ≡ None
    → LeavesIn rows.entries (cond b edit.Nothing (edit_of a.ask (entry_at rows.entries (number_named a.ask)) a.day))
decided-leaves rows a true stays none = tt
decided-leaves rows a false stays none =
    let f = facts_of rows a.ask in
    let state =
    (either-false (is_not_yet_closed_for a.ask f.head) (is_in_another_state_for a.ask f.entry f.other)
    (passes f a none).state).1 in
    ask-leaves rows.entries a.ask f.entry f.other a.day refl stays state

after-leaves : (rows : Rows) (a : Asked) (r : Option Refusal) → refusal rows a ≡ r → is_purging a.ask ≡ false
    → Leaves rows (after r (edit_on rows a) a.day rows)
after-leaves rows a (Some r) is stays = same-leaves rows rows refl
after-leaves rows a None is stays = search (edit-leaves, last_after, decided-leaves)

pub made-stays : MadeStays
made-stays rows a stays = (after-leaves rows a (refusal rows a) refl stays).grows

-- What purges.

purging-goes : (a : Ask) (e : Option Entry) (day last : ℕ) (o : Option Head) → is_purging a ≡ true → is_not_yet_closed_for a o ≡ false → is_purged (head_after o (edit_of a e day) last) ≡ true
purging-goes a e day last o is closed = grind (arith, nat_tests, false≢true)

either-goes : (b : Bool) (rows : Rows) (a : Asked) (last : ℕ) → is_purging a.ask ≡ true
    → first (cond b (early_conditions (facts_of rows a.ask) a) (conditions (facts_of rows a.ask) a)) ≡ None
    → LeavesOrGoes rows (changed_by (cond b edit.Nothing (edit_of a.ask (entry_at rows.entries (number_named a.ask))
    a.day)) last rows)
either-goes true rows a last is none = inl (same-leaves rows rows refl)
either-goes false rows a last is none = grind (arith, nat_tests, purging-goes, either-false, passes)

after-goes : (rows : Rows) (a : Asked) (r : Option Refusal) (b : Bool) → refusal rows a ≡ r → is_purging a.ask ≡ b
    → LeavesOrGoes rows (after r (edit_on rows a) a.day rows)
after-goes rows a r false none is = inl (after-leaves rows a r none is)
after-goes rows a (Some r) true none is = inl (same-leaves rows rows refl)
after-goes rows a None true none is = grind (arith, nat_tests, either-goes, last_after)

pub made-stays-or-goes : MadeStaysOrGoes
made-stays-or-goes rows a = grind (arith, nat_tests, after-goes)

-- Lines.

-- a deposit that is taken back keeps its clearing
deposit-keeps : (line by : Line) (today : ℕ) (d : Deposit) (s : DepositState) → again-in d line s ≡ true → again-in d line (deposit_by by today s) ≡ true
deposit-keeps line by today d s h = grind (arith, nat_tests, common_steps, false≢true)

paid-keeps : (line by : Line) (a : Bool) (s : PaymentState) → (is_payment_cleared_by s line && a) ≡ true → (is_payment_cleared_by (cleared_payment by s) line && a) ≡ true
paid-keeps line by a s h = grind (arith, nat_tests, false≢true)

told-leaves : (es : List Entry) (n : ℕ) (by : Line) (today : ℕ) (o : Option Entry) → entry_at es n ≡ o
    → LeavesIn es (told_by n o by today)
told-leaves es n by today o at = grind (arith, nat_tests, deposit-keeps, paid-keeps, has_its_amount)

line-leaves : (rows : Rows) (l : BankLine) (today : ℕ) (e : LineEffect) → line_on rows l today ≡ e
    → Leaves rows (after_line_effect e rows)
line-leaves rows l today (told.Applied d) is =
    let f = line_facts rows l today in
    let P : DatedEdit → Type 0 = λ x. Leaves rows (changed_by x.edit x.last rows) in
    subst P (applied-matched f d is).1 (edit-leaves rows (told_by f.number f.entry f.line f.today) (last_by f)
    (told-leaves rows.entries l.entry l.line today f.entry refl))
line-leaves rows l today e is = same-leaves rows rows refl

pub lines-leave-made : LinesLeaveMade
lines-leave-made rows l today = (line-leaves rows l today (line_on rows l today) refl).grows

pub doing-leaves : (rows : Rows) (d : Doing) → LeavesOrGoes rows (after_doing rows d)
doing-leaves rows (AnAsk a) = after-goes rows a (refusal rows a) (is_purging a.ask) refl refl
doing-leaves rows (ALine l today) = inl (line-leaves rows l today (line_on rows l today) refl)

-- An entry stays as asked.

entry_at-map : (f : Entry → Entry) (es : List Entry) (n : ℕ) → entry_at (map f es) n ≡ option_map f (entry_at es n)
entry_at-map f [] n = refl
entry_at-map f (e ∷ es) n = grind (arith, nat_tests, eqb, (entry_at-map f es (n - 1)))

-- what is as asked is told by what was made

asked-none : (q : Ask) → comes_again q None ≡ false
asked-none q = grind (arith, nat_tests)

asked-made : (q : Ask) (o : Option Entry) → comes_again q (option_map as_made o) ≡ comes_again q o
asked-made q o = grind (arith, nat_tests)

asked-by : (q : Ask) (es : List Entry) (n : ℕ)
    → comes_again q (entry_at (map as_made es) n) ≡ comes_again q (entry_at es n)
asked-by q es n = ap (comes_again q) (entry_at-map as_made es n) ∙ asked-made q (entry_at es n)

asked-front : (q : Ask) (xs ys : List Entry) (n : ℕ) → comes_again q (entry_at xs n) ≡ true
    → comes_again q (entry_at (xs ++ ys) n) ≡ true
asked-front q [] ys n h = absurd (false≢true (sym (asked-none q) ∙ h))
asked-front q (x ∷ xs) ys n h = grind (arith, nat_tests, eqb, (asked-front q xs ys (n - 1)))

asked-stays : (q : Ask) (rows later : Rows) (n : ℕ) → Grows rows later → comes_again q (entry_at rows.entries n) ≡ true
    → comes_again q (entry_at later.entries n) ≡ true
asked-stays q rows later n g h =
    let front = asked-front q (made_in rows) g.0 n (asked-by q rows.entries n ∙ h) in
    sym (asked-by q later.entries n) ∙ (ap (λ xs. comes_again q (entry_at xs n)) g.1 ∙ front)

-- an ask that makes an entry: it comes again where the entry is as it was made
record Makes (q : Ask) (day : ℕ) : Type 0 where
  number : number_made q ≡ Some (number_named q)
  made : Entry
  edit : (o : Option Entry) → edit_of q o day ≡ edit.Append (record { number = number_named q; entry = made })
  own : comes_again q (Some made) ≡ true

pub same-amount : (n : ℕ) → (n == n) ≡ true
same-amount n = grind (arith, nat_tests)

pub same-bytes : (bs : List ℕ) → bytes_eq bs bs ≡ true
same-bytes bs = (bytes_eq-Decides bs bs).1 refl

same-fund : (f : Fund) → is_same_fund f f ≡ true
same-fund f = grind (arith, nat_tests, same-amount)

same-against : (g : Against) → is_same_against g g ≡ true
same-against g = grind (arith, nat_tests, same-bytes, same-amount)

makes : (q : Ask) (day : ℕ) → is_some (number_made q) ≡ true → Makes q day
makes (ask.Deposit a) day some =
    record { number = refl; made = deposit_of a day; edit = λ o. refl; own = simp (same-amount, same-bytes) }
makes (ask.Propose a) day some =
    record { number = refl; made = payment_of a day; edit = λ o. refl; own = simp (same-amount, same-fund, same-bytes) }
makes (ask.EarnFee a) day some =
    record { number = refl; made = fee_of a day; edit = λ o. refl; own = simp (same-amount, same-bytes) }
makes (ask.RaiseClaim a) day some =
    record {
      number = refl;
      made = claim_of a day;
      edit = λ o. refl;
      own = simp (same-amount, same-against, same-bytes);
    }
makes q day some = absurd (false≢true some)

-- after an accepted ask the entry is as asked
asked-made-now : (q : Ask) (b : Bool) (rows : Rows) (c : Caller) (day : ℕ) → Makes q day
    → comes_again q (entry_at rows.entries (number_named q)) ≡ b
    → first (cond b (early_conditions (facts_of rows q) (asked c q day)) (conditions (facts_of rows q) (asked c q day)))
    ≡ None → (last : ℕ)
    → comes_again q (entry_at (changed_by (cond b edit.Nothing (edit_of q (entry_at rows.entries (number_named q)) day))
    last rows).entries (number_named q)) ≡ true
asked-made-now q true rows c day m is none last = is
asked-made-now q false rows c day m is none last =
    let p = passes (facts_of rows q) (asked c q day) none in
    grind (arith, ints, nat_tests, misses, length, next-is, entry_at, entry_at-append)

-- the ask comes again, and changes nothing
pub record IsSpent (rows : Rows) (a : Asked) : Type 0 where
  pub repeat : is_repeat (facts_of rows a.ask) a ≡ true
  pub unchanged : rows_after rows a ≡ rows

-- in rows in which what was made is still there, the ask is spent
pub is-spent : (rows later : Rows) (a again : Asked) → is_some (number_made a.ask) ≡ true → again.ask ≡ a.ask
    → refusal rows a ≡ None → Grows (rows_after rows a) later → IsSpent later again
is-spent rows later a again some same none grows =
    let now =
    asked-made-now a.ask (is_repeat (facts_of rows a.ask) a) rows a.caller a.day (makes a.ask a.day some) refl none
    (last_after rows.head (edit_on rows a) a.day) in
    let there : comes_again a.ask (entry_at (rows_after rows a).entries (number_named a.ask)) ≡ true =
    ap (λ r. comes_again a.ask (entry_at (after r (edit_on rows a) a.day rows).entries (number_named a.ask))) none
    ∙ now in
    let repeat : is_repeat (facts_of later again.ask) again ≡ true =
    rw same (asked-stays a.ask (rows_after rows a) later (number_named a.ask) grows there) in
    record { repeat = repeat; unchanged = rw repeat (unchanged later again.day _) }
