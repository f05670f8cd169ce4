-- What each step adds to a matter's acts, seats and issues.
use Rattle.trail_laws.proofs.Names.{Act, Against, Ask, Asked, BankLine, Bool, Caller, DatedEdit, Deed, Doing, AnAsk, ALine, Edit, Entry, Head, Line, LineEffect, List, None, Option, Dossier, Payment, PaymentState, Refusal, Rows, Seat, Some, [], act_by, allows, ap, append-nil, applied-matched, arith, asked, changed_by, cleared_payment, cond, claim_of, deposit_of, payment_of, fee_of, settled, deed_against, deed_of, done_by, edit_of, edited, entry_at, entry_at-append, entry_at-with, eqb, facts_of, false, false≢true, first, fold, has_no_seat, ints, is_not_allowed, is_number, is_in_another_state_for, is_not_yet_closed_for, is_opening, is_proposed_state, is_purging, is_repeat, is_return, is_some, option_to_list, last_by, line_act, line_facts, line_on, nat_tests, none-is, none-past, not, not-false, number_named, option_map, dossier_after_step, passes, Passes, refl, refusal, Rule, rule_against, rule_of, seats_after, subst, sym, told_by, true, voided, was_purged, with_entry, ℕ, ◌++◌, ◌∙◌, ◌∷◌, ◌≡◌, ◌&&◌}
use Rattle.matter_rows.specs.declared.act.Caller.TheVariants as caller
use Rattle.matter_rows.specs.declared.act.Deed.TheVariants as deed
use Rattle.matter_rows.specs.declared.claim.Against.TheVariants as against
use Rattle.matter_rows.specs.declared.claim.ClaimState.TheVariants as claim
use Rattle.matter_rows.specs.declared.deposit.DepositState.TheVariants as deposit
use Rattle.matter_rows.specs.declared.entry.Entry.TheVariants as entry
use Rattle.matter_rows.specs.declared.payment.PaymentState.TheVariants as payment
use Rattle.matter_parts.specs.declared.edit.Edit.TheVariants as edit
use Rattle.trust_matter.specs.declared.ask.Ask.TheVariants as ask
use Rattle.trust_matter.specs.declared.line_verdict.LineEffect.TheVariants as told
use Rattle.trust_matter.proofs.StepForms.{either-false}
use Rattle.trail_laws.proofs.Added.{dossier-by, dossier-by-line}
use Rattle.trail_laws.proofs.Growing.{Adds, AreBare}
use Rattle.trail_laws.specs.Signed.{AreAllowed, Beginning, RuleIsOfAsk, beginning_after, begins_with_opening, begun_after, days_of_approval, days_of_issue, issue_days, nothing_before, rule_done, seats_by, seats_by_deed}

-- What is done by an ask.

-- a deed, if any, comes under the rule
abbrev ComesUnder : Option Deed → Rule → Type 0
ComesUnder None r = Unit {0}
ComesUnder (Some d) r = rule_done d ≡ r

against-rule : (on : Against) → rule_done (deed_against on) ≡ rule_against on
against-rule (against.General claimant) = refl
against-rule (against.Fee k) = refl

comes-under : (q : Ask) → ComesUnder (deed_of q) (rule_of q)
comes-under (ask.RaiseClaim a) = against-rule a.against
comes-under ask.Purge = tt
comes-under ask.Show = tt
comes-under ask.ShowEntries = tt
comes-under ask.Accounting = tt
comes-under (ask.Account period) = tt
comes-under (ask.ShowEntry n) = tt
comes-under q = refl

pub rule-is_of_ask : RuleIsOfAsk
rule-is_of_ask q d is = subst (λ (o : Option Deed). ComesUnder o (rule_of q)) is (comes-under q)

-- the policy allowed an accepted ask
third-passes : (b s g w : Bool) (x y z : Refusal) (ns ms : List (Bool × Refusal))
    → first (cond b ((s, x) ∷ (g, y) ∷ (w, z) ∷ ns) ((s, x) ∷ (g, y) ∷ (w, z) ∷ ms)) ≡ None → w ≡ false
third-passes b s g w x y z ns ms none = grind (arith, ints, nat_tests)

allowed-asked : (rows : Rows) (a : Asked) → refusal rows a ≡ None → allows rows.seats a.caller (rule_of a.ask) ≡ true
allowed-asked rows a none =
    let f = facts_of rows a.ask in
    not-false (allows rows.seats a.caller (rule_of a.ask))
    (third-passes (is_repeat f a) (has_no_seat f a) (was_purged f a) (is_not_allowed f a) _ _ _ _ _ none)

allowed-deed : (seats : List Seat) (a : Asked) (o : Option Deed) → deed_of a.ask ≡ o → allows seats a.caller (rule_of a.ask) ≡ true → AreAllowed seats (option_to_list (option_map (done_by a) o))
allowed-deed seats a None is may = tt
allowed-deed seats a (Some d) is may =
    let P : Rule → Type 0 = λ r. allows seats a.caller r ≡ true in
    (subst P (sym (rule-is_of_ask a.ask d is)) may, tt)

allowed-act : (seats : List Seat) (a : Asked) (e : Edit) → allows seats a.caller (rule_of a.ask) ≡ true → AreAllowed seats (option_to_list (act_by e a))
allowed-act seats a edit.Nothing may = tt
allowed-act seats a e may = allowed-deed seats a (deed_of a.ask) refl may

-- a matter is opened by an opening alone
against-opens : (on : Against) (a : Asked) → begins_with_opening (option_to_list (option_map (done_by a) (Some (deed_against on)))) ≡ false
against-opens (against.General claimant) a = refl
against-opens (against.Fee k) a = refl

opens-none : (a : Asked) (e : Edit) → begins_with_opening (option_to_list (option_map (done_by a) (deed_of a.ask))) ≡ false → begins_with_opening (option_to_list (act_by e a)) ≡ false
opens-none a edit.Nothing none = refl
opens-none a e none = none

fresh-asked : (c : Caller) (q : Ask) (day : ℕ) (e : Edit) (head : Option Head) → (is_opening q && is_some head) ≡ false → begins_with_opening (option_to_list (act_by e (asked c q day))) ≡ true → head ≡ None
fresh-asked c (ask.OpenMatter o) day e head new opens = none-is head new
fresh-asked c (ask.RaiseClaim g) day e head new opens =
    absurd (false≢true (sym (opens-none (asked c (ask.RaiseClaim g) day) e (against-opens g.against (asked c (ask.RaiseClaim g) day))) ∙ opens))
fresh-asked c q day e head new opens = absurd (false≢true (sym (opens-none (asked c q day) e refl) ∙ opens))

-- The seats after an ask.

abbrev SeatsFollow : List Seat → Edit → Asked → Type 0
SeatsFollow seats e a = seats_after seats e ≡ fold seats_by seats (option_to_list (act_by e a))

against-seats : (seats : List Seat) (on : Against) → seats_by_deed seats (deed_against on) ≡ seats
against-seats seats (against.General claimant) = refl
against-seats seats (against.Fee k) = refl

seats-asked : (seats : List Seat) (c : Caller) (q : Ask) (o : Option Entry) (day : ℕ) → is_purging q ≡ false → SeatsFollow seats (edit_of q o day) (asked c q day)
seats-asked seats c ask.Purge o day stays = absurd (false≢true (sym stays))
seats-asked seats c (ask.RaiseClaim a) o day stays = sym (against-seats seats a.against)
seats-asked seats c q None day stays = refl
seats-asked seats c q (Some (entry.Deposit d)) day stays = refl
seats-asked seats c q (Some (entry.Payment p)) day stays = refl
seats-asked seats c q (Some (entry.Fee f)) day stays = refl
seats-asked seats c q (Some (entry.Claim l)) day stays = refl

-- The issues after an ask.

-- an entry that was not issued is added
issued-added : (es : List Entry) (x : Entry) (n : ℕ) → days_of_issue (Some x) ≡ [] → days_of_issue (entry_at (es ++ x ∷ []) n) ≡ days_of_issue (entry_at es n)
issued-added es x n none = grind (arith, nat_tests, entry_at-append, eqb, none-past)

-- an entry is exchanged for one that was issued on the same day or not at all
issued-kept : (es : List Entry) (k : ℕ) (old new : Entry) (n : ℕ) → entry_at es k ≡ Some old → days_of_issue (Some new) ≡ days_of_issue (Some old) → days_of_issue (entry_at (with_entry es k new) n) ≡ days_of_issue (entry_at es n)
issued-kept es k old new n at same = grind (arith, nat_tests, (entry_at-with es k old new n), (eqb n k))

-- the acts that an edit is remembered by say which issues are new
abbrev IssuesFollow : List Entry → Edit → Asked → ℕ → Type 0
IssuesFollow es e a n =
    days_of_issue (entry_at (edited es e) n) ≡ days_of_issue (entry_at es n) ++ days_of_approval n (option_to_list (act_by e a))

-- what is no approval
approvals-none : (a : Asked) (e : Edit) (n : ℕ) → days_of_approval n (option_to_list (option_map (done_by a) (deed_of a.ask))) ≡ [] → days_of_approval n (option_to_list (act_by e a)) ≡ []
approvals-none a edit.Nothing n none = refl
approvals-none a e n none = none

none-new : (es : List Entry) (e : Edit) (a : Asked) (n : ℕ) → days_of_approval n (option_to_list (option_map (done_by a) (deed_of a.ask))) ≡ [] → days_of_issue (entry_at (edited es e) n) ≡ days_of_issue (entry_at es n) → IssuesFollow es e a n
none-new es e a n none same =
    same ∙ (sym (append-nil (days_of_issue (entry_at es n)))
    ∙ ap (λ (days : List ℕ). days_of_issue (entry_at es n) ++ days) (sym (approvals-none a e n none)))

against-approves : (on : Against) (a : Asked) (n : ℕ) → days_of_approval n (done_by a (deed_against on) ∷ []) ≡ []
against-approves (against.General claimant) a n = refl
against-approves (against.Fee k) a n = refl

-- a payment that waits has no day of issue
proposed-days : (s : PaymentState) → not (is_proposed_state s) ≡ false → issue_days s ≡ []
proposed-days payment.Proposed is = refl
proposed-days s is = absurd (false≢true (sym is))

voided-days : (day : ℕ) (s : PaymentState) → issue_days (voided day s) ≡ issue_days s
voided-days day (payment.Issued issued) = refl
voided-days day s = refl

approved-new : (es : List Entry) (k : ℕ) (p : Payment) (c : Caller) (day n : ℕ) → entry_at es k ≡ Some (entry.Payment p) → issue_days p.state ≡ [] → IssuesFollow es (edit.Exchange (record { number = k; entry = entry.Payment (record p { state = payment.Issued day }) })) (asked c (ask.Approve k) day) n
approved-new es k p c day n at none = grind (arith, nat_tests, (entry_at-with es k (entry.Payment p) (entry.Payment (record p { state = payment.Issued day })) n), (eqb n k), is_number)

-- an entry that was not issued is added
added-new : (es : List Entry) (a : Asked) (k : ℕ) (x : Entry) (n : ℕ) → days_of_approval n (option_to_list (option_map (done_by a) (deed_of a.ask))) ≡ [] → days_of_issue (Some x) ≡ [] → IssuesFollow es (edit.Append (record { number = k; entry = x })) a n
added-new es a k x n none first =
    none-new es (edit.Append (record { number = k; entry = x })) a n none (issued-added es x n first)

-- an entry is exchanged for one with the same days of issue
kept-new : (es : List Entry) (a : Asked) (k : ℕ) (old new : Entry) (n : ℕ) → days_of_approval n (option_to_list (option_map (done_by a) (deed_of a.ask))) ≡ [] → entry_at es k ≡ Some old → days_of_issue (Some new) ≡ days_of_issue (Some old) → IssuesFollow es (edit.Exchange (record { number = k; entry = new })) a n
kept-new es a k old new n none at same =
    none-new es (edit.Exchange (record { number = k; entry = new })) a n none (issued-kept es k old new n at same)

issues-asked : (es : List Entry) (c : Caller) (q : Ask) (o other : Option Entry) (day n : ℕ) → entry_at es (number_named q) ≡ o → is_purging q ≡ false → is_in_another_state_for q o other ≡ false → IssuesFollow es (edit_of q o day) (asked c q day) n
issues-asked es c ask.Purge o other day n at stays state = absurd (false≢true (sym stays))
issues-asked es c (ask.RaiseClaim a) o other day n at stays state =
    added-new es (asked c (ask.RaiseClaim a) day) a.number (claim_of a day) n
    (against-approves a.against (asked c (ask.RaiseClaim a) day) n) refl
issues-asked es c (ask.Deposit a) o other day n at stays state =
    added-new es (asked c (ask.Deposit a) day) a.number (deposit_of a day) n refl refl
issues-asked es c (ask.Propose a) o other day n at stays state =
    added-new es (asked c (ask.Propose a) day) a.number (payment_of a day) n refl refl
issues-asked es c (ask.EarnFee a) o other day n at stays state =
    added-new es (asked c (ask.EarnFee a) day) a.number (fee_of a day) n refl refl
issues-asked es c (ask.CancelDeposit k) (Some (entry.Deposit d)) other day n at stays state =
    kept-new es (asked c (ask.CancelDeposit k) day) k (entry.Deposit d)
    (entry.Deposit (record d { state = deposit.Cancelled day })) n refl at refl
issues-asked es c (ask.Approve k) (Some (entry.Payment p)) other day n at stays state =
    approved-new es k p c day n at (proposed-days p.state state)
issues-asked es c (ask.Decline k) (Some (entry.Payment p)) other day n at stays state =
    kept-new es (asked c (ask.Decline k) day) k (entry.Payment p)
    (entry.Payment (record p { state = payment.Declined })) n refl at (sym (proposed-days p.state state))
issues-asked es c (ask.Withdraw k) (Some (entry.Payment p)) other day n at stays state =
    kept-new es (asked c (ask.Withdraw k) day) k (entry.Payment p)
    (entry.Payment (record p { state = payment.Declined })) n refl at (sym (proposed-days p.state state))
issues-asked es c (ask.VoidPayment k) (Some (entry.Payment p)) other day n at stays state =
    kept-new es (asked c (ask.VoidPayment k) day) k (entry.Payment p)
    (entry.Payment (record p { state = voided day p.state })) n refl at (voided-days day p.state)
issues-asked es c (ask.Offer a) (Some (entry.Claim l)) other day n at stays state =
    kept-new es (asked c (ask.Offer a) day) a.number (entry.Claim l)
    (entry.Claim (record l { state = claim.Offered a.to_client })) n refl at refl
issues-asked es c (ask.Accept a) (Some (entry.Claim l)) other day n at stays state =
    kept-new es (asked c (ask.Accept a) day) a.number (entry.Claim l)
    (entry.Claim (record l { state = settled day a.to_client })) n refl at refl
issues-asked es c (ask.Award a) (Some (entry.Claim l)) other day n at stays state =
    kept-new es (asked c (ask.Award a) day) a.number (entry.Claim l)
    (entry.Claim (record l { state = settled day a.to_client })) n refl at refl
issues-asked es c q None other day n at stays state = sym (append-nil (days_of_issue (entry_at es n)))
issues-asked es c q (Some (entry.Deposit d)) other day n at stays state =
    sym (append-nil (days_of_issue (entry_at es n)))
issues-asked es c q (Some (entry.Payment p)) other day n at stays state =
    sym (append-nil (days_of_issue (entry_at es n)))
issues-asked es c q (Some (entry.Fee f)) other day n at stays state =
    sym (append-nil (days_of_issue (entry_at es n)))
issues-asked es c q (Some (entry.Claim l)) other day n at stays state =
    sym (append-nil (days_of_issue (entry_at es n)))

-- Asks.

-- nothing changes
adds-nothing : (p : Dossier) (acts : List Act) → acts ≡ p.acts ++ [] → Adds p (record p { acts = acts })
adds-nothing p acts is = record {
  more = [];
  acts = is;
  seats = refl;
  allowed = tt;
  issued = λ n. sym (append-nil (days_of_issue (entry_at p.rows.entries n)));
  fresh = λ opens. absurd (false≢true opens);
}

abbrev IsNoPurge : Edit → Type 0
IsNoPurge (edit.Purge day) = ⊥
IsNoPurge _ = Unit {0}

no-purge : (q : Ask) (o : Option Entry) (day : ℕ) → is_purging q ≡ false → IsNoPurge (edit_of q o day)
no-purge q o day stays = grind (arith, ints, nat_tests)

abbrev HoldsOf : Type 1
HoldsOf = Beginning → Dossier → Type 0

-- an edit that is no purge, made by an ask
edit-adds : (b : Beginning) (p : Dossier) (a : Asked) (e : Edit) (P : HoldsOf) → IsNoPurge e → SeatsFollow p.rows.seats e a → AreAllowed p.rows.seats (option_to_list (act_by e a)) → ((n : ℕ) → IssuesFollow p.rows.entries e a n) → (begins_with_opening (option_to_list (act_by e a)) ≡ true → p.rows.head ≡ None) → ((after : Dossier) → Adds p after → P b after) → P (begun_after None e b) (dossier-by p a None e)
edit-adds b p a (edit.Purge day) P stays seats allowed issued fresh of = absurd stays
edit-adds b p a edit.Nothing P stays seats allowed issued fresh of =
    of (dossier-by p a None edit.Nothing) (record { more = []; acts = sym (append-nil p.acts); seats = seats; allowed = allowed; issued = issued; fresh = fresh })
edit-adds b p a e P stays seats allowed issued fresh of =
    of (dossier-by p a None e) (record { more = option_to_list (act_by e a); acts = refl; seats = seats; allowed = allowed; issued = issued; fresh = fresh })

-- an ask that passes the table, by what is asked
passed-adds : (b : Beginning) (p : Dossier) (c : Caller) (q : Ask) (day : ℕ) (P : HoldsOf) → allows p.rows.seats c (rule_of q) ≡ true → Passes (facts_of p.rows q) (asked c q day) → ((after : Dossier) → Adds p after → P b after) → ((after : Dossier) → AreBare after → P nothing_before after) → P (begun_after None (edit_of q (entry_at p.rows.entries (number_named q)) day) b) (dossier-by p (asked c q day) None (edit_of q (entry_at p.rows.entries (number_named q)) day))
passed-adds b p c ask.Purge day P may passed of bare = bare (dossier-by p (asked c ask.Purge day) None (edit.Purge day)) (record { acts = refl; seats = refl; entries = refl })
passed-adds b p c q day P may passed of bare =
    let f = facts_of p.rows q in
    let e = edit_of q f.entry day in
    let a = asked c q day in
    edit-adds b p a e P (no-purge q f.entry day refl) (seats-asked p.rows.seats c q f.entry day refl)
    (allowed-act p.rows.seats a e may)
    (λ n. issues-asked p.rows.entries c q f.entry f.other day n refl refl (either-false (is_not_yet_closed_for q f.head) (is_in_another_state_for q f.entry f.other) passed.state).1)
    (fresh-asked c q day e p.rows.head passed.not_opened) of

ask-adds : (b : Beginning) (p : Dossier) (a : Asked) (r : Option Refusal) (again : Bool) (P : HoldsOf) → refusal p.rows a ≡ r → is_repeat (facts_of p.rows a.ask) a ≡ again → ((after : Dossier) → Adds p after → P b after) → ((after : Dossier) → AreBare after → P nothing_before after) → P (begun_after r (cond again edit.Nothing (edit_of a.ask (entry_at p.rows.entries (number_named a.ask)) a.day)) b) (dossier-by p a r (cond again edit.Nothing (edit_of a.ask (entry_at p.rows.entries (number_named a.ask)) a.day)))
ask-adds b p a (Some r) again P none new of bare = of p (adds-nothing p p.acts (sym (append-nil p.acts)))
ask-adds b p a None true P none new of bare = of p (adds-nothing p p.acts (sym (append-nil p.acts)))
ask-adds b p a None false P none new of bare =
    passed-adds b p a.caller a.ask a.day P (allowed-asked p.rows a none) (passes (facts_of p.rows a.ask) a (rw new at none)) of bare

-- Lines.

cleared-days : (line : Line) (s : PaymentState) → issue_days (cleared_payment line s) ≡ issue_days s
cleared-days line (payment.Issued issued) = refl
cleared-days line s = refl

-- a line changes no day of issue
told-days : (es : List Entry) (k : ℕ) (o : Option Entry) (line : Line) (today n : ℕ) → entry_at es k ≡ o → days_of_issue (entry_at (edited es (told_by k o line today)) n) ≡ days_of_issue (entry_at es n)
told-days es k (Some (entry.Deposit d)) line today n at = issued-kept es k (entry.Deposit d) _ n at refl
told-days es k (Some (entry.Payment p)) line today n at = issued-kept es k (entry.Payment p) _ n at (cleared-days line p.state)
told-days es k None line today n at = refl
told-days es k (Some (entry.Fee f)) line today n at = refl
told-days es k (Some (entry.Claim l)) line today n at = refl

told-seats : (seats : List Seat) (k : ℕ) (o : Option Entry) (line : Line) (today : ℕ) → seats_after seats (told_by k o line today) ≡ seats
told-seats seats k None line today = refl
told-seats seats k (Some (entry.Deposit d)) line today = refl
told-seats seats k (Some (entry.Payment p)) line today = refl
told-seats seats k (Some (entry.Fee f)) line today = refl
told-seats seats k (Some (entry.Claim l)) line today = refl

-- an act of the bank leaves the seats, is the cashier's to book, and is no approval and no opening
line-act-adds : (p : Dossier) (rows : Rows) (l : BankLine) (today : ℕ) (back : Bool) → rows.seats ≡ p.rows.seats → ((n : ℕ) → days_of_issue (entry_at rows.entries n) ≡ days_of_issue (entry_at p.rows.entries n)) → Adds p (record { rows = rows; acts = p.acts ++ record { entry = Some l.entry; day = today; caller = caller.Cashier; deed = cond back deed.Returned deed.Cleared } ∷ [] })
line-act-adds p rows l today true seats issued = record {
  more = record { entry = Some l.entry; day = today; caller = caller.Cashier; deed = deed.Returned } ∷ [];
  acts = refl;
  seats = seats;
  allowed = (refl, tt);
  issued = λ n. issued n ∙ sym (append-nil (days_of_issue (entry_at p.rows.entries n)));
  fresh = λ opens. absurd (false≢true opens);
}
line-act-adds p rows l today false seats issued = record {
  more = record { entry = Some l.entry; day = today; caller = caller.Cashier; deed = deed.Cleared } ∷ [];
  acts = refl;
  seats = seats;
  allowed = (refl, tt);
  issued = λ n. issued n ∙ sym (append-nil (days_of_issue (entry_at p.rows.entries n)));
  fresh = λ opens. absurd (false≢true opens);
}

line-adds : (p : Dossier) (l : BankLine) (today : ℕ) (v : LineEffect) → line_on p.rows l today ≡ v → Adds p (dossier-by-line p (line_act (entry_at p.rows.entries l.entry) l today) v)
line-adds p l today told.Repeat is = adds-nothing p p.acts (sym (append-nil p.acts))
line-adds p l today (told.Unmatched r) is = adds-nothing p p.acts (sym (append-nil p.acts))
line-adds p l today (told.Applied d) is =
    let f = line_facts p.rows l today in
    let o = entry_at p.rows.entries l.entry in
    let P : DatedEdit → Type 0 = λ x. Adds p (dossier-by-line p (line_act o l today) (told.Applied x)) in
    subst P (applied-matched f d is).1
    (line-act-adds p (changed_by (told_by l.entry o l.line today) (last_by f) p.rows) l today (is_return o l.line)
    (told-seats p.rows.seats l.entry o l.line today) (λ n. told-days p.rows.entries l.entry o l.line today n refl))

-- what holds of a dossier to which a step adds, and of a bare one, holds after each step
pub step-adds : (b : Beginning) (p : Dossier) (step : Doing) (P : HoldsOf) → ((after : Dossier) → Adds p after → P b after) → ((after : Dossier) → AreBare after → P nothing_before after) → P (beginning_after p step b) (dossier_after_step p step)
step-adds b p (AnAsk a) P of bare = ask-adds b p a (refusal p.rows a) (is_repeat (facts_of p.rows a.ask) a) P refl refl of bare
step-adds b p (ALine l today) P of bare = of (dossier-by-line p (line_act (entry_at p.rows.entries l.entry) l today) (line_on p.rows l today)) (line-adds p l today (line_on p.rows l today) refl)
