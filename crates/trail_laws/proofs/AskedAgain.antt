-- An accepted ask adds the act of which the new rows say that it was asked.
use Rattle.trail_laws.proofs.Names.{Against, AnAsk, Ask, Asked, Bool, Caller, Deed, Doing, Dossier, Edit, Entry, Head, List, None, Option, PaymentState, Refusal, Rows, Some, Sound, [], ap, arith, asked, claim_of, cond, deed_against, deposit_of, done_by, edit_of, edit_on, entry_at, entry_at-append, entry_at-with, eqb, facts_of, false, false≢true, fee_of, is_in_another_state_for, is_missing_for, is_not_yet_closed_for, is_of_another_kind_for, is_opening, is_proposed_state, is_repeat, is_some, nat_tests, none-is, not, number_named, passes, payment_of, refl, refusal, settled, subst, sym, true, voided, with_entry, ℕ, ◌&&◌, ◌++◌, ◌∙◌, ◌∷◌, ◌≡◌}
use Rattle.std.proofs.Common.{inl, inr, length, ◌+◌, ◌⊎◌}
use Rattle.std.specs.Prelude.{flat_map}
use Rattle.matter_rows.specs.Rows.{is_gone, is_held_state, is_issued_state, is_purged, next_number}
use Rattle.matter_rows.specs.Shares.{has_settled}
use Rattle.matter_rows.specs.declared.act.Deed.TheVariants as deed
use Rattle.matter_rows.specs.declared.claim.Against.TheVariants as against
use Rattle.matter_rows.specs.declared.claim.Claim.{Claim}
use Rattle.matter_rows.specs.declared.claim.ClaimState.{ClaimState}
use Rattle.matter_rows.specs.declared.claim.ClaimState.TheVariants as claim
use Rattle.matter_rows.specs.declared.deposit.Deposit.{Deposit}
use Rattle.matter_rows.specs.declared.deposit.DepositState.{DepositState}
use Rattle.matter_rows.specs.declared.deposit.DepositState.TheVariants as deposit
use Rattle.matter_rows.specs.declared.entry.Entry.TheVariants as entry
use Rattle.matter_rows.specs.declared.payment.Payment.{Payment}
use Rattle.matter_rows.specs.declared.payment.PaymentState.TheVariants as payment
use Rattle.matter_parts.specs.Changes.{last_after}
use Rattle.matter_parts.specs.declared.edit.Edit.TheVariants as edit
use Rattle.trust_matter.proofs.StepForms.{either-false, head-there, next-is}
use Rattle.trust_matter.proofs.Table.{Passes}
use Rattle.trust_matter.specs.Conditions.{is_offered_state, misses, number_made}
use Rattle.trust_matter.specs.Facts.{entry_named}
use Rattle.trust_matter.specs.Step.{opening}
use Rattle.trust_matter.specs.declared.ask.Ask.TheVariants as ask
use Rattle.trust_matter.specs.declared.claim.SplitAsk.{SplitAsk}
use Rattle.trail_laws.proofs.Added.{dossier-by, refusal-adds-none, repeat-adds-none}
use Rattle.trail_laws.proofs.Told.{IsLater, KeepsIn, SaysStill, StepIs, Stays, edit-keeps, purged-gone, there-stays}
use Rattle.trail_laws.specs.Dossier.{dossier_after}
use Rattle.trail_laws.specs.Replayed.{asked_by, deposit_cleared, deposit_returned, making, of_entry, of_found, own_by, payment_cleared, settled_part, settled_parts}
use Rattle.trail_laws.specs.Signed.{is_opened_by}

added-there : (es : List Entry) (x : Entry) (n : ℕ) → n ≡ length es + 1 → entry_at (es ++ x ∷ []) n ≡ Some x
added-there es x n next = grind (arith, nat_tests, entry_at-append, eqb)

pub exchanged-there : (es : List Entry) (k : ℕ) (old new : Entry) → entry_at es k ≡ Some old
    → entry_at (with_entry es k new) k ≡ Some new
exchanged-there es k old new at = grind (arith, nat_tests, (entry_at-with es k old new k), (eqb k k))

-- what an entry says of an ask that is remembered by the deed: what made it, or what was done to it
abbrev SaysOf : Type 0
SaysOf = ℕ → Entry → List Doing

abbrev making-says : Asked → Deed → SaysOf
making-says a d n e = asked_by (done_by a d) (making n e) ∷ []

abbrev asking-says : Asked → Deed → (ℕ → Ask) → SaysOf
asking-says a d asks n e = asked_by (done_by a d) (asks n) ∷ []

abbrev settling-says : Asked → Deed → (SplitAsk → Ask) → SaysOf
settling-says a d asks n e =
    flat_map (λ part. asked_by (done_by a d) (asks (record { number = n; to_client = part })) ∷ []) (settled_parts e)

-- an ask that makes this edit is remembered by the deed
abbrev DoneAs : Dossier → Asked → Edit → Deed → Type 0
DoneAs p a e d = (dossier-by p a None e).acts ≡ p.acts ++ done_by a d ∷ []

grown-asked : (m : ℕ) (p : Dossier) (a : Asked) (e : Edit) (d : Deed) → dossier_after p a ≡ dossier-by p a None e
    → DoneAs p a e d → own_by m (dossier-by p a None e).rows (done_by a d) ≡ AnAsk a ∷ [] → KeepsIn p.rows e
    → (is_opened_by d ≡ true → p.rows.head ≡ None) → (is_gone p.rows.head ≡ false) ⊎ (is_opened_by d ≡ true)
    → is_gone (dossier-by p a None e).rows.head ≡ false → StepIs m p (dossier-by p a None e)
grown-asked m p a e d again acts is keeps fresh before there = inr (inl (record {
  act = done_by a d;
  doing = AnAsk a;
  acts = acts;
  told = is;
  again = again;
  keeps = edit-keeps p.rows e (last_after p.rows.head e a.day) keeps;
  fresh = fresh;
  before = before;
  there = there;
}))

-- an ask of a matter that is there
grown-later : (m : ℕ) (p : Dossier) (a : Asked) (e : Edit) (d : Deed) → dossier_after p a ≡ dossier-by p a None e
    → DoneAs p a e d → own_by m (dossier-by p a None e).rows (done_by a d) ≡ AnAsk a ∷ [] → KeepsIn p.rows e
    → is_opened_by d ≡ false → IsLater e → is_gone p.rows.head ≡ false → StepIs m p (dossier-by p a None e)
grown-later m p a e d again acts is keeps other later there =
    grown-asked m p a e d again acts is keeps (λ opens. absurd (false≢true (sym other ∙ opens))) (inl there)
    (there-stays p.rows.head e (last_after p.rows.head e a.day) later there)

-- a new entry says what was asked
appended : (m : ℕ) (p : Dossier) (a : Asked) (n : ℕ) (x : Entry) (d : Deed) (says : SaysOf)
    → dossier_after p a ≡ dossier-by p a None (edit.Append (record { number = n; entry = x }))
    → DoneAs p a (edit.Append (record { number = n; entry = x })) d
    → ((rows : Rows) → own_by m rows (done_by a d) ≡ of_found says n (entry_at rows.entries n))
    → says n x ≡ AnAsk a ∷ [] → misses (next_number (length p.rows.entries)) (Some n) ≡ false → is_opened_by d ≡ false
    → is_gone p.rows.head ≡ false → StepIs m p (dossier-by p a None (edit.Append (record { number = n; entry = x })))
appended m p a n x d says again acts own is next other here =
    let e = edit.Append (record { number = n; entry = x }) in
    let there = added-there p.rows.entries x n (next-is (length p.rows.entries) n next).1 in
    let says_so = own (dossier-by p a None e).rows ∙ (ap (of_found says n) there ∙ is) in
    grown-later m p a e d again acts says_so tt other tt here

-- an entry in its new state says what was asked
exchanged : (m : ℕ) (p : Dossier) (a : Asked) (n : ℕ) (old new : Entry) (d : Deed) (says : SaysOf)
    → dossier_after p a ≡ dossier-by p a None (edit.Exchange (record { number = n; entry = new }))
    → DoneAs p a (edit.Exchange (record { number = n; entry = new })) d
    → ((rows : Rows) → own_by m rows (done_by a d) ≡ of_found says n (entry_at rows.entries n))
    → says n new ≡ AnAsk a ∷ [] → entry_at p.rows.entries n ≡ Some old → SaysStill old new → is_opened_by d ≡ false
    → is_gone p.rows.head ≡ false
    → StepIs m p (dossier-by p a None (edit.Exchange (record { number = n; entry = new })))
exchanged m p a n old new d says again acts own is at still other here =
    let e = edit.Exchange (record { number = n; entry = new }) in
    let there = exchanged-there p.rows.entries n old new at in
    let says_so = own (dossier-by p a None e).rows ∙ (ap (of_found says n) there ∙ is) in
    grown-later m p a e d again acts says_so (old, at, still) other tt here

against-other : (on : Against) → is_opened_by (deed_against on) ≡ false
against-other (against.General claimant) = refl
against-other (against.Fee k) = refl

-- of either kind of claim the entry says what was asked
against-own : (m : ℕ) (a : Asked) (n : ℕ) (rows : Rows) (on : Against) → entry_named a.ask ≡ Some n
    → own_by m rows (done_by a (deed_against on)) ≡ of_found (making-says a deed.Claimed) n (entry_at rows.entries n)
against-own m a n rows (against.General claimant) is = ap (of_entry (making-says a deed.Claimed) rows) is
against-own m a n rows (against.Fee k) is = ap (of_entry (making-says a deed.Claimed) rows) is

-- a deposit that is held, a payment that no line cleared, and a claim that is not settled may be in any state next
held-says : (d : Deposit) (s : DepositState) → not (is_held_state d.state) ≡ false
    → SaysStill (entry.Deposit d) (entry.Deposit (record d { state = s }))
held-says d s held = record {
  made = λ n. refl;
  cleared = cleared d.state held;
  returned = returned d.state held;
  parts = tt;
}
  where
    cleared : (t : DepositState) → not (is_held_state t) ≡ false
        → Stays (deposit_cleared d.amount t) (deposit_cleared d.amount s)
    cleared deposit.Held is = tt
    cleared t is = absurd (false≢true (sym is))

    returned : (t : DepositState) → not (is_held_state t) ≡ false
        → Stays (deposit_returned d.amount t) (deposit_returned d.amount s)
    returned deposit.Held is = tt
    returned t is = absurd (false≢true (sym is))

unpaid-says : (p : Payment) (s : PaymentState) → payment_cleared p.amount p.state ≡ []
    → SaysStill (entry.Payment p) (entry.Payment (record p { state = s }))
unpaid-says p s none = record {
  made = λ n. refl;
  cleared = subst (λ xs. Stays xs (payment_cleared p.amount s)) (sym none) tt;
  returned = tt;
  parts = tt;
}

open-says : (c : Claim) (s : ClaimState) → settled_part c.state ≡ []
    → SaysStill (entry.Claim c) (entry.Claim (record c { state = s }))
open-says c s none = record {
  made = λ n. refl;
  cleared = tt;
  returned = tt;
  parts = subst (λ xs. Stays xs (settled_part s)) (sym none) tt;
}

proposed-none : (amount : ℕ) (s : PaymentState) → not (is_proposed_state s) ≡ false → payment_cleared amount s ≡ []
proposed-none amount payment.Proposed is = refl
proposed-none amount s is = absurd (false≢true (sym is))

issued-none : (amount : ℕ) (s : PaymentState) → not (is_issued_state s) ≡ false → payment_cleared amount s ≡ []
issued-none amount (payment.Issued day) is = refl
issued-none amount s is = absurd (false≢true (sym is))

unsettled-none : (s : ClaimState) → has_settled s ≡ false → settled_part s ≡ []
unsettled-none (claim.Settled s) is = absurd (false≢true (sym is))
unsettled-none s is = refl

offered-none : (s : ClaimState) → not (is_offered_state s) ≡ false → settled_part s ≡ []
offered-none (claim.Offered part) is = refl
offered-none s is = absurd (false≢true (sym is))

-- what the table says of an ask that passes it
record Fits (p : Dossier) (q : Ask) (o other : Option Entry) : Type 0 where
  opened : (is_opening q && is_some p.rows.head) ≡ false
  next : misses (next_number (length p.rows.entries)) (number_made q) ≡ false
  there : is_missing_for q o other ≡ false
  kind : is_of_another_kind_for q o other ≡ false
  state : is_in_another_state_for q o other ≡ false
  here : is_opening q ≡ false → is_gone p.rows.head ≡ false

-- what is neither unopened nor purged is there
not-gone : (h : Option Head) → is_some h ≡ true → is_purged h ≡ false → is_gone h ≡ false
not-gone None some kept = absurd (false≢true some)
not-gone (Some h) some kept = kept

asked-is : (m : ℕ) (p : Dossier) (c : Caller) (q : Ask) (day : ℕ) (o other : Option Entry)
    → entry_at p.rows.entries (number_named q) ≡ o → Fits p q o other
    → dossier_after p (asked c q day) ≡ dossier-by p (asked c q day) None (edit_of q o day)
    → StepIs m p (dossier-by p (asked c q day) None (edit_of q o day))
asked-is m p c (ask.OpenMatter a) day o other at fits again =
    grown-asked m p (asked c (ask.OpenMatter a) day) (edit.Open (opening a day)) (deed.Opened a.lawyer) again refl refl
    (none-is p.rows.head fits.opened) (λ opens. none-is p.rows.head fits.opened) (inr refl) refl
asked-is m p c (ask.AddSeat s) day o other at fits again =
    grown-later m p (asked c (ask.AddSeat s) day) (edit.Seat s) (deed.Seated s) again refl refl tt
    refl tt (fits.here refl)
asked-is m p c (ask.DropSeat person) day o other at fits again =
    grown-later m p (asked c (ask.DropSeat person) day) (edit.Unseat person) (deed.Unseated person) again refl refl tt
    refl tt (fits.here refl)
asked-is m p c ask.CloseMatter day o other at fits again =
    grown-later m p (asked c ask.CloseMatter day) (edit.Close day) deed.Closed again refl refl tt
    refl tt (fits.here refl)
asked-is m p c ask.Purge day o other at fits again =
    inr (inr (refl, purged-gone p.rows.head day (last_after p.rows.head (edit.Purge day) day)))
asked-is m p c ask.Show day o other at fits again = inl refl
asked-is m p c ask.ShowEntries day o other at fits again = inl refl
asked-is m p c ask.Accounting day o other at fits again = inl refl
asked-is m p c (ask.Account period) day o other at fits again = inl refl
asked-is m p c (ask.ShowEntry n) day o other at fits again = inl refl
asked-is m p c (ask.Deposit a) day o other at fits again =
    let q = asked c (ask.Deposit a) day in
    appended m p q a.number (deposit_of a day) deed.Deposited (making-says q deed.Deposited)
    again refl (λ rows. refl) refl fits.next refl (fits.here refl)
asked-is m p c (ask.Propose a) day o other at fits again =
    let q = asked c (ask.Propose a) day in
    appended m p q a.number (payment_of a day) deed.Proposed (making-says q deed.Proposed)
    again refl (λ rows. refl) refl fits.next refl (fits.here refl)
asked-is m p c (ask.EarnFee a) day o other at fits again =
    let q = asked c (ask.EarnFee a) day in
    appended m p q a.number (fee_of a day) deed.Earned (making-says q deed.Earned)
    again refl (λ rows. refl) refl fits.next refl (fits.here refl)
asked-is m p c (ask.RaiseClaim a) day o other at fits again =
    let q = asked c (ask.RaiseClaim a) day in
    appended m p q a.number (claim_of a day) (deed_against a.against) (making-says q deed.Claimed) again refl
    (λ rows. against-own m q a.number rows a.against refl) refl fits.next (against-other a.against) (fits.here refl)
asked-is m p c (ask.CancelDeposit k) day (Some (entry.Deposit d)) other at fits again =
    let q = asked c (ask.CancelDeposit k) day in
    exchanged m p q k (entry.Deposit d) (entry.Deposit (record d { state = deposit.Cancelled day })) deed.Cancelled
    (asking-says q deed.Cancelled (λ n. ask.CancelDeposit n)) again refl (λ rows. refl) refl at
    (held-says d (deposit.Cancelled day) fits.state) refl (fits.here refl)
asked-is m p c (ask.Approve k) day (Some (entry.Payment v)) other at fits again =
    let q = asked c (ask.Approve k) day in
    exchanged m p q k (entry.Payment v) (entry.Payment (record v { state = payment.Issued day })) deed.Approved
    (asking-says q deed.Approved (λ n. ask.Approve n)) again refl (λ rows. refl) refl at
    (unpaid-says v (payment.Issued day) (proposed-none v.amount v.state fits.state)) refl (fits.here refl)
asked-is m p c (ask.Decline k) day (Some (entry.Payment v)) other at fits again =
    let q = asked c (ask.Decline k) day in
    exchanged m p q k (entry.Payment v) (entry.Payment (record v { state = payment.Declined })) deed.Declined
    (asking-says q deed.Declined (λ n. ask.Decline n)) again refl (λ rows. refl) refl at
    (unpaid-says v payment.Declined (proposed-none v.amount v.state fits.state)) refl (fits.here refl)
asked-is m p c (ask.Withdraw k) day (Some (entry.Payment v)) other at fits again =
    let q = asked c (ask.Withdraw k) day in
    exchanged m p q k (entry.Payment v) (entry.Payment (record v { state = payment.Declined })) deed.Withdrawn
    (asking-says q deed.Withdrawn (λ n. ask.Withdraw n)) again refl (λ rows. refl) refl at
    (unpaid-says v payment.Declined (proposed-none v.amount v.state fits.state)) refl (fits.here refl)
asked-is m p c (ask.VoidPayment k) day (Some (entry.Payment v)) other at fits again =
    let q = asked c (ask.VoidPayment k) day in
    exchanged m p q k (entry.Payment v) (entry.Payment (record v { state = voided day v.state })) deed.Voided
    (asking-says q deed.Voided (λ n. ask.VoidPayment n)) again refl (λ rows. refl) refl at
    (unpaid-says v (voided day v.state) (issued-none v.amount v.state fits.state)) refl (fits.here refl)
asked-is m p c (ask.Offer a) day (Some (entry.Claim l)) other at fits again =
    let q = asked c (ask.Offer a) day in
    exchanged m p q a.number (entry.Claim l) (entry.Claim (record l { state = claim.Offered a.to_client }))
    (deed.Offered a.to_client)
    (asking-says q (deed.Offered a.to_client) (λ n. ask.Offer (record { number = n; to_client = a.to_client })))
    again refl (λ rows. refl) refl at
    (open-says l (claim.Offered a.to_client) (unsettled-none l.state fits.state)) refl (fits.here refl)
asked-is m p c (ask.Accept a) day (Some (entry.Claim l)) other at fits again =
    let q = asked c (ask.Accept a) day in
    exchanged m p q a.number (entry.Claim l) (entry.Claim (record l { state = settled day a.to_client })) deed.Accepted
    (settling-says q deed.Accepted (λ s. ask.Accept s)) again refl (λ rows. refl) refl at
    (open-says l (settled day a.to_client) (offered-none l.state fits.state)) refl (fits.here refl)
asked-is m p c (ask.Award a) day (Some (entry.Claim l)) other at fits again =
    let q = asked c (ask.Award a) day in
    exchanged m p q a.number (entry.Claim l) (entry.Claim (record l { state = settled day a.to_client })) deed.Awarded
    (settling-says q deed.Awarded (λ s. ask.Award s)) again refl (λ rows. refl) refl at
    (open-says l (settled day a.to_client) (unsettled-none l.state fits.state)) refl (fits.here refl)
asked-is m p c q day None other at fits again = absurd (false≢true (sym fits.there))
asked-is m p c q day (Some e) other at fits again = absurd (false≢true (sym fits.kind))

-- what an accepted ask makes that is no repeat
after-accepted : (p : Dossier) (a : Asked) → refusal p.rows a ≡ None → is_repeat (facts_of p.rows a.ask) a ≡ false
    → dossier_after p a ≡ dossier-by p a None (edit_of a.ask (entry_at p.rows.entries (number_named a.ask)) a.day)
after-accepted p a none new =
    let e = edit_of a.ask (entry_at p.rows.entries (number_named a.ask)) a.day in
    ap (λ r. dossier-by p a r (edit_on p.rows a)) none ∙ ap (λ b. dossier-by p a None (cond b edit.Nothing e)) new

fits : (p : Dossier) (a : Asked) → Sound p.rows → Passes (facts_of p.rows a.ask) a
    → Fits p a.ask (facts_of p.rows a.ask).entry (facts_of p.rows a.ask).other
fits p a sound passed =
    let f = facts_of p.rows a.ask in
    let not_yet = is_not_yet_closed_for a.ask f.head in
    record {
      opened = passed.not_opened;
      next = passed.next;
      there = passed.there;
      kind = passed.kind;
      state = (either-false not_yet (is_in_another_state_for a.ask f.entry f.other) passed.state).1;
      here = λ other.
          not-gone f.head (head-there f.head f.seats p.rows.entries a.caller a.ask sound.headed passed.seat other)
          passed.kept;
    }

pub ask-is : (m : ℕ) (p : Dossier) (a : Asked) → Sound p.rows → StepIs m p (dossier_after p a)
ask-is m p a sound = cases (refusal p.rows a) (is_repeat (facts_of p.rows a.ask) a) refl refl
  where
    cases : (r : Option Refusal) (b : Bool) → refusal p.rows a ≡ r → is_repeat (facts_of p.rows a.ask) a ≡ b
        → StepIs m p (dossier_after p a)
    cases (Some r) b is again = inl (refusal-adds-none p a (ap is_some is))
    cases None true is again = inl (repeat-adds-none p a again)
    cases None false is new =
        let f = facts_of p.rows a.ask in
        let same = after-accepted p a is new in
        subst (StepIs m p) (sym same)
        (asked-is m p a.caller a.ask a.day f.entry f.other refl (fits p a sound (passes f a (rw new at is))) same)
