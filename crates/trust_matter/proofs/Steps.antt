-- Sound rows stay sound at every accepted ask.
use Rattle.trust_matter.proofs.Names.{Ask, Asked, Bool, Caller, Entry, HasAmount, Head, List, None, Option, Refusal, Rows, Seat, Some, Sound, SoundForEver, after, comes_again, cond, conditions, early_conditions, edit_of, edit_on, entry_at, facts_of, false, false≢true, first, is_opening, is_repeat, is_some, last_after, number_named, refl, refusal, role_in, rows-of, settled, sym, true, ℕ, ◌≡◌, arith, ints, nat_tests}
use Rattle.matter_parts.specs.declared.edit.Edit.TheVariants as edit
use Rattle.trust_matter.specs.declared.ask.Ask.TheVariants as ask
use Rattle.trust_matter.proofs.Table.{Passes, passes}
use Rattle.trust_matter.proofs.StepForms.{asked, claim-changes, IsStep, Stepped, head-there, none-is, some-is, not-before, next-is, step-nothing, step-unclosed, step-seat, step-unseat, step-close, step-purge}
use Rattle.trust_matter.proofs.DepositSteps.{step-deposit, step-cancel}
use Rattle.trust_matter.proofs.PaymentSteps.{step-propose, step-approve, step-decline, step-void, step-withdraw}
use Rattle.trust_matter.proofs.ClaimSteps.{offered-days, settled-days, step-fee, step-claim, step-unsettled, step-accept}

-- what passes the table
step-made : (head : Option Head) (seats : List Seat) (es : List Entry) (c : Caller) (a : Ask) (day : ℕ) → Sound (rows-of head seats es) → HasAmount a → Passes (facts_of (rows-of head seats es) a) (asked c a day) → Stepped head seats es (asked c a day) (edit_of a (entry_at es (number_named a)) day)
step-made None seats es c (ask.OpenMatter o) day s amount p = step-unclosed seats es c o day s
step-made None seats es c a day s amount p = absurd (let h = head-there None seats es c a s.headed p.seat refl in cc)
step-made (Some h) seats es c (ask.OpenMatter o) day s amount p = absurd (let g = p.not_opened in false≢true (sym g))
step-made (Some h) seats es c (ask.AddSeat new) day s amount p = search (step-seat, none-is, not-before, role_in)
step-made (Some h) seats es c (ask.DropSeat q) day s amount p =
    step-unseat h seats es c q day s (none-is h.closed p.not_closed) (not-before day h.last p.forwards) (some-is (role_in seats q) p.seat_taken)
step-made (Some h) seats es c (ask.Deposit d) day s amount p = search (step-deposit, none-is, not-before, next-is)
step-made (Some h) seats es c (ask.CancelDeposit n) day s amount p = search (step-cancel, none-is, not-before)
step-made (Some h) seats es c (ask.Propose a) day s amount p = step-propose h seats es c a day s amount (none-is h.closed p.not_closed) (not-before day h.last p.forwards) p
step-made (Some h) seats es c (ask.Approve n) day s amount p = step-approve h seats es c n day (entry_at es n) refl s (none-is h.closed p.not_closed) (not-before day h.last p.forwards) p.there p.kind p.state p.enough
step-made (Some h) seats es c (ask.Decline n) day s amount p = step-decline h seats es c n day (entry_at es n) refl s (none-is h.closed p.not_closed) (not-before day h.last p.forwards) p.there p.kind p.state
step-made (Some h) seats es c (ask.Withdraw n) day s amount p = step-withdraw h seats es c n day (entry_at es n) refl s (none-is h.closed p.not_closed) (not-before day h.last p.forwards) p.there p.kind p.state
step-made (Some h) seats es c (ask.VoidPayment n) day s amount p = step-void h seats es c n day (entry_at es n) refl s (none-is h.closed p.not_closed) (not-before day h.last p.forwards) p.there p.kind p.state
step-made (Some h) seats es c (ask.EarnFee a) day s amount p = step-fee h seats es c a day s amount (none-is h.closed p.not_closed) (not-before day h.last p.forwards) p
step-made (Some h) seats es c (ask.RaiseClaim a) day s amount p =
    step-claim h seats es c a day s amount (none-is h.closed (rw (claim-changes a.against) at p.not_closed))
    (not-before day h.last (rw (claim-changes a.against) at p.forwards)) p
step-made (Some h) seats es c (ask.Offer a) day s amount p = search (step-unsettled, offered-days, none-is, not-before)
step-made (Some h) seats es c (ask.Accept a) day s amount p = step-accept h seats es c a day (entry_at es a.number) refl s (none-is h.closed p.not_closed) (not-before day h.last p.forwards) p.there p.kind p.state p.split
step-made (Some h) seats es c (ask.Award a) day s amount p =
    step-unsettled h seats es c (ask.Award a) a.number day (settled day a.to_client) (entry_at es a.number) refl (λ e. refl) (settled-days day a.to_client) refl s (none-is h.closed p.not_closed) (not-before day h.last p.forwards) p.there p.kind p.state p.split
step-made (Some h) seats es c ask.CloseMatter day s amount p = step-close h seats es c day s (none-is h.closed p.not_closed) (not-before day h.last p.forwards) p.empty
step-made (Some h) seats es c ask.Purge day s amount p = step-purge h seats es c day s p.kept (not-before day h.last p.forwards) p.state
step-made (Some h) seats es c a day s amount p = step-nothing h seats es (asked c a day) s

again-other : (a : Ask) (e : Option Entry) → comes_again a e ≡ true → is_opening a ≡ false
again-other a e h = grind (arith, ints, nat_tests)

step-again : (head : Option Head) (seats : List Seat) (es : List Entry) (a : Asked) → Sound (rows-of head seats es) → is_some head ≡ true → Stepped head seats es a edit.Nothing
step-again head seats es a s there = grind (arith, ints, nat_tests, step-nothing)

known : (b : Bool) (r : Refusal) (rest : Option Refusal) → cond b (Some r) rest ≡ None → b ≡ false
known b r rest h = grind (arith, ints, nat_tests)

step-either : (rows : Rows) (a : Asked) (b : Bool) → is_repeat (facts_of rows a.ask) a ≡ b → Sound rows → HasAmount a.ask → first (cond b (early_conditions (facts_of rows a.ask) a) (conditions (facts_of rows a.ask) a)) ≡ None → Stepped rows.head rows.seats rows.entries a (cond b edit.Nothing (edit_of a.ask (entry_at rows.entries (number_named a.ask)) a.day))
step-either rows a true is s amount none = search (step-again, head-there, known, again-other)
step-either rows a false is s amount none =
    step-made rows.head rows.seats rows.entries a.caller a.ask a.day s amount (passes (facts_of rows a.ask) a none)

-- an accepted ask makes a step
pub step : (rows : Rows) (a : Asked) → Sound rows → HasAmount a.ask → refusal rows a ≡ None → IsStep rows a (edit_on rows a) (last_after rows.head (edit_on rows a) a.day)
step rows a s amount none = step-either rows a (is_repeat (facts_of rows a.ask) a) refl s amount none

sound-after : (rows : Rows) (a : Asked) (r : Option Refusal) → refusal rows a ≡ r → Sound rows → HasAmount a.ask → Sound (after r (edit_on rows a) a.day rows)
sound-after rows a r is s amount = grind (arith, ints, nat_tests, step)

pub steps-sound : SoundForEver
steps-sound rows a amount s = sound-after rows a (refusal rows a) refl s amount
