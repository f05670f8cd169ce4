-- How an ask is answered and what it changes: a table of refusals, from which the least number is taken.
use Rattle.std.specs.Prelude.{◌≡◌, ℕ, Bool, List, [], ◌∷◌, ◌++◌, Option, Some, None, is_some, nat_lt, if◌then◌else◌, Result, Ok, Err, ℤ, pos, negsuc}
use Rattle.trust_base.specs.declared.refusal.Refusal.{Refusal}
use Rattle.trust_base.specs.declared.refusal.Refusal.TheVariants as refusals
use Rattle.trust_base.specs.Limits.{IsAmount}
use Rattle.matter_rows.specs.declared.head.Head.{Head}
use Rattle.matter_rows.specs.declared.head.Holder.TheVariants as holder
use Rattle.matter_rows.specs.declared.seat.Role.TheVariants as role
use Rattle.matter_rows.specs.declared.deposit.DepositState.TheVariants as deposit
use Rattle.matter_rows.specs.declared.payment.PaymentState.{PaymentState}
use Rattle.matter_rows.specs.declared.payment.PaymentState.TheVariants as payment
use Rattle.matter_rows.specs.declared.claim.ClaimState.{ClaimState}
use Rattle.matter_rows.specs.declared.claim.ClaimState.TheVariants as claim
use Rattle.matter_rows.specs.declared.entry.Entry.{Entry}
use Rattle.matter_rows.specs.declared.entry.Entry.TheVariants as entry
use Rattle.matter_rows.specs.declared.act.Act.{Act}
use Rattle.matter_rows.specs.Rows.{Rows, last_of, closed_on, next_number}
use Rattle.matter_parts.specs.declared.edit.Opening.{Opening}
use Rattle.matter_parts.specs.declared.edit.Edit.{Edit}
use Rattle.matter_parts.specs.declared.edit.Edit.TheVariants as edit
use Rattle.matter_parts.specs.Changes.{MatterChange, IsChange, AreSmallTotals, changed_by, last_after}
use Rattle.matter_parts.specs.Parts.{Part}
use Rattle.matter_parts.specs.TotalsAfter.{EditMoved, TheTotalsAfter}
use Rattle.trust_matter.specs.declared.ask.OpenAsk.{OpenAsk}
use Rattle.trust_matter.specs.declared.ask.DepositAsk.{DepositAsk}
use Rattle.trust_matter.specs.declared.payment.PaymentAsk.{PaymentAsk}
use Rattle.trust_matter.specs.declared.ask.FeeAsk.{FeeAsk}
use Rattle.trust_matter.specs.declared.claim.ClaimAsk.{ClaimAsk}
use Rattle.trust_matter.specs.declared.ask.Ask.{Ask}
use Rattle.trust_matter.specs.declared.ask.Ask.TheVariants as ask
use Rattle.trust_matter.specs.Acts.{act_by}
use Rattle.trust_matter.specs.Policy.{rule_of}
use Rattle.trust_matter.specs.Facts.{Facts, Asked, facts_of}
use Rattle.trust_matter.specs.Conditions.{has_no_seat, was_purged, is_not_allowed, is_opened_already, is_closed, goes_backwards, misses, is_not_next, is_not_there, is_of_another_kind, is_in_another_state, is_to_cash, is_to_wrong_payee, is_bad_split, is_short, left_for, has_a_seat_already, has_none_to_drop, would_lose_its_last_lawyer, is_not_empty, is_too_early, purge_day, is_repeat}

-- The refusals.

-- an integer as a natural number; 0 if negative
abbrev pub natural : ℤ → ℕ
natural (pos n) = n
natural (negsuc n) = 0

-- the matter does not exist for the caller, was purged, or the policy forbids the ask: each refusal with its condition,
-- by number. A repeat can be refused for these alone
abbrev pub early_conditions : Facts → Asked → List (Bool × Refusal)
early_conditions f a =
    (has_no_seat f a, refusals.NoMatter)
    ∷ (was_purged f a, refusals.Purged)
    ∷ (is_not_allowed f a, refusals.NotAllowed (rule_of a.ask))
    ∷ []

-- refusals of a change: the matter is closed, the day goes back, or the entry made does not have the next number
abbrev pub change_conditions : Option Head → Option ℕ → Option ℕ → ℕ → List (Bool × Refusal)
change_conditions head next made day =
    (is_some (closed_on head), refusals.Closed)
    ∷ (nat_lt day (last_of head), refusals.DateBackwards (last_of head))
    ∷ (misses next made, refusals.WrongNumber next)
    ∷ []

-- the matter, its days, its entries, the payee, the amount or the seats do not allow the ask
abbrev pub later_conditions : Facts → Asked → List (Bool × Refusal)
later_conditions f a =
    (is_opened_already f a, refusals.AlreadyOpen)
    ∷ (is_closed f a, refusals.Closed)
    ∷ (goes_backwards f a, refusals.DateBackwards (last_of f.head))
    ∷ (is_not_next f a, refusals.WrongNumber (next_number f.count))
    ∷ (is_not_there f a, refusals.NoEntry)
    ∷ (is_of_another_kind f a, refusals.WrongKind)
    ∷ (is_in_another_state f a, refusals.WrongState)
    ∷ (is_to_cash f a, refusals.PayeeIsCash)
    ∷ (is_to_wrong_payee f a, refusals.WrongPayee)
    ∷ (is_bad_split f a, refusals.BadSplit)
    ∷ (is_short f a, refusals.Short (natural (left_for a.ask f.entry f.available f.left)))
    ∷ (has_a_seat_already f a, refusals.SeatTaken)
    ∷ (has_none_to_drop f a, refusals.NoSeat)
    ∷ (would_lose_its_last_lawyer f a, refusals.LastLawyer)
    ∷ (is_not_empty f a, refusals.NotEmpty)
    ∷ (is_too_early f a, refusals.TooEarly (purge_day (closed_on f.head)))
    ∷ []

-- each refusal with its condition, by number
abbrev pub conditions : Facts → Asked → List (Bool × Refusal)
conditions f a = early_conditions f a ++ later_conditions f a

-- the refusals that are tried: a repeat changes nothing, so it is refused only because of the caller or a purged matter
abbrev pub tried : Facts → Asked → List (Bool × Refusal)
tried f a = if is_repeat f a then early_conditions f a else conditions f a

-- the first refusal whose condition holds, which is the one with the least number
abbrev pub first : List (Bool × Refusal) → Option Refusal
first [] = None
first (c ∷ cs) = if c.0 then Some c.1 else first cs

-- the refusal of an ask: the one with the least number whose condition holds
abbrev pub refusal_of : Facts → Asked → Option Refusal
refusal_of f a = first (tried f a)

-- the refusal, if the caller may ask and the matter was not purged; None for a repeat
abbrev pub late_refusal : Facts → Asked → Option Refusal
late_refusal f a = if is_repeat f a then None else first (later_conditions f a)

-- What changes.

-- an opened matter: its head, with client and day, and the lawyer's seat
abbrev pub opening : OpenAsk → ℕ → Opening
opening a day = record {
  head = record { holder = holder.Client a.client; opened = day; closed = None; last = day };
  seat = record { person = a.lawyer; role = role.Lawyer };
}

-- a newly booked deposit, which is held
abbrev pub deposit_of : DepositAsk → ℕ → Entry
deposit_of a day = entry.Deposit (record {
  book = day;
  amount = a.amount;
  source = a.source;
  description = a.description;
  state = deposit.Held;
})

-- a deposit cancelled on a day
abbrev pub cancelled : ℕ → Option Entry → ℕ → Edit
cancelled n (Some (entry.Deposit d)) day =
    edit.Exchange (record { number = n; entry = entry.Deposit (record d { state = deposit.Cancelled day }) })
cancelled n _ day = edit.Nothing

-- a newly booked payment, which is proposed
abbrev pub payment_of : PaymentAsk → ℕ → Entry
payment_of a day = entry.Payment (record {
  book = day;
  amount = a.amount;
  fund = a.fund;
  payee = a.payee;
  purpose = a.purpose;
  instrument = a.instrument;
  state = payment.Proposed;
})

abbrev pub fee_of : FeeAsk → ℕ → Entry
fee_of a day = entry.Fee (record { book = day; amount = a.amount; description = a.description })

-- a newly raised claim, which is open
abbrev pub claim_of : ClaimAsk → ℕ → Entry
claim_of a day = entry.Claim (record {
  book = day;
  amount = a.amount;
  against = a.against;
  reason = a.reason;
  state = claim.Open;
})

-- a payment changed to another state
abbrev pub with_payment : ℕ → Option Entry → (PaymentState → PaymentState) → Edit
with_payment n (Some (entry.Payment p)) next =
    edit.Exchange (record { number = n; entry = entry.Payment (record p { state = next p.state }) })
with_payment n _ next = edit.Nothing

-- an issued payment, voided on a day
abbrev pub voided : ℕ → PaymentState → PaymentState
voided day payment.Proposed = payment.Proposed
voided day payment.Declined = payment.Declined
voided day (payment.Issued issued) = payment.Voided (record { issued = issued; undone = day })
voided day (payment.Cleared c) = payment.Cleared c
voided day (payment.Voided v) = payment.Voided v

-- a claim changed to another state
abbrev pub with_claim : ℕ → Option Entry → ClaimState → Edit
with_claim n (Some (entry.Claim c)) next =
    edit.Exchange (record { number = n; entry = entry.Claim (record c { state = next }) })
with_claim n _ next = edit.Nothing

-- a claim settled on a day, with the client's part
abbrev pub settled : ℕ → ℕ → ClaimState
settled day part = claim.Settled (record { day = day; part = part })

-- what an ask changes if it is neither refused nor a repeat
abbrev pub edit_of : Ask → Option Entry → ℕ → Edit
edit_of (ask.OpenMatter a) e day = edit.Open (opening a day)
edit_of (ask.AddSeat s) e day = edit.Seat s
edit_of (ask.DropSeat p) e day = edit.Unseat p
edit_of (ask.Deposit a) e day = edit.Append (record { number = a.number; entry = deposit_of a day })
edit_of (ask.CancelDeposit n) e day = cancelled n e day
edit_of (ask.Propose a) e day = edit.Append (record { number = a.number; entry = payment_of a day })
edit_of (ask.Approve n) e day = with_payment n e (λ _. payment.Issued day)
edit_of (ask.Decline n) e day = with_payment n e (λ _. payment.Declined)
edit_of (ask.Withdraw n) e day = with_payment n e (λ _. payment.Declined)
edit_of (ask.VoidPayment n) e day = with_payment n e (voided day)
edit_of (ask.EarnFee a) e day = edit.Append (record { number = a.number; entry = fee_of a day })
edit_of (ask.RaiseClaim a) e day = edit.Append (record { number = a.number; entry = claim_of a day })
edit_of (ask.Offer a) e day = with_claim a.number e (claim.Offered a.to_client)
edit_of (ask.Accept a) e day = with_claim a.number e (settled day a.to_client)
edit_of (ask.Award a) e day = with_claim a.number e (settled day a.to_client)
edit_of ask.CloseMatter e day = edit.Close day
edit_of ask.Purge e day = edit.Purge day
edit_of ask.Show e day = edit.Nothing
edit_of ask.ShowEntries e day = edit.Nothing
edit_of ask.Accounting e day = edit.Nothing
edit_of (ask.Account p) e day = edit.Nothing
edit_of (ask.ShowEntry n) e day = edit.Nothing

-- what an accepted ask changes
abbrev pub decided : Facts → Asked → Edit
decided f a = if is_repeat f a then edit.Nothing else edit_of a.ask f.entry a.day

-- The step.

-- the refusal of an ask
abbrev pub refusal : Rows → Asked → Option Refusal
refusal rows a = refusal_of (facts_of rows a.ask) a

-- the edit of an ask that is not refused
abbrev pub edit_on : Rows → Asked → Edit
edit_on rows a = decided (facts_of rows a.ask) a

-- what an accepted ask is remembered as: nothing if it changes nothing, and nothing of a purge, which leaves no records
abbrev pub act_on : Rows → Asked → Option Act
act_on rows a = act_by (edit_on rows a) a

abbrev pub after : Option Refusal → Edit → ℕ → Rows → Rows
after None e day rows = changed_by e (last_after rows.head e day) rows
after (Some r) e day rows = rows

-- the rows after an ask
abbrev pub rows_after : Rows → Asked → Rows
rows_after rows a = after (refusal rows a) (edit_on rows a) a.day rows

-- the amount in an ask, if any, is in range
abbrev pub HasAmount : Ask → Type 0
HasAmount (ask.Deposit a) = IsAmount a.amount
HasAmount (ask.Propose a) = IsAmount a.amount
HasAmount (ask.EarnFee a) = IsAmount a.amount
HasAmount (ask.RaiseClaim a) = IsAmount a.amount
HasAmount _ = Unit {0}

-- the ask is accepted, and the change is that of the rows, with the act that it is remembered by
pub record IsDecided (rows : Rows) (a : Asked) (c : MatterChange) : Type 0 where
  pub accepted : refusal rows a ≡ None
  pub edit : c.edit ≡ edit_on rows a
  pub last : c.last ≡ last_after rows.head (edit_on rows a) a.day
  pub change : IsChange rows c
  pub act : c.act ≡ act_on rows a

-- the possible refusals: the ask's own, or out of memory if it has none; never a store fault
abbrev pub MayRefuse : Option Refusal → Refusal → Type 0
MayRefuse refused refusals.Memory = refused ≡ None
MayRefuse refused refusals.Store = ⊥
MayRefuse refused r = refused ≡ Some r

-- the possible answers: the change or the ask's refusal, or out of memory if the ask is to be accepted
abbrev pub Decides : Rows → Asked → Result MatterChange Refusal → Type 0
Decides rows a (Ok c) = IsDecided rows a c
Decides rows a (Err r) = MayRefuse (refusal rows a) r

-- the refusal if there is one, otherwise the edit or out of memory
abbrev pub Answers : Option Refusal → Edit → Result Edit Refusal → Type 0
Answers refused made (Ok e) = (refused ≡ None) × (e ≡ made)
Answers refused made (Err r) = MayRefuse refused r

-- the answer to an ask from the facts: its refusal, otherwise what it changes or out of memory
abbrev pub AnswersBy : Facts → Asked → Result Edit Refusal → Type 0
AnswersBy f a result = Answers (refusal_of f a) (decided f a) result

-- the same, if the caller may ask and the matter was not purged
abbrev pub AnswersLateBy : Facts → Asked → Result Edit Refusal → Type 0
AnswersLateBy f a result = Answers (late_refusal f a) (decided f a) result

-- why no change is made of an edit: for want of memory, or as no totals are those after it
abbrev pub WhyNotMade : Part → Edit → Refusal → Type 0
WhyNotMade m e refusals.Memory = Unit {0}
WhyNotMade m e refusals.Store = (v : TheTotalsAfter) → AreSmallTotals v → EditMoved m e v → ⊥
WhyNotMade m e _ = ⊥
