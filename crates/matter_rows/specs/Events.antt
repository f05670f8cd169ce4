-- What an entry moves in the journal, and on which day.
use Rattle.std.specs.Prelude.{ℕ, List, [], ◌∷◌, ℤ, pos, ◌-ℤ◌, Option, Some, None, length, slice_get}
use Rattle.std.specs.Option.{option_map}
use Rattle.matter_rows.specs.declared.deposit.DepositState.{DepositState}
use Rattle.matter_rows.specs.declared.deposit.DepositState.TheVariants as deposit
use Rattle.matter_rows.specs.declared.payment.PaymentState.{PaymentState}
use Rattle.matter_rows.specs.declared.payment.PaymentState.TheVariants as payment
use Rattle.matter_rows.specs.declared.entry.Entry.{Entry}
use Rattle.matter_rows.specs.declared.entry.Entry.TheVariants as entry
use Rattle.matter_rows.specs.declared.movement.EntryMovement.{EntryMovement}

-- an amount in cents on a day: positive if received, negative if paid out
pub record Event : Type 0 where
  pub day : ℕ
  pub amount : ℤ

abbrev pub received : ℕ → ℕ → Event
received day amount = record { day = day; amount = pos amount }

abbrev pub paid_out : ℕ → ℕ → Event
paid_out day amount = record { day = day; amount = pos 0 -ℤ pos amount }

-- the amount goes out again when a deposit is cancelled, or on the day its return was booked; clearing moves nothing
abbrev pub cancelling : DepositState → ℕ → List Event
cancelling deposit.Held amount = []
cancelling (deposit.Cleared c) amount = []
cancelling (deposit.Cancelled day) amount = paid_out day amount ∷ []
cancelling (deposit.Returned r) amount = paid_out r.undone amount ∷ []

-- the day on which a payment was issued; none while it is proposed, and if it was declined
abbrev pub issued_on : PaymentState → Option ℕ
issued_on payment.Proposed = None
issued_on payment.Declined = None
issued_on (payment.Issued day) = Some day
issued_on (payment.Cleared c) = Some c.issued
issued_on (payment.Voided v) = Some v.issued

-- the day on which it was voided
abbrev pub voided_on : PaymentState → Option ℕ
voided_on payment.Proposed = None
voided_on payment.Declined = None
voided_on (payment.Issued day) = None
voided_on (payment.Cleared c) = None
voided_on (payment.Voided v) = Some v.undone

-- issuing a payment pays the amount out, voiding brings it back
abbrev pub payments : PaymentState → ℕ → List Event
payments payment.Proposed amount = []
payments payment.Declined amount = []
payments (payment.Issued day) amount = paid_out day amount ∷ []
payments (payment.Cleared c) amount = paid_out c.issued amount ∷ []
payments (payment.Voided v) amount = paid_out v.issued amount ∷ received v.undone amount ∷ []

-- what an entry has moved so far, in order
unfoldable pub events_of : Entry → List Event
events_of (entry.Deposit d) = received d.book d.amount ∷ cancelling d.state d.amount
events_of (entry.Payment p) = payments p.state p.amount
events_of (entry.Fee f) = []
events_of (entry.Claim c) = []

-- what an entry has moved so far; nothing if it does not exist
abbrev pub events_in : Option Entry → List Event
events_in None = []
events_in (Some e) = events_of e

-- Events as movements of the journal.

abbrev pub as_movement : ℕ → Event → EntryMovement
as_movement n e = record { entry = n; day = e.day; amount = e.amount }

-- event i, counted from 0, as a movement of entry n
abbrev pub nth_moved : ℕ → ℕ → List Event → Option EntryMovement
nth_moved n i es = option_map (λ e. as_movement n e) (slice_get es i)

-- the first event of `news` after as many as `olds` has
abbrev pub moved_beyond : ℕ → List Event → List Event → Option EntryMovement
moved_beyond n olds news = nth_moved n (length olds) news
