-- The rows of a matter: its head, its seats by person, and its entries by number.
use Rattle.std.specs.Prelude.{ℕ, Bool, true, false, not, codes, cond, List, [], ◌∷◌, ◌++◌, ◌+◌, ◌-◌, ◌==◌, nat_lt, Option, Some, None, find, if◌then◌else◌, ◌&&◌}
use Rattle.std.specs.List.{filter, list_any}
use Rattle.std.specs.Option.{option_map}
use Rattle.std.specs.Str.{bytes_eq}
use Rattle.std.specs.Ordering.{is_lt, nat_cmp}
use Rattle.std.specs.Cmp.Lexicographic.{slice_cmp}
use Rattle.matter_rows.specs.declared.seat.Role.{Role}
use Rattle.matter_rows.specs.declared.head.Head.{Head}
use Rattle.matter_rows.specs.declared.head.Holder.{Holder}
use Rattle.matter_rows.specs.declared.head.Holder.TheVariants as holder
use Rattle.matter_rows.specs.declared.seat.Seat.{Seat}
use Rattle.matter_rows.specs.declared.deposit.DepositState.TheVariants as deposit
use Rattle.matter_rows.specs.declared.payment.PaymentState.TheVariants as payment
use Rattle.matter_rows.specs.declared.claim.ClaimState.TheVariants as claim
use Rattle.matter_rows.specs.declared.entry.Entry.{Entry}
use Rattle.matter_rows.specs.declared.entry.Entry.TheVariants as entry
use Rattle.matter_rows.specs.declared.seat.Role.TheVariants as role
use Rattle.matter_rows.specs.declared.deposit.DepositState.{DepositState}
use Rattle.matter_rows.specs.declared.payment.PaymentState.{PaymentState}
use Rattle.matter_rows.specs.declared.payment.Fund.{Fund}
use Rattle.matter_rows.specs.declared.payment.Fund.TheVariants as fund
use Rattle.matter_rows.specs.declared.claim.Against.{Against}
use Rattle.matter_rows.specs.declared.claim.Against.TheVariants as against
use Rattle.trust_base.specs.TheConstants.{MAX_ENTRY}

-- a client's ledger; entry n is the n-th of the list, counted from 1
pub record Rows : Type 0 where
  pub head : Option Head
  pub seats : List Seat
  pub entries : List Entry

-- a matter that was never opened
abbrev pub unopened : Rows
unopened = record { head = None; seats = []; entries = [] }

-- the last day of an accepted change or a bank line; 0 if the matter was never opened
abbrev pub last_of : Option Head → ℕ
last_of None = 0
last_of (Some h) = h.last

-- the day on which the matter was closed
abbrev pub closed_on : Option Head → Option ℕ
closed_on None = None
closed_on (Some h) = h.closed

abbrev pub is_of_nobody : Holder → Bool
is_of_nobody (holder.Client c) = false
is_of_nobody (holder.Purged day) = true

-- the matter was purged
abbrev pub is_purged : Option Head → Bool
is_purged None = false
is_purged (Some h) = is_of_nobody h.holder

-- the matter was never opened, or was purged
abbrev pub is_gone : Option Head → Bool
is_gone None = true
is_gone (Some h) = is_of_nobody h.holder

-- entry n, counted from 1
abbrev pub entry_at : List Entry → ℕ → Option Entry
entry_at [] n = None
entry_at (e ∷ es) n = cond (n == 1) (Some e) (entry_at es (n - 1))

-- the entries with entry n replaced by e'
abbrev pub with_entry : List Entry → ℕ → Entry → List Entry
with_entry [] n e' = []
with_entry (e ∷ es) n e' = cond (n == 1) (e' ∷ es) (e ∷ with_entry es (n - 1) e')

-- the number of the next entry after `count` entries; None after 9999
abbrev pub next_number : ℕ → Option ℕ
next_number count = if nat_lt count MAX_ENTRY then Some (count + 1) else None

-- the amount of an entry, in cents
abbrev pub entry_amount : Entry → ℕ
entry_amount (entry.Deposit d) = d.amount
entry_amount (entry.Payment p) = p.amount
entry_amount (entry.Fee f) = f.amount
entry_amount (entry.Claim c) = c.amount

-- the day on which an entry was made
abbrev pub book_day : Entry → ℕ
book_day (entry.Deposit d) = d.book
book_day (entry.Payment p) = p.book
book_day (entry.Fee f) = f.book
book_day (entry.Claim c) = c.book

-- the entry as it was first made: what was asked and when, in its first state
abbrev pub as_made : Entry → Entry
as_made (entry.Deposit d) = entry.Deposit (record d { state = deposit.Held })
as_made (entry.Payment p) = entry.Payment (record p { state = payment.Proposed })
as_made (entry.Fee f) = entry.Fee f
as_made (entry.Claim c) = entry.Claim (record c { state = claim.Open })

-- the seat of a person
abbrev pub seat_of : List Seat → List ℕ → Option Seat
seat_of seats person = find (λ s. bytes_eq s.person person) seats

-- the role of a person in the matter
abbrev pub role_in : List Seat → List ℕ → Option Role
role_in seats person = option_map (λ s. s.role) (seat_of seats person)

-- a name sorts before another, byte by byte
abbrev pub comes_before : List ℕ → List ℕ → Bool
comes_before a b = is_lt (slice_cmp nat_cmp a b)

-- the seats with one more, inserted by person
abbrev pub seats_with : List Seat → Seat → List Seat
seats_with seats new =
    filter (λ s. comes_before s.person new.person) seats ++ new ∷ filter (λ s. comes_before new.person s.person) seats

-- the seats without this person's
abbrev pub seats_without : List Seat → List ℕ → List Seat
seats_without seats person = filter (λ s. not (bytes_eq s.person person)) seats

-- the head with another last day
abbrev pub seen_on : Option Head → ℕ → Option Head
seen_on None day = None
seen_on (Some h) day = Some (record h { last = day })

-- the head, closed on a day, with another last day
abbrev pub closed_head : Option Head → ℕ → ℕ → Option Head
closed_head None day last = None
closed_head (Some h) day last = Some (record h { closed = Some day; last = last })

-- the stub that is left of a head when the matter is purged on a day, with another last day
abbrev pub purged_head : Option Head → ℕ → ℕ → Option Head
purged_head None day last = None
purged_head (Some h) day last = Some (record h { holder = holder.Purged day; last = last })

abbrev pub is_number : Option ℕ → ℕ → Bool
is_number None n = false
is_number (Some next) n = next == n

abbrev pub is_held_state : DepositState → Bool
is_held_state deposit.Held = true
is_held_state (deposit.Cleared c) = false
is_held_state (deposit.Cancelled day) = false
is_held_state (deposit.Returned r) = false

abbrev pub is_proposed_state : PaymentState → Bool
is_proposed_state payment.Proposed = true
is_proposed_state payment.Declined = false
is_proposed_state (payment.Issued day) = false
is_proposed_state (payment.Cleared c) = false
is_proposed_state (payment.Voided v) = false

abbrev pub is_issued_state : PaymentState → Bool
is_issued_state payment.Proposed = false
is_issued_state payment.Declined = false
is_issued_state (payment.Issued day) = true
is_issued_state (payment.Cleared c) = false
is_issued_state (payment.Voided v) = false

-- the name of a role, as it is typed and told
abbrev pub role_name : Role → List ℕ
role_name role.Client = codes "client"
role_name role.Lawyer = codes "lawyer"

abbrev pub is_lawyer : Role → Bool
is_lawyer role.Client = false
is_lawyer role.Lawyer = true

-- someone other than this person has a lawyer's seat
abbrev pub has_other_lawyer : List Seat → List ℕ → Bool
has_other_lawyer seats person = list_any (λ s. not (bytes_eq s.person person) && is_lawyer s.role) seats

abbrev pub is_same_fund : Fund → Fund → Bool
is_same_fund fund.General fund.General = true
is_same_fund fund.General (fund.Fee k) = false
is_same_fund fund.General (fund.Claim k) = false
is_same_fund (fund.Fee j) fund.General = false
is_same_fund (fund.Fee j) (fund.Fee k) = j == k
is_same_fund (fund.Fee j) (fund.Claim k) = false
is_same_fund (fund.Claim j) fund.General = false
is_same_fund (fund.Claim j) (fund.Fee k) = false
is_same_fund (fund.Claim j) (fund.Claim k) = j == k

abbrev pub is_same_against : Against → Against → Bool
is_same_against (against.General c) (against.General d) = bytes_eq c d
is_same_against (against.General c) (against.Fee k) = false
is_same_against (against.Fee j) (against.General d) = false
is_same_against (against.Fee j) (against.Fee k) = j == k
