-- Movements with their names: the receipts and the disbursements of a period, and what waits for the bank as of a day.
use Rattle.std.specs.Prelude.{◌≡◌, ℕ, ◌≤◌, Bool, true, false, not, ◌&&◌, ◌||◌, nat_le, nat_lt, cond, List, [], ◌∷◌, ◌++◌, map, ℤ, pos, negsuc, ◌+ℤ◌, ◌-ℤ◌, Option, Some, None, fold, option_to_list}
use Rattle.std.specs.List.{filter, flat_map, list_any}
use Rattle.std.specs.Ordering.{is_lt, nat_cmp}
use Rattle.trust_base.specs.Periods.{Span}
use Rattle.matter_rows.specs.declared.head.Head.{Head}
use Rattle.matter_rows.specs.declared.head.Holder.{Holder}
use Rattle.matter_rows.specs.declared.head.Holder.TheVariants as holder
use Rattle.matter_rows.specs.declared.deposit.DepositState.{DepositState}
use Rattle.matter_rows.specs.declared.deposit.DepositState.TheVariants as deposit
use Rattle.matter_rows.specs.declared.payment.PaymentState.{PaymentState}
use Rattle.matter_rows.specs.declared.payment.PaymentState.TheVariants as payment
use Rattle.matter_rows.specs.declared.entry.Entry.{Entry}
use Rattle.matter_rows.specs.declared.entry.Entry.TheVariants as entry
use Rattle.matter_rows.specs.Events.{Event, events_of}
use Rattle.matter_rows.specs.Rows.{is_of_nobody}
use Rattle.firm_rows.specs.declared.movement.Owner.TheVariants as owner
use Rattle.firm_rows.specs.declared.ledger.FirmLine.{FirmLine}
use Rattle.firm_rows.specs.Sums.{sum_of}
use Rattle.firm_rows.specs.Firm.{Row, HeadRow, SeatRow, EntryRow, Firm, of, after_change}
use Rattle.firm_rows.specs.Countable.{AreCountable, IsFirmLineInRange, IsRowInRange}
use Rattle.firm_rows.specs.FirmSound.{FirmSound}
use Rattle.firm_rows.specs.Journal.{is_of_entry, is_of_firm, events_moved, firm_events}
use Rattle.firm_periods.specs.declared.moved.Cause.{Cause}
use Rattle.firm_periods.specs.declared.moved.Cause.TheVariants as cause
use Rattle.firm_periods.specs.declared.moved.Moved.{Moved}
use Rattle.firm_periods.specs.declared.moved.MoveNames.TheVariants as names
use Rattle.firm_periods.specs.declared.moved.NamedMove.{NamedMove}
use Rattle.firm_periods.specs.declared.named_sink.Pick.{Pick}
use Rattle.firm_periods.specs.declared.named_sink.Pick.TheVariants as pick
use Rattle.firm_figures.specs.Doubles.{in_order}
use Rattle.firm_figures.specs.Figures.{is_in_transit, is_outstanding, journal, outstanding, transit}
use Rattle.trust_matter.specs.Changes.{MatterChange}
use Rattle.firm_figures.specs.Purged.{IsPurge, is_head_purged_at, is_purged_at}
use Rattle.firm_figures.specs.Reconciling.{added}

-- What an entry has moved.

abbrev pub in_by : Cause → ℕ → ℕ → Moved
in_by why day amount = record { day = day; amount = pos amount; cause = why }

abbrev pub out_by : Cause → ℕ → ℕ → Moved
out_by why day amount = record { day = day; amount = pos 0 -ℤ pos amount; cause = why }

abbrev pub undoing : DepositState → ℕ → List Moved
undoing deposit.Held amount = []
undoing (deposit.Cleared c) amount = []
undoing (deposit.Cancelled day) amount = out_by cause.Cancelled day amount ∷ []
undoing (deposit.Returned r) amount = out_by cause.Returned r.undone amount ∷ []

abbrev pub paying : PaymentState → ℕ → List Moved
paying payment.Proposed amount = []
paying payment.Declined amount = []
paying (payment.Issued day) amount = out_by cause.Payment day amount ∷ []
paying (payment.Cleared c) amount = out_by cause.Payment c.issued amount ∷ []
paying (payment.Voided v) amount = out_by cause.Payment v.issued amount ∷ in_by cause.Voided v.undone amount ∷ []

-- the movements of an entry, in order, each with its cause
abbrev pub moves_of : Entry → List Moved
moves_of (entry.Deposit d) = in_by cause.Deposit d.book d.amount ∷ undoing d.state d.amount
moves_of (entry.Payment p) = paying p.state p.amount
moves_of (entry.Fee f) = []
moves_of (entry.Claim c) = []

abbrev pub event_in : Moved → Event
event_in v = record { day = v.day; amount = v.amount }

-- they are the entry's events
abbrev pub MovesAreEvents : Type 0
MovesAreEvents = (e : Entry) → map event_in (moves_of e) ≡ events_of e

-- Names.

abbrev pub client_of : Holder → Option (List ℕ)
client_of (holder.Client c) = Some c
client_of (holder.Purged day) = None

-- the names of a movement of an entry; a fee and a claim move nothing
abbrev pub named : Option (List ℕ) → ℕ → ℕ → Entry → Moved → List NamedMove
named client m n (entry.Deposit d) v = record {
  owner = owner.Matter m n;
  moved = v;
  names = names.Deposit d.source d.description client;
} ∷ []
named client m n (entry.Payment p) v = record {
  owner = owner.Matter m n;
  moved = v;
  names = names.Payment p.payee p.purpose p.instrument client;
} ∷ []
named client m n (entry.Fee f) v = []
named client m n (entry.Claim c) v = []

-- of the rows from some place on, the movements that are picked of each entry, with their names; the client is that of
-- the head before them
abbrev pub named_in : (Entry → List Moved) → Option (List ℕ) → List (ℕ × Row) → List NamedMove
named_in pick client [] = []
named_in pick client ((m, HeadRow h) ∷ rows) = named_in pick (client_of h.holder) rows
named_in pick client ((m, SeatRow s) ∷ rows) = named_in pick client rows
named_in pick client ((m, EntryRow n e) ∷ rows) = flat_map (named client m n e) (pick e) ++ named_in pick client rows

-- a line of the firm's own as a movement
abbrev pub own_moved : FirmLine → Moved
own_moved l = record { day = l.date; amount = l.amount; cause = cause.Own }

abbrev pub own_named : FirmLine → NamedMove
own_named l = record { owner = owner.Firm; moved = own_moved l; names = names.Own l.bank_ref l.text }

-- Which movements belong where.

abbrev pub is_below_zero : ℤ → Bool
is_below_zero (pos n) = false
is_below_zero (negsuc n) = true

-- a deposit and what undoes it are receipts, a payment and its voiding are disbursements; a line of the firm's own goes
-- by its sign
abbrev pub is_disbursed_by : Cause → ℤ → Bool
is_disbursed_by cause.Deposit amount = false
is_disbursed_by cause.Cancelled amount = false
is_disbursed_by cause.Returned amount = false
is_disbursed_by cause.Payment amount = true
is_disbursed_by cause.Voided amount = true
is_disbursed_by cause.Own amount = is_below_zero amount

abbrev pub is_disbursed : Moved → Bool
is_disbursed v = is_disbursed_by v.cause v.amount

abbrev pub is_within : ℕ → ℕ → Moved → Bool
is_within from to v = nat_le from v.day && nat_le v.day to

abbrev pub is_received_within : ℕ → ℕ → Moved → Bool
is_received_within from to v = is_within from to v && not (is_disbursed v)

abbrev pub is_disbursed_within : ℕ → ℕ → Moved → Bool
is_disbursed_within from to v = is_within from to v && is_disbursed v

-- all movements that pass a test: those of the entries, in the order of the rows, then the firm's own
abbrev pub moves_where : (Moved → Bool) → Firm → List NamedMove
moves_where test firm =
    named_in (λ e. filter test (moves_of e)) None firm.rows
    ++ map own_named (filter (λ l. test (own_moved l)) firm.firm_lines)

abbrev pub is_earlier : NamedMove → NamedMove → Bool
is_earlier a b = is_lt (nat_cmp a.moved.day b.moved.day)

-- The journals of a period: by day; on one day in the order of the rows, then the firm's own.

abbrev pub receipts : ℕ → ℕ → Firm → List NamedMove
receipts from to firm = in_order is_earlier (moves_where (is_received_within from to) firm)

abbrev pub disbursements : ℕ → ℕ → Firm → List NamedMove
disbursements from to firm = in_order is_earlier (moves_where (is_disbursed_within from to) firm)

abbrev pub sum_moved : List NamedMove → ℤ
sum_moved vs = sum_of (λ v. v.moved.amount) vs

-- What waits for the bank as of a day: the booking of a deposit in transit, the issue of an outstanding payment; by
-- day, and on one day in the order of the rows.

abbrev pub booking_of : List Moved → List Moved
booking_of [] = []
booking_of (v ∷ vs) = v ∷ []

abbrev pub waiting : (Entry → Bool) → Firm → List NamedMove
waiting test firm = in_order is_earlier (named_in (λ e. cond (test e) (booking_of (moves_of e)) []) None firm.rows)

abbrev pub transit_named : ℕ → Firm → List NamedMove
transit_named p firm = waiting (is_in_transit p) firm

abbrev pub out_named : ℕ → Firm → List NamedMove
out_named p firm = waiting (is_outstanding p) firm

-- Periods whose records a purge may have cut.

abbrev pub is_day_from : ℕ → Option ℕ → Bool
is_day_from from None = false
is_day_from from (Some day) = nat_le from day

-- the matter was purged, and had been open in the period: opened on its last day or before, and closed on its first day
-- or later
abbrev pub is_head_purged_within : Span → Head → Bool
is_head_purged_within s head = nat_le head.opened s.to && (is_of_nobody head.holder && is_day_from s.from head.closed)

abbrev pub is_row_purged_within : Span → ℕ × Row → Bool
is_row_purged_within s (m, HeadRow head) = is_head_purged_within s head
is_row_purged_within s (m, SeatRow seat) = false
is_row_purged_within s (m, EntryRow number entry) = false

-- some matter that was open in the period was purged, so its movements in it are no longer told
unfoldable pub is_purged_within : Span → Firm → Bool
is_purged_within s firm = list_any (is_row_purged_within s) firm.rows

-- Laws.

-- the sum of the movements before a day
abbrev pub journal_before : ℕ → Firm → ℤ
journal_before day firm = sum_of (λ v. v.amount) (filter (λ v. nat_lt v.day day) firm.movements)

-- the client of a matter; none if it was purged or never opened
abbrev pub client_in_head : Option Head → Option (List ℕ)
client_in_head None = None
client_in_head (Some h) = client_of h.holder

-- what a row adds to a list, under the client of its own matter
abbrev pub row_named : (Entry → List Moved) → Firm → ℕ × Row → List NamedMove
row_named pick firm (m, HeadRow h) = []
row_named pick firm (m, SeatRow s) = []
row_named pick firm (m, EntryRow n e) = flat_map (named (client_in_head (of m firm).head) m n e) (pick e)

-- each line names the client of its matter
abbrev pub NamesAreOfTheirMatter : Type 0
NamesAreOfTheirMatter =
    (pick : Entry → List Moved) (firm : Firm) → FirmSound firm
    → named_in pick None firm.rows ≡ flat_map (row_named pick firm) firm.rows

-- the receipts and the disbursements of a period add up to the change of the journal over it
abbrev pub PeriodsAgree : Type 0
PeriodsAgree =
    (from to : ℕ) (firm : Firm) → FirmSound firm → from ≤ to
    → sum_moved (receipts from to firm) +ℤ sum_moved (disbursements from to firm)
    ≡ journal to firm -ℤ journal_before from firm

abbrev pub event_named : NamedMove → Event
event_named v = event_in v.moved

-- each movement of the journal is listed once, under its entry or as the firm's own, and nothing else is
pub record AreListedOnce (firm : Firm) : Type 0 where
  pub entries : (m n : ℕ)
      → map event_named (filter (λ v. is_of_entry m n v.owner) (moves_where (λ v. true) firm))
      ≡ events_moved m n firm.movements
  pub own : map event_named (filter (λ v. is_of_firm v.owner) (moves_where (λ v. true) firm))
      ≡ firm_events firm.movements

abbrev pub AlwaysListedOnce : Type 0
AlwaysListedOnce = (firm : Firm) → FirmSound firm → AreListedOnce firm

-- however movements are weighed, those of a period weigh what its receipts and its disbursements weigh together: so
-- each stands in one of the two journals, once, and nothing else does
abbrev pub EachStandsInOne : Type 0
EachStandsInOne =
    (from to : ℕ) (firm : Firm) (weight : NamedMove → ℤ)
    → sum_of weight (receipts from to firm) +ℤ sum_of weight (disbursements from to firm)
    ≡ sum_of weight (moves_where (is_within from to) firm)

-- what waits adds up to the figures of the reconciliation
pub record WaitsAgree (p : ℕ) (firm : Firm) : Type 0 where
  pub transit : sum_moved (transit_named p firm) ≡ transit p firm
  pub out : sum_moved (out_named p firm) ≡ pos 0 -ℤ outstanding p firm

abbrev pub WaitsAlwaysAgree : Type 0
WaitsAlwaysAgree = (p : ℕ) (firm : Firm) → WaitsAgree p firm

-- What a purge leaves.

-- purging a matter of a sound firm changes nothing of a period if no purged matter was open in it
abbrev pub PurgeChangesNoPeriodLeft : Type 0
PurgeChangesNoPeriodLeft =
    (s : Span) (m : ℕ) (change : MatterChange) (firm : Firm)
    → FirmSound firm → IsPurge m firm change → is_purged_within s (after_change m change firm) ≡ false
    → (receipts s.from s.to (after_change m change firm) ≡ receipts s.from s.to firm)
    × (disbursements s.from s.to (after_change m change firm) ≡ disbursements s.from s.to firm)

-- nor of what waits as of a day if none was open as of it
abbrev pub PurgeChangesNoWaitingLeft : Type 0
PurgeChangesNoWaitingLeft =
    (p m : ℕ) (change : MatterChange) (firm : Firm)
    → FirmSound firm → IsPurge m firm change → is_purged_at p (after_change m change firm) ≡ false
    → (transit_named p (after_change m change firm) ≡ transit_named p firm)
    × (out_named p (after_change m change firm) ≡ out_named p firm)

-- How they are built.

-- what a list takes of an entry
abbrev pub pick_of : Pick → Entry → List Moved
pick_of (pick.Receipts s) e = filter (is_received_within s.from s.to) (moves_of e)
pick_of (pick.Disbursements s) e = filter (is_disbursed_within s.from s.to) (moves_of e)
pick_of (pick.Transit p) e = cond (is_in_transit p e) (booking_of (moves_of e)) []
pick_of (pick.Outstanding p) e = cond (is_outstanding p e) (booking_of (moves_of e)) []

-- whether it takes a line of the firm's own, which never waits
abbrev pub own_pick : Pick → Moved → Bool
own_pick (pick.Receipts s) v = is_received_within s.from s.to v
own_pick (pick.Disbursements s) v = is_disbursed_within s.from s.to v
own_pick (pick.Transit p) v = false
own_pick (pick.Outstanding p) v = false

-- whether a matter with this head was purged that may have had movements that it takes
abbrev pub is_head_cut : Pick → Head → Bool
is_head_cut (pick.Receipts s) head = is_head_purged_within s head
is_head_cut (pick.Disbursements s) head = is_head_purged_within s head
is_head_cut (pick.Transit p) head = is_head_purged_at p head
is_head_cut (pick.Outstanding p) head = is_head_purged_at p head

-- whether a list is no longer complete
abbrev pub is_cut : Pick → Firm → Bool
is_cut (pick.Receipts s) firm = is_purged_within s firm
is_cut (pick.Disbursements s) firm = is_purged_within s firm
is_cut (pick.Transit p) firm = is_purged_at p firm
is_cut (pick.Outstanding p) firm = is_purged_at p firm

-- what the sink stores
pub record NamedKept : Type 0 where
  pub pick : Pick
  pub client : Option (List ℕ)
  pub lines : List NamedMove
  pub purged : Bool

abbrev pub none_named : Pick → NamedKept
none_named pick = record { pick = pick; client = None; lines = []; purged = false }

abbrev pub with_named_row : NamedKept → ℕ × Row → NamedKept
with_named_row s (m, HeadRow h) = record s {
  client = client_of h.holder;
  purged = is_head_cut s.pick h || s.purged;
}
with_named_row s (m, SeatRow seat) = s
with_named_row s (m, EntryRow n e) = record s { lines = s.lines ++ flat_map (named s.client m n e) (pick_of s.pick e) }

abbrev pub with_named_own : NamedKept → FirmLine → NamedKept
with_named_own s l = record s { lines = s.lines ++ cond (own_pick s.pick (own_moved l)) (own_named l ∷ []) [] }

-- of all rows and lines of a firm
abbrev pub named_kept : Pick → Firm → NamedKept
named_kept p firm = fold with_named_own (fold with_named_row (none_named p) firm.rows) firm.firm_lines

-- the sum of what is stored, in 128 bits
abbrev pub named_sum : NamedKept → ℤ
named_sum s = fold (λ z (v : NamedMove). added z v.moved.amount) (pos 0) s.lines

-- what each list is
abbrev pub listed : Pick → Firm → List NamedMove
listed (pick.Receipts s) firm = receipts s.from s.to firm
listed (pick.Disbursements s) firm = disbursements s.from s.to firm
listed (pick.Transit p) firm = transit_named p firm
listed (pick.Outstanding p) firm = out_named p firm

-- what the sink stores of a firm's rows and lines is that list, once it is in order of days; whether it is cut; and, of
-- rows and lines that can be counted, its sum
pub record IsNamedKept (p : Pick) (firm : Firm) : Type 0 where
  pub lines : in_order is_earlier (named_kept p firm).lines ≡ listed p firm
  pub purged : (named_kept p firm).purged ≡ is_cut p firm
  pub total : AreCountable IsRowInRange firm.rows → AreCountable IsFirmLineInRange firm.firm_lines
      → named_sum (named_kept p firm) ≡ sum_moved (listed p firm)

abbrev pub NamedAreKept : Type 0
NamedAreKept = (p : Pick) (firm : Firm) → IsNamedKept p firm
