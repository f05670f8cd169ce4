-- Worked cases: asks of one matter, their answers, and the rows after them.
use Rattle.std.specs.Prelude.{◌≡◌, ◌≤◌, ℕ, true, false, List, [], ◌∷◌, length, Some, None, codes, pos}
use Rattle.trust_base.specs.declared.refusal.Refusal.{Refusal}
use Rattle.trust_base.specs.declared.refusal.Refusal.TheVariants as refusals
use Rattle.matter_rows.specs.declared.head.Holder.TheVariants as holder
use Rattle.matter_rows.specs.declared.seat.Role.TheVariants as role
use Rattle.matter_rows.specs.declared.head.Head.{Head}
use Rattle.matter_rows.specs.declared.seat.Seat.{Seat}
use Rattle.matter_rows.specs.declared.deposit.DepositState.{DepositState}
use Rattle.matter_rows.specs.declared.deposit.DepositState.TheVariants as deposit
use Rattle.matter_rows.specs.declared.entry.Entry.{Entry}
use Rattle.matter_rows.specs.declared.entry.Entry.TheVariants as entry
use Rattle.matter_rows.specs.Balances.{held, available, ledger}
use Rattle.matter_rows.specs.Rows.{is_of_nobody, Rows}
use Rattle.matter_rows.specs.declared.act.Caller.TheVariants as caller
use Rattle.trust_matter.specs.declared.ask.Ask.{Ask}
use Rattle.trust_matter.specs.declared.ask.Ask.TheVariants as ask
use Rattle.trust_matter.specs.Conditions.{is_repeat}
use Rattle.trust_matter.specs.Facts.{Asked, facts_of}
use Rattle.trust_matter.specs.Step.{refusal, rows_after}
use Rattle.trust_base.specs.TheConstants.{MAX_ENTRY}

-- How an ask is answered.

-- the ask is accepted and leaves these rows
pub record Accepts (rows : Rows) (a : Asked) (later : Rows) : Type 0 where
  pub accepted : refusal rows a ≡ None
  pub leaves : rows_after rows a ≡ later

-- the ask is accepted as a repeat and changes nothing
pub record Repeats (rows : Rows) (a : Asked) : Type 0 where
  pub repeat : is_repeat (facts_of rows a.ask) a ≡ true
  pub accepted : refusal rows a ≡ None
  pub leaves : rows_after rows a ≡ rows

-- the ask is refused and changes nothing
pub record Refuses (rows : Rows) (a : Asked) (r : Refusal) : Type 0 where
  pub refused : refusal rows a ≡ Some r
  pub leaves : rows_after rows a ≡ rows

-- the entries have these balances
pub record HasBalances (rows : Rows) (in_hold : ℕ) (to_pay : ℕ) (in_ledger : ℕ) : Type 0 where
  pub held : held rows.entries ≡ pos in_hold
  pub available : available rows.entries ≡ pos to_pay
  pub ledger : ledger rows.entries ≡ pos in_ledger

-- Who asks, and when.

abbrev pub sunday : ℕ
sunday = 20260104

abbrev pub monday : ℕ
monday = 20260105

abbrev pub tuesday : ℕ
tuesday = 20260106

abbrev pub lee : List ℕ
lee = codes "lee"

abbrev pub ada : List ℕ
ada = codes "ada"

abbrev pub bob : List ℕ
bob = codes "bob"

abbrev pub by_cashier : Ask → ℕ → Asked
by_cashier a day = record { caller = caller.Cashier; ask = a; day = day }

abbrev pub by_person : List ℕ → Ask → ℕ → Asked
by_person person a day = record { caller = caller.Person person; ask = a; day = day }

-- What is asked.

abbrev pub opening_for_ada : Ask
opening_for_ada = ask.OpenMatter (record { client = codes "Ada Chen"; lawyer = lee })

abbrev pub seat_for : List ℕ → Ask
seat_for person = ask.AddSeat (record { person = person; role = role.Client })

abbrev pub no_seat_for : List ℕ → Ask
no_seat_for person = ask.DropSeat person

-- the client's deposit of so many cents, as entry `number`
abbrev pub retainer : ℕ → ℕ → Ask
retainer number cents =
    ask.Deposit (record { number = number; amount = cents; source = codes "Ada Chen"; description = codes "retainer" })

-- The rows.

abbrev pub head_seen_on : ℕ → Head
head_seen_on day = record { holder = holder.Client (codes "Ada Chen"); opened = monday; closed = None; last = day }

abbrev pub seat_of_lee : Seat
seat_of_lee = record { person = lee; role = role.Lawyer }

abbrev pub seat_of_ada : Seat
seat_of_ada = record { person = ada; role = role.Client }

-- the matter, opened on Monday with lee as its lawyer
abbrev pub opened_for_ada : Rows
opened_for_ada = record { head = Some (head_seen_on monday); seats = seat_of_lee ∷ []; entries = [] }

-- on Tuesday, with a seat for ada
abbrev pub seated_for_ada : Rows
seated_for_ada = record { head = Some (head_seen_on tuesday); seats = seat_of_ada ∷ seat_of_lee ∷ []; entries = [] }

-- on Tuesday, without it
abbrev pub left_by_ada : Rows
left_by_ada = record { head = Some (head_seen_on tuesday); seats = seat_of_lee ∷ []; entries = [] }

-- the retainer of 500.00 in some state
abbrev pub retainer_in : DepositState → Entry
retainer_in state = entry.Deposit (record {
  book = monday;
  amount = 50000;
  source = codes "Ada Chen";
  description = codes "retainer";
  state = state;
})

-- the matter with the retainer
abbrev pub retained : Rows
retained =
    record { head = Some (head_seen_on monday); seats = seat_of_lee ∷ []; entries = retainer_in deposit.Held ∷ [] }

-- on Tuesday, with the retainer cancelled
abbrev pub cancelled_for_ada : Rows
cancelled_for_ada = record {
  head = Some (head_seen_on tuesday);
  seats = seat_of_lee ∷ [];
  entries = retainer_in (deposit.Cancelled tuesday) ∷ [];
}

-- The last number.

-- a deposit is asked of an open matter with 9,999 entries, on or after its last day
pub record IsAskedOfFull (rows : Rows) (h : Head) (number cents day : ℕ) : Type 0 where
  pub head : rows.head ≡ Some h
  pub unclosed : h.closed ≡ None
  pub kept : is_of_nobody h.holder ≡ false
  pub forwards : h.last ≤ day
  pub full : length rows.entries ≡ MAX_ENTRY
  pub new : is_repeat (facts_of rows (retainer number cents)) (by_cashier (retainer number cents) day) ≡ false

abbrev pub FullIsTold : Type 0
FullIsTold =
    (rows : Rows) (h : Head) (number cents day : ℕ) → IsAskedOfFull rows h number cents day
    → Refuses rows (by_cashier (retainer number cents) day) (refusals.WrongNumber None)
