-- What is known about a matter and an ask: everything that the answer depends on.
use Rattle.std.specs.Prelude.{ℕ, List, length, ℤ, Option, Some, None}
use Rattle.matter_rows.specs.declared.head.Head.{Head}
use Rattle.matter_rows.specs.declared.seat.Seat.{Seat}
use Rattle.matter_rows.specs.declared.entry.Entry.{Entry}
use Rattle.matter_rows.specs.Rows.{Rows, entry_at}
use Rattle.matter_rows.specs.Shares.{fund_no, against_no, target_in}
use Rattle.matter_rows.specs.Balances.{available, ledger, pending, left_in}
use Rattle.matter_rows.specs.declared.act.Caller.{Caller}
use Rattle.trust_matter.specs.declared.ask.Ask.{Ask}
use Rattle.trust_matter.specs.declared.ask.Ask.TheVariants as ask

-- who asks for what, on which business day
pub record Asked : Type 0 where
  pub caller : Caller
  pub ask : Ask
  pub day : ℕ

-- the head and the seats; how many entries there are, what is available, the ledger, how many payments are proposed or
-- issued; the entry that the ask names; the fee or claim named by the ask, or otherwise by that entry, and what is left
-- of it
pub record Facts : Type 0 where
  pub head : Option Head
  pub seats : List Seat
  pub count : ℕ
  pub available : ℤ
  pub ledger : ℤ
  pub pending : ℤ
  pub entry : Option Entry
  pub other : Option Entry
  pub left : ℤ

-- the number of the entry that an ask names, or 0
abbrev pub number_named : Ask → ℕ
number_named (ask.OpenMatter a) = 0
number_named (ask.AddSeat s) = 0
number_named (ask.DropSeat p) = 0
number_named (ask.Deposit a) = a.number
number_named (ask.CancelDeposit n) = n
number_named (ask.Propose a) = a.number
number_named (ask.Approve n) = n
number_named (ask.Decline n) = n
number_named (ask.Withdraw n) = n
number_named (ask.VoidPayment n) = n
number_named (ask.EarnFee a) = a.number
number_named (ask.RaiseClaim a) = a.number
number_named (ask.Offer a) = a.number
number_named (ask.Accept a) = a.number
number_named (ask.Award a) = a.number
number_named ask.CloseMatter = 0
number_named ask.Purge = 0
number_named ask.Show = 0
number_named ask.ShowEntries = 0
number_named ask.Accounting = 0
number_named (ask.Account p) = 0
number_named (ask.ShowEntry n) = n

-- the number of the entry that an ask names, if any
abbrev pub entry_named : Ask → Option ℕ
entry_named (ask.Deposit a) = Some a.number
entry_named (ask.CancelDeposit n) = Some n
entry_named (ask.Propose a) = Some a.number
entry_named (ask.Approve n) = Some n
entry_named (ask.Decline n) = Some n
entry_named (ask.Withdraw n) = Some n
entry_named (ask.VoidPayment n) = Some n
entry_named (ask.EarnFee a) = Some a.number
entry_named (ask.RaiseClaim a) = Some a.number
entry_named (ask.Offer a) = Some a.number
entry_named (ask.Accept a) = Some a.number
entry_named (ask.Award a) = Some a.number
entry_named (ask.ShowEntry n) = Some n
entry_named _ = None

-- the number of the fee or claim that the ask itself names, or 0
abbrev pub fund_named : Ask → ℕ
fund_named (ask.Propose a) = fund_no a.fund
fund_named (ask.RaiseClaim a) = against_no a.against
fund_named _ = 0

-- the number of the fee or claim named by the ask, or otherwise by its entry, or 0
abbrev pub other_of : Ask → Option Entry → ℕ
other_of (ask.Propose a) e = fund_no a.fund
other_of (ask.RaiseClaim a) e = against_no a.against
other_of _ e = target_in e

-- the facts from the rows, with all sums added up from the entries
abbrev pub facts_of : Rows → Ask → Facts
facts_of rows ask =
    let entry = entry_at rows.entries (number_named ask) in
    let other = other_of ask entry in
    record {
      head = rows.head;
      seats = rows.seats;
      count = length rows.entries;
      available = available rows.entries;
      ledger = ledger rows.entries;
      pending = pending rows.entries;
      entry = entry;
      other = entry_at rows.entries other;
      left = left_in rows.entries other (entry_at rows.entries other);
    }
