-- The columns that the code passes, as records. The table itself assigns the rowid.
use Rattle.std.specs.Prelude.{pos}
use Rattle.sql_tables.specs.declared.columns.HeadColumns.{HeadColumns}
use Rattle.sql_tables.specs.declared.columns.SeatColumns.{SeatColumns}
use Rattle.sql_tables.specs.declared.columns.EntryColumns.{EntryColumns}
use Rattle.sql_tables.specs.declared.columns.MovementColumns.{MovementColumns}
use Rattle.sql_tables.specs.declared.columns.ActColumns.{ActColumns}
use Rattle.sql_tables.specs.declared.columns.FirmLineColumns.{FirmLineColumns}
use Rattle.sql_tables.specs.declared.columns.ExceptionColumns.{ExceptionColumns}
use Rattle.sql_tables.specs.declared.columns.BalanceColumns.{BalanceColumns}
use Rattle.sql_tables.specs.Rows.{Head, Seat, Entry, Movement, FirmLine, Exception, Balance, Act}

abbrev pub head_given : HeadColumns → Head
head_given h = record {
  no = h.no;
  client = h.client.now;
  opened = h.opened;
  closed = h.closed;
  last = h.last;
  entries = h.entries;
  held = h.held;
  available = h.available;
  disputed = h.disputed;
  fees = h.fees;
  claims = h.claims;
  pending = h.pending;
  purged = h.purged;
}

abbrev pub seat_given : SeatColumns → Seat
seat_given s = record { id = pos 0; matter = s.matter; person = s.person.now; role = s.role }

abbrev pub entry_given : EntryColumns → Entry
entry_given n = record {
  id = pos 0;
  matter = n.matter;
  no = n.no;
  kind = n.kind;
  day = n.day;
  amount = n.amount;
  state = n.state;
  fund = n.fund;
  of_no = n.of_no;
  text_a = n.text_a.now;
  text_b = n.text_b.now;
  text_c = n.text_c.now;
  day_done = n.day_done;
  day_undone = n.day_undone;
  day_bank = n.day_bank;
  bank_ref = n.bank_ref.now;
  part = n.part;
  left_now = n.left_now;
}

abbrev pub movement_given : MovementColumns → Movement
movement_given m = record { seq = pos 0; matter = m.matter; entry = m.entry; day = m.day; amount = m.amount }

abbrev pub act_given : ActColumns → Act
act_given a = record {
  seq = pos 0;
  matter = a.matter;
  entry = a.entry;
  day = a.day;
  deed = a.deed;
  caller = a.caller.now;
  text = a.text.now;
  number = a.number;
}

abbrev pub firm_line_given : FirmLineColumns → FirmLine
firm_line_given f = record { seq = pos 0; day = f.day; bank_ref = f.bank_ref.now; amount = f.amount; text = f.text.now }

abbrev pub exception_given : ExceptionColumns → Exception
exception_given e = record {
  id = pos 0;
  day = e.day;
  reference = e.reference.now;
  bank_ref = e.bank_ref.now;
  amount = e.amount;
  text = e.text.now;
}

abbrev pub balance_given : BalanceColumns → Balance
balance_given b = record { id = pos 0; kind = b.kind; day = b.day; amount = b.amount }
