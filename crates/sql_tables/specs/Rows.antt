-- The rows of the tables as records, in rowid order.
use Rattle.std.specs.Prelude.{ℕ, ℤ, Bool, List, [], ◌∷◌, ◌++◌, map, filter, if◌then◌else◌, ◌&&◌, int_lt, not, pos}
use Rattle.std.specs.declared.cmp.Ordering.{Ordering}
use Rattle.std.specs.Ordering.{on, then_cmp, int_cmp, int_eq, nat_cmp, is_eq}
use Rattle.std.specs.Cmp.Lexicographic.{slice_cmp}
use Rattle.std.specs.List.{list_any}
use Rattle.sqlite_value.specs.declared.value.Value.TheVariants.{Null, Int, Text}
use Rattle.sqlite_value.specs.Order.{Row, column, bytes}
use Rattle.sqlite_trees.specs.Tree.{Trees}
use Rattle.sqlite_rules.specs.Edit.{id_in}
use Rattle.sqlite_keyed.specs.Lists.{sort_by, update_where, delete_where}
use Rattle.sqlite_keyed.specs.Keyed.{insert_by, next_key}
use Rattle.sql_schema.specs.declared.layout.Layout.{Layout}
use Rattle.sql_schema.specs.Schema.{matter_tree, seat_tree, entry_tree, journal_tree, firm_line_tree, exception_tree, balance_tree, act_tree}
use Rattle.sql_tables.specs.declared.columns.TotalsColumns.{TotalsColumns}

-- compares texts byte by byte
abbrev pub text_cmp : List ℕ → List ℕ → Ordering
text_cmp = slice_cmp nat_cmp

abbrev pub same_text : List ℕ → List ℕ → Bool
same_text a b = is_eq (text_cmp a b)

-- ---- a matter's head with its stored totals. The column that is the rowid is stored as NULL

pub record Head : Type 0 where
  pub no : ℤ
  pub client : List ℕ
  pub opened : ℤ
  pub closed : ℤ
  pub last : ℤ
  pub entries : ℤ
  pub held : ℤ
  pub available : ℤ
  pub disputed : ℤ
  pub fees : ℤ
  pub claims : ℤ
  pub pending : ℤ
  pub purged : ℤ

-- the columns that its query shows
abbrev pub head_shown : Head → Row
head_shown h = Text h.client ∷ Int h.opened ∷ Int h.closed ∷ Int h.last ∷ Int h.entries ∷ Int h.held ∷ Int h.available ∷
    Int h.disputed ∷ Int h.fees ∷ Int h.claims ∷ Int h.pending ∷ Int h.purged ∷ []

-- the columns that the query for the next head shows
abbrev pub next_shown : Head → Row
next_shown h = Text h.client ∷ Int h.opened ∷ Int h.closed ∷ Int h.last ∷ Int h.entries ∷ Int h.held ∷ Int h.available ∷
    Int h.disputed ∷ Int h.fees ∷ Int h.claims ∷ Int h.pending ∷ Int h.purged ∷ Int h.no ∷ []

-- the column that the query for the numbers of all heads shows
abbrev pub no_shown : Head → Row
no_shown h = Int h.no ∷ []

abbrev pub head_values : Head → Row
head_values h = Int h.no ∷ head_shown h

abbrev pub head_row : Head → Row
head_row h = Int h.no ∷ Null ∷ head_shown h

abbrev pub head_in : Row → Head
head_in r = record {
  no = id_in (column r 0);
  client = bytes (column r 2);
  opened = id_in (column r 3);
  closed = id_in (column r 4);
  last = id_in (column r 5);
  entries = id_in (column r 6);
  held = id_in (column r 7);
  available = id_in (column r 8);
  disputed = id_in (column r 9);
  fees = id_in (column r 10);
  claims = id_in (column r 11);
  pending = id_in (column r 12);
  purged = id_in (column r 13);
}

abbrev pub heads_in : Layout → Trees → List Head
heads_in l db = map head_in (db (matter_tree l))

abbrev pub is_head : ℤ → Head → Bool
is_head n h = int_eq h.no n

-- the number of the head is greater than `n`
abbrev pub is_past : ℤ → Head → Bool
is_past n h = int_lt n h.no

-- the heads with this one replacing the one that has its number, if any
abbrev pub put_head : Head → List Head → List Head
put_head new heads = insert_by (λ (h : Head). h.no) (delete_where (is_head new.no) heads) new

abbrev pub totals_values : TotalsColumns → Row
totals_values t = Int t.no ∷ Int t.last ∷ Int t.entries ∷ Int t.held ∷ Int t.available ∷ Int t.disputed ∷ Int t.fees ∷
    Int t.claims ∷ Int t.pending ∷ []

-- a head with this last day and these totals
abbrev pub with_totals : TotalsColumns → Head → Head
with_totals t h = record h {
  last = t.last;
  entries = t.entries;
  held = t.held;
  available = t.available;
  disputed = t.disputed;
  fees = t.fees;
  claims = t.claims;
  pending = t.pending;
}

-- a head that is closed on this day
abbrev pub with_closing : ℤ → Head → Head
with_closing day h = record h { closed = day }

-- a head that is purged on this day
abbrev pub with_purge : ℤ → Head → Head
with_purge day h = record h { client = []; purged = day }

-- the heads with the one of this number changed, if it exists
abbrev pub change_head : ℤ → (Head → Head) → List Head → List Head
change_head n = update_where (is_head n)

-- ---- a seat

pub record Seat : Type 0 where
  pub id : ℤ
  pub matter : ℤ
  pub person : List ℕ
  pub role : ℤ

abbrev pub seat_values : Seat → Row
seat_values s = Int s.matter ∷ Text s.person ∷ Int s.role ∷ []

abbrev pub seat_row : Seat → Row
seat_row s = Int s.id ∷ seat_values s

abbrev pub seat_in : Row → Seat
seat_in r = record {
  id = id_in (column r 0);
  matter = id_in (column r 1);
  person = bytes (column r 2);
  role = id_in (column r 3);
}

abbrev pub seats_in : Layout → Trees → List Seat
seats_in l db = map seat_in (db (seat_tree l))

-- by person in byte order, then by rowid
abbrev pub seat_cmp : Seat → Seat → Ordering
seat_cmp a b = then_cmp (on (λ (s : Seat). s.person) text_cmp) (on (λ (s : Seat). s.id) int_cmp) a b

abbrev pub is_seat_of : ℤ → Seat → Bool
is_seat_of matter s = int_eq s.matter matter

-- the seats of a matter, by person
abbrev pub seats_of : ℤ → List Seat → List Seat
seats_of matter seats = sort_by seat_cmp (filter (is_seat_of matter) seats)

abbrev pub seat_shown : Seat → Row
seat_shown s = Text s.person ∷ Int s.role ∷ []

-- whether this is the seat of a person in a matter
abbrev pub is_seat : ℤ → List ℕ → Seat → Bool
is_seat matter person s = int_eq s.matter matter && same_text s.person person

-- the seats with this one added after the others
abbrev pub add_seat : Seat → List Seat → List Seat
add_seat new seats = seats ++ record new { id = next_key (λ (s : Seat). s.id) seats } ∷ []

-- ---- an entry

pub record Entry : Type 0 where
  pub id : ℤ
  pub matter : ℤ
  pub no : ℤ
  pub kind : ℤ
  pub day : ℤ
  pub amount : ℤ
  pub state : ℤ
  pub fund : ℤ
  pub of_no : ℤ
  pub text_a : List ℕ
  pub text_b : List ℕ
  pub text_c : List ℕ
  pub day_done : ℤ
  pub day_undone : ℤ
  pub day_bank : ℤ
  pub bank_ref : List ℕ
  pub part : ℤ
  pub left_now : ℤ

-- the columns that its query shows
abbrev pub entry_shown : Entry → Row
entry_shown e = Int e.kind ∷ Int e.day ∷ Int e.amount ∷ Int e.state ∷ Int e.fund ∷ Int e.of_no ∷ Text e.text_a ∷
    Text e.text_b ∷ Text e.text_c ∷ Int e.day_done ∷ Int e.day_undone ∷ Int e.day_bank ∷ Text e.bank_ref ∷ Int e.part ∷
    Int e.left_now ∷ []

-- the columns that the query for all entries of a matter shows
abbrev pub numbered_shown : Entry → Row
numbered_shown e = Int e.no ∷ entry_shown e

abbrev pub entry_values : Entry → Row
entry_values e = Int e.matter ∷ numbered_shown e

abbrev pub entry_row : Entry → Row
entry_row e = Int e.id ∷ entry_values e

abbrev pub entry_in : Row → Entry
entry_in r = record {
  id = id_in (column r 0);
  matter = id_in (column r 1);
  no = id_in (column r 2);
  kind = id_in (column r 3);
  day = id_in (column r 4);
  amount = id_in (column r 5);
  state = id_in (column r 6);
  fund = id_in (column r 7);
  of_no = id_in (column r 8);
  text_a = bytes (column r 9);
  text_b = bytes (column r 10);
  text_c = bytes (column r 11);
  day_done = id_in (column r 12);
  day_undone = id_in (column r 13);
  day_bank = id_in (column r 14);
  bank_ref = bytes (column r 15);
  part = id_in (column r 16);
  left_now = id_in (column r 17);
}

abbrev pub entries_in : Layout → Trees → List Entry
entries_in l db = map entry_in (db (entry_tree l))

abbrev pub is_entry_of : ℤ → Entry → Bool
is_entry_of matter e = int_eq e.matter matter

-- whether this is the entry of a matter with this number
abbrev pub is_entry_at : ℤ → ℤ → Entry → Bool
is_entry_at matter n e = int_eq e.matter matter && int_eq e.no n

abbrev pub is_entry : Entry → Entry → Bool
is_entry new = is_entry_at new.matter new.no

-- by number, then by rowid
abbrev pub entry_cmp : Entry → Entry → Ordering
entry_cmp a b = then_cmp (on (λ (e : Entry). e.no) int_cmp) (on (λ (e : Entry). e.id) int_cmp) a b

-- the entries of a matter, by number
abbrev pub entries_of : ℤ → List Entry → List Entry
entries_of matter entries = sort_by entry_cmp (filter (is_entry_of matter) entries)

-- the entries with this one replacing the one that has its number, if any
abbrev pub put_entry : Entry → List Entry → List Entry
put_entry new entries = insert_by (λ (e : Entry). e.id) (delete_where (is_entry new) entries)
    (record new { id = next_key (λ (e : Entry). e.id) entries })

abbrev pub with_left : ℤ → Entry → Entry
with_left left e = record e { left_now = left }

-- the entries with what is left of one entry changed, if it exists
abbrev pub put_left : ℤ → ℤ → ℤ → List Entry → List Entry
put_left matter n left = update_where (is_entry_at matter n) (with_left left)

-- ---- a movement of the journal

pub record Movement : Type 0 where
  pub seq : ℤ
  pub matter : ℤ
  pub entry : ℤ
  pub day : ℤ
  pub amount : ℤ

abbrev pub movement_values : Movement → Row
movement_values m = Int m.matter ∷ Int m.entry ∷ Int m.day ∷ Int m.amount ∷ []

abbrev pub movement_row : Movement → Row
movement_row m = Int m.seq ∷ Null ∷ movement_values m

abbrev pub movement_in : Row → Movement
movement_in r = record {
  seq = id_in (column r 0);
  matter = id_in (column r 2);
  entry = id_in (column r 3);
  day = id_in (column r 4);
  amount = id_in (column r 5);
}

abbrev pub movements_in : Layout → Trees → List Movement
movements_in l db = map movement_in (db (journal_tree l))

abbrev pub is_movement_of : ℤ → Movement → Bool
is_movement_of matter m = int_eq m.matter matter

-- ---- an act of a matter, or a dismissal, which is of no matter: it has matter 0

pub record Act : Type 0 where
  pub seq : ℤ
  pub matter : ℤ
  pub entry : ℤ
  pub day : ℤ
  pub deed : ℤ
  pub caller : List ℕ
  pub text : List ℕ
  pub number : ℤ

abbrev pub act_values : Act → Row
act_values a = Int a.matter ∷ Int a.entry ∷ Int a.day ∷ Int a.deed ∷ Text a.caller ∷ Text a.text ∷ Int a.number ∷ []

abbrev pub act_row : Act → Row
act_row a = Int a.seq ∷ Null ∷ act_values a

abbrev pub act_in : Row → Act
act_in r = record {
  seq = id_in (column r 0);
  matter = id_in (column r 2);
  entry = id_in (column r 3);
  day = id_in (column r 4);
  deed = id_in (column r 5);
  caller = bytes (column r 6);
  text = bytes (column r 7);
  number = id_in (column r 8);
}

abbrev pub acts_in : Layout → Trees → List Act
acts_in l db = map act_in (db (act_tree l))

abbrev pub is_act_of : ℤ → Act → Bool
is_act_of matter a = int_eq a.matter matter

-- the acts of matters, and the dismissals
abbrev pub acts_among : List Act → List Act
acts_among acts = filter (λ a. not (is_act_of (pos 0) a)) acts

abbrev pub dismissals_among : List Act → List Act
dismissals_among acts = filter (is_act_of (pos 0)) acts

-- ---- a line of the firm's own ledger

pub record FirmLine : Type 0 where
  pub seq : ℤ
  pub day : ℤ
  pub bank_ref : List ℕ
  pub amount : ℤ
  pub text : List ℕ

abbrev pub firm_line_values : FirmLine → Row
firm_line_values f = Int f.day ∷ Text f.bank_ref ∷ Int f.amount ∷ Text f.text ∷ []

abbrev pub firm_line_row : FirmLine → Row
firm_line_row f = Int f.seq ∷ Null ∷ firm_line_values f

abbrev pub firm_line_in : Row → FirmLine
firm_line_in r = record {
  seq = id_in (column r 0);
  day = id_in (column r 2);
  bank_ref = bytes (column r 3);
  amount = id_in (column r 4);
  text = bytes (column r 5);
}

abbrev pub firm_lines_in : Layout → Trees → List FirmLine
firm_lines_in l db = map firm_line_in (db (firm_line_tree l))

-- ---- a bank line that matched nothing

pub record Exception : Type 0 where
  pub id : ℤ
  pub day : ℤ
  pub reference : List ℕ
  pub bank_ref : List ℕ
  pub amount : ℤ
  pub text : List ℕ

abbrev pub exception_values : Exception → Row
exception_values e = Int e.day ∷ Text e.reference ∷ Text e.bank_ref ∷ Int e.amount ∷ Text e.text ∷ []

abbrev pub exception_row : Exception → Row
exception_row e = Int e.id ∷ exception_values e

abbrev pub exception_in : Row → Exception
exception_in r = record {
  id = id_in (column r 0);
  day = id_in (column r 1);
  reference = bytes (column r 2);
  bank_ref = bytes (column r 3);
  amount = id_in (column r 4);
  text = bytes (column r 5);
}

abbrev pub exceptions_in : Layout → Trees → List Exception
exceptions_in l db = map exception_in (db (exception_tree l))

-- whether two exceptions are the same bank line, apart from their rowids
abbrev pub is_exception : Exception → Exception → Bool
is_exception new e = int_eq e.day new.day && (same_text e.reference new.reference
    && (same_text e.bank_ref new.bank_ref && (int_eq e.amount new.amount && same_text e.text new.text)))

-- by all columns in turn
abbrev pub exception_cmp : Exception → Exception → Ordering
exception_cmp a b = then_cmp (on (λ (e : Exception). e.day) int_cmp)
    (then_cmp (on (λ (e : Exception). e.reference) text_cmp)
    (then_cmp (on (λ (e : Exception). e.bank_ref) text_cmp)
    (then_cmp (on (λ (e : Exception). e.amount) int_cmp)
    (then_cmp (on (λ (e : Exception). e.text) text_cmp)
    (on (λ (e : Exception). e.id) int_cmp))))) a b

-- the exceptions with this one added after the others, unless it is already among them
abbrev pub note_exception : Exception → List Exception → List Exception
note_exception new noted = if list_any (is_exception new) noted then noted
    else noted ++ record new { id = next_key (λ (e : Exception). e.id) noted } ∷ []

-- ---- an opening or closing balance of a bank statement

pub record Balance : Type 0 where
  pub id : ℤ
  pub kind : ℤ
  pub day : ℤ
  pub amount : ℤ

abbrev pub balance_values : Balance → Row
balance_values b = Int b.kind ∷ Int b.day ∷ Int b.amount ∷ []

abbrev pub balance_row : Balance → Row
balance_row b = Int b.id ∷ balance_values b

abbrev pub balance_in : Row → Balance
balance_in r = record {
  id = id_in (column r 0);
  kind = id_in (column r 1);
  day = id_in (column r 2);
  amount = id_in (column r 3);
}

abbrev pub balances_in : Layout → Trees → List Balance
balances_in l db = map balance_in (db (balance_tree l))

abbrev pub is_balance_at : ℤ → ℤ → Balance → Bool
is_balance_at kind day b = int_eq b.kind kind && int_eq b.day day

abbrev pub balance_shown : Balance → Row
balance_shown b = Int b.amount ∷ []

-- by kind, then by day
abbrev pub balance_cmp : Balance → Balance → Ordering
balance_cmp a b = then_cmp (on (λ (b : Balance). b.kind) int_cmp)
    (then_cmp (on (λ (b : Balance). b.day) int_cmp)
    (on (λ (b : Balance). b.id) int_cmp)) a b

-- the balances with this one added after the others
abbrev pub add_balance : Balance → List Balance → List Balance
add_balance new balances = balances ++ record new { id = next_key (λ (b : Balance). b.id) balances } ∷ []
