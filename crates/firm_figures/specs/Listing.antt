-- The lists that go with the figures as of a day, and how they are built from rows that arrive one at a time.
use Rattle.std.specs.Prelude.{ℕ, Bool, cond, nat_le, List, [], ◌∷◌, ◌++◌, ℤ, pos, ◌-ℤ◌, Option, Some, None, if◌then◌else◌}
use Rattle.std.specs.List.{filter, flat_map}
use Rattle.trust_base.specs.declared.line.Line.{Line}
use Rattle.matter_rows.specs.declared.entry.Entry.{Entry}
use Rattle.matter_rows.specs.Clearings.{cleared_amount}
use Rattle.firm_figures.specs.declared.day_lists.EntryLine.{EntryLine}
use Rattle.firm_figures.specs.declared.day_lists.ReconciliationLists.{ReconciliationLists}
use Rattle.firm_rows.specs.Firm.{Row, HeadRow, SeatRow, EntryRow, Firm}
use Rattle.firm_figures.specs.Figures.{booked_on, banked_on, back_on, is_banked_early, is_back_early, is_in_transit, is_outstanding}

-- an entry with its matter and number, one of its days, and the signed amount; empty if it has no such day
abbrev pub entry_line : ℕ → ℕ → Option ℕ → ℤ → List EntryLine
entry_line m n None amount = []
entry_line m n (Some day) amount = record { matter = m; entry = n; day = day; amount = amount } ∷ []

-- the entries that pass a test, each with one of its days
abbrev pub line_where : (Entry → Bool) → (Entry → Option ℕ) → ℕ × Row → List EntryLine
line_where test day (m, HeadRow head) = []
line_where test day (m, SeatRow seat) = []
line_where test day (m, EntryRow n e) = cond (test e) (entry_line m n (day e) (cleared_amount e)) []

-- TRANSIT: the deposits in transit, with the day they were booked
abbrev pub transit_list : ℕ → Firm → List EntryLine
transit_list p firm = flat_map (line_where (is_in_transit p) booked_on) firm.rows

-- OUT: the outstanding payments, with the day of issue
abbrev pub out_list : ℕ → Firm → List EntryLine
out_list p firm = flat_map (line_where (is_outstanding p) booked_on) firm.rows

-- the line that cleared an entry, if it was at the bank before it was booked
abbrev pub banked_line : ℕ → ℕ → ℕ → Entry → List EntryLine
banked_line p m n e = cond (is_banked_early p e) (entry_line m n (banked_on e) (cleared_amount e)) []

-- the line that took the entry back, if it was at the bank before it was booked
abbrev pub back_line : ℕ → ℕ → ℕ → Entry → List EntryLine
back_line p m n e = cond (is_back_early p e) (entry_line m n (back_on e) (pos 0 -ℤ cleared_amount e)) []

-- an entry's bank lines that were at the bank before they were booked: the clearing first, then the return
abbrev pub early_lines : ℕ → ℕ × Row → List EntryLine
early_lines p (m, HeadRow head) = []
early_lines p (m, SeatRow seat) = []
early_lines p (m, EntryRow n e) = banked_line p m n e ++ back_line p m n e

-- EARLY: what was at the bank before it was booked, with the bank's day
abbrev pub early_list : ℕ → Firm → List EntryLine
early_list p firm = flat_map (early_lines p) firm.rows

-- EXCEPTION: the exceptions dated by p
abbrev pub exception_list : ℕ → Firm → List Line
exception_list p firm = filter (λ l. nat_le l.date p) firm.exceptions

-- what the lister stores
pub record Listed : Type 0 where
  pub day : ℕ
  pub transit : List EntryLine
  pub out : List EntryLine
  pub early : List EntryLine
  pub exceptions : List Line

-- these lists as of a day
abbrev pub listed : ℕ → ReconciliationLists → Listed
listed p lists = record {
  day = p;
  transit = lists.transit.items;
  out = lists.out.items;
  early = lists.early.items;
  exceptions = lists.exceptions.items;
}

abbrev pub none_listed : ℕ → Listed
none_listed p = record { day = p; transit = []; out = []; early = []; exceptions = [] }

-- with one more row added to the deposits in transit and the outstanding payments
abbrev pub with_waiting : Listed → ℕ × Row → Listed
with_waiting s row = record s {
  transit = s.transit ++ line_where (is_in_transit s.day) booked_on row;
  out = s.out ++ line_where (is_outstanding s.day) booked_on row;
}

-- with the lines of one more row appended to each list
abbrev pub with_row_listed : Listed → ℕ × Row → Listed
with_row_listed s row = record s {
  transit = s.transit ++ line_where (is_in_transit s.day) booked_on row;
  out = s.out ++ line_where (is_outstanding s.day) booked_on row;
  early = s.early ++ early_lines s.day row;
}

abbrev pub with_exception_listed : Listed → Line → Listed
with_exception_listed s line = if nat_le line.date s.day then record s { exceptions = s.exceptions ++ line ∷ [] } else s
