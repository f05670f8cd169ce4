-- A book that was just made.
use Rattle.sql_making.proofs.Names.{◌≡◌, ℤ, List, [], map, refl, ap, Row, column, Database, Made, Head, head_row, head_in, Seat, seat_row, seat_in, Entry, entry_row, entry_in, Movement, movement_row, movement_in, FirmLine, firm_line_row, firm_line_in, Exception, exception_row, exception_in, Balance, balance_row, balance_in, Act, act_row, act_in, Holds, Stands, IsBook, IsNewBook}

-- it is one that may be taken
pub is_book : (db : Database) → IsNewBook db → IsBook Made db
is_book db new = record { schema = new.schema; version = ap (map (λ (r : Row). column r 1)) new.version }

-- a table without rows holds no record
pub holds_none : {X : Type 0} (to_row : X → Row) (of_row : Row → X) (key : X → ℤ) (rows : List Row) → rows ≡ [] → Holds to_row of_row key rows
holds_none to_row of_row key rows none = record { stored = rw none refl; rise = rw none tt }

-- and its tables stand
pub new_book_stands : (db : Database) → IsNewBook db → Stands Made db
new_book_stands db new = record {
  schema = new.schema;
  version = ap (map (λ (r : Row). column r 1)) new.version;
  heads = holds_none head_row head_in (λ (x : Head). x.no) _ new.others.0;
  seats = holds_none seat_row seat_in (λ (x : Seat). x.id) _ new.others.1.0;
  entries = holds_none entry_row entry_in (λ (x : Entry). x.id) _ new.others.1.1.0;
  movements = holds_none movement_row movement_in (λ (x : Movement). x.seq) _ new.others.1.1.1.0;
  firm_lines = holds_none firm_line_row firm_line_in (λ (x : FirmLine). x.seq) _ new.others.1.1.1.1.1.0;
  exceptions = holds_none exception_row exception_in (λ (x : Exception). x.id) _ new.others.1.1.1.1.1.1.0;
  balances = holds_none balance_row balance_in (λ (x : Balance). x.id) _ new.others.1.1.1.1.1.1.1.0;
  acts = holds_none act_row act_in (λ (x : Act). x.seq) _ new.others.1.1.1.1.1.1.1.1.0;
}
