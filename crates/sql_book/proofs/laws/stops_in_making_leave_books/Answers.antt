use Rattle.sql_book.proofs.Stops.{holds_new_book}
use Rattle.sql_book.proofs.laws.stops_in_making_leave_books.Goals as goal

pub returns : goal.returns
returns g c = λ trees conn. holds_new_book g.T.Store trees conn c.empty_tables_stand.ensures
