use Rattle.sql_book.proofs.Stops.{holds_either}
use Rattle.sql_book.proofs.laws.stops_in_moving_leave_books.Goals as goal

pub returns : goal.returns
returns g c = holds_either g.T.Store
