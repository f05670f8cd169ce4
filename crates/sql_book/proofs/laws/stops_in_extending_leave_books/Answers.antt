use Rattle.sql_book.proofs.Stops.{holds_bare}
use Rattle.sql_book.proofs.laws.stops_in_extending_leave_books.Goals as goal

pub returns : goal.returns
returns g c = holds_bare g.T.Store
