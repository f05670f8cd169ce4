use Rattle.sql_book.proofs.Stops.{is_of_firm}
use Rattle.sql_book.proofs.laws.books_are_taken.Goals as goal

pub returns : goal.returns
returns g c = is_of_firm g.T.Store
