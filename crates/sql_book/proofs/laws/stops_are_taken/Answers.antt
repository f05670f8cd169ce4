use Rattle.sql_book.proofs.Stops.{is_taken}
use Rattle.sql_book.proofs.laws.stops_are_taken.Goals as goal

pub returns : goal.returns
returns g c = is_taken g.S.Store g.T.Store
