use Rattle.desk_laws.proofs.MatchedAgain.{filled_lines_are_in_book}
use Rattle.desk_laws.proofs.laws.filled_lines_are_in_book.Goals as goal

pub returns : goal.returns
returns c = filled_lines_are_in_book
