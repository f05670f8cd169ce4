use Rattle.statement_match.proofs.Filling.{two_entries_are_left, two_lines_are_left}
use Rattle.statement_match.proofs.laws.two_alike_are_left.Goals as goal

pub returns : goal.returns
returns c = record { entries = two_entries_are_left; lines = two_lines_are_left }
