use Rattle.statement_lines.proofs.Names.{◌≡◌, ◌<◌, ◌≤◌, map, Line, Rows, lines_from, numbers_from, Adds, HasLeft, LineOutcome}
use Rattle.statement_lines.proofs.Passing.{IsMet}
use Rattle.statement_lines.proofs.writing.write_left.Given as goal

abbrev pub invariant-loop-row : goal.invariant-loop-row
invariant-loop-row g l = record {
  behind : l.place ≤ l.number;
  left : (outcome_of : Line → LineOutcome) (all : Rows) → HasLeft l.fn.rows all
      → l.numbers ≡ numbers_from 1 all → l.outcomes ≡ map outcome_of (lines_from 1 all)
      → (0 < l.row-iterator.left) × ((left : Rows) × HasLeft l.row-iterator.rdr.now left
      × ((done : Rows) × IsMet outcome_of l.numbers l.outcomes all l.number l.place left done
      × Adds g.W.Write.contents l.initial.writer l.writer done));
}
