use Rattle.statement_csv.proofs.Names.{rules}
use Rattle.statement_csv.proofs.GivenFacts.{stands-start}
use Rattle.statement_csv.proofs.item.Lines.of_whole.Goals as goal

pub invariant_of-result : goal.invariant_of-result
invariant_of-result g c = search (rules, stands-start)
