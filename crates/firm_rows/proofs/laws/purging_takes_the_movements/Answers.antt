use Rattle.firm_rows.proofs.Clearing.{purged-moves-nothing, purge-leaves-others}
use Rattle.firm_rows.proofs.laws.purging_takes_the_movements.Goals as goal

pub returns-clause-own : goal.returns-clause-own
returns-clause-own c = purged-moves-nothing

pub returns-clause-others : goal.returns-clause-others
returns-clause-others c = purge-leaves-others
