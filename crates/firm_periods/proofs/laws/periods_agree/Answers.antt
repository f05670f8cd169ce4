use Rattle.firm_periods.proofs.Named.{moves-events, periods-agree, waits-agree}
use Rattle.firm_periods.proofs.laws.periods_agree.Goals as goal

pub returns-clause-moves : goal.returns-clause-moves
returns-clause-moves c = moves-events

pub returns-clause-change : goal.returns-clause-change
returns-clause-change c = periods-agree

pub returns-clause-waits : goal.returns-clause-waits
returns-clause-waits c = waits-agree
