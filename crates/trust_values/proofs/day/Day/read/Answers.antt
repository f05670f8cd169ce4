use Rattle.trust_values.proofs.DayFacts.{day_of_is}
use Rattle.trust_values.proofs.day.Day.read.Goals as goal

pub returns-clause-value : goal.returns-clause-value
returns-clause-value c = let e = c.read_day.ensures in day_of_is _ _ e.range e.some e.none
