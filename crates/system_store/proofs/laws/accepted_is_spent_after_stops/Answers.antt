use Rattle.system_store.proofs.SentAgain.{asks-spent, lines-over}
use Rattle.system_store.proofs.laws.accepted_is_spent_after_stops.Goals as goal

pub returns-clause-asks : goal.returns-clause-asks
returns-clause-asks g c = asks-spent g.D.Disk g.E.Disk

pub returns-clause-lines : goal.returns-clause-lines
returns-clause-lines g c = lines-over g.D.Disk g.E.Disk
