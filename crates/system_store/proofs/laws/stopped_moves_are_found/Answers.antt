use Rattle.system_store.proofs.Runs.{moves_found}
use Rattle.system_store.proofs.laws.stopped_moves_are_found.Goals as goal

pub returns : goal.returns
returns g c = moves_found g.D.Disk g.E.Disk
