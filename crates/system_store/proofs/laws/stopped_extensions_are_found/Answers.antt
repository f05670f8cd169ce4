use Rattle.system_store.proofs.Runs.{extensions_found}
use Rattle.system_store.proofs.laws.stopped_extensions_are_found.Goals as goal

pub returns : goal.returns
returns g c = extensions_found g.D.Disk g.E.Disk
