use Rattle.system_store.proofs.Runs.{stopped_found}
use Rattle.system_store.proofs.laws.stopped_books_are_found.Goals as goal

pub returns : goal.returns
returns g c = stopped_found g.D.Disk g.E.Disk
