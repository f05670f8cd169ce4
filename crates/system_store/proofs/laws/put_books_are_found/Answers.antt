use Rattle.system_store.proofs.Runs.{put_found}
use Rattle.system_store.proofs.laws.put_books_are_found.Goals as goal

pub returns : goal.returns
returns g c = put_found g.D.Disk g.E.Disk
