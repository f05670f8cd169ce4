use Rattle.matter_laws.proofs.Purging.{stub-is-sound, purged-stays}
use Rattle.matter_laws.proofs.laws.purging_is_last.Goals as goal

pub returns : goal.returns
returns c = record { stays = purged-stays; stub = stub-is-sound }
