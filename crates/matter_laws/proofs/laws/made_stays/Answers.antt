use Rattle.matter_laws.proofs.Repeats.{made-stays, made-stays-or-goes, lines-leave-made}
use Rattle.matter_laws.proofs.laws.made_stays.Goals as goal

pub returns : goal.returns
returns c = record { asks = made-stays; or_goes = made-stays-or-goes; lines = lines-leave-made }
