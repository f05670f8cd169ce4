use Rattle.firm_periods.proofs.PacketParts.{month-parted}
use Rattle.firm_periods.proofs.laws.months_are_parted.Goals as goal

pub returns : goal.returns
returns c = month-parted
