use Rattle.matter_rows.proofs.Lefts.{fee-left, claim-left}
use Rattle.matter_laws.proofs.laws.lefts_are_sums.Goals as goal

pub returns : goal.returns
returns c = record { fees = fee-left; claims = claim-left }
