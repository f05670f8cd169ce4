use Rattle.firm_rows.proofs.FirmChanges.{changes-one}
use Rattle.firm_rows.proofs.laws.changes_one_matter.Goals as goal

pub returns : goal.returns
returns c = changes-one
