use Rattle.desk_laws.proofs.DismissedLines.{dismissed-once}
use Rattle.desk_laws.proofs.laws.dismissed_once.Goals as goal

pub returns : goal.returns
returns c = dismissed-once
