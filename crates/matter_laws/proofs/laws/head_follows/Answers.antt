use Rattle.matter_laws.proofs.HeadSteps.{opening-opens, closing-closes, seat-is_added, seat-is_dropped, purging-purges}
use Rattle.matter_laws.proofs.laws.head_follows.Goals as goal

pub returns : goal.returns
returns c = record { opening = opening-opens; closing = closing-closes; seated = seat-is_added; unseated = seat-is_dropped; purging = purging-purges }
