use Rattle.statement_match.proofs.Filling.{fills_what_is_sure}
use Rattle.statement_match.proofs.Writing.{writes_what_is_sure}
use Rattle.statement_match.proofs.laws.what_is_sure_is_filled.Goals as goal

pub returns : goal.returns
returns c = record { filled = fills_what_is_sure; written = writes_what_is_sure }
