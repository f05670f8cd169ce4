use Rattle.firm_audit.proofs.Refuted.{refuted}
use Rattle.firm_audit.proofs.laws.flawed_is_unsound.Goals as goal

pub returns : goal.returns
returns c = λ firm f is sound. refuted firm sound f is
