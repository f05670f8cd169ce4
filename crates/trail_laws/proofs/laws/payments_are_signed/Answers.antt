use Rattle.trail_laws.proofs.Approved.{issues-are_approved}
use Rattle.trail_laws.proofs.Signed.{no-acts_are_signed, steps-keep_signed, runs-keep_signed, runs-are_signed}
use Rattle.trail_laws.proofs.laws.payments_are_signed.Goals as goal

pub returns : goal.returns
returns c = record { approved = issues-are_approved; begins = no-acts_are_signed; steps = steps-keep_signed; later_runs = runs-keep_signed; runs = runs-are_signed }
