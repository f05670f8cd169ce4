use Rattle.trail_laws.proofs.Signed.{seats-follow_acts}
use Rattle.trail_laws.proofs.laws.seats_follow_acts.Goals as goal

pub returns : goal.returns
returns c = seats-follow_acts
