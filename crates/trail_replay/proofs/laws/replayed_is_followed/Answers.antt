use Rattle.trail_replay.proofs.Follows.{misfit-is_not_replayed, replayed-follows}
use Rattle.trail_replay.proofs.Signing.{replayed-is_signed}
use Rattle.trail_replay.proofs.laws.replayed_is_followed.Goals as goal

pub returns : goal.returns
returns c = record { follows = replayed-follows; misfit = misfit-is_not_replayed; signed = replayed-is_signed }
