use Rattle.std.proofs.Common.{take}
use Rattle.matter_rows.specs.Rows.{unopened}
use Rattle.matter_parts.specs.Audit.{rows_kept}
use Rattle.trail_laws.specs.Replayed.{own_by}
use Rattle.trail_replay.specs.Follows.{Follow}
use Rattle.trail_replay.specs.Telling.{IsGood}
use Rattle.trail_replay.proofs.replay.replayed.Given as goal

-- the acts so far follow, from nothing to the rows made
abbrev pub invariant-loop-place : goal.invariant-loop-place
invariant-loop-place l = record {
  good : IsGood l.made;
  followed : Follow (own_by l.number (rows_kept l.matter)) unopened (take l.place l.acts) (rows_kept l.made);
}
