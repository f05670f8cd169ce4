use Rattle.std.proofs.Common.{◌≡◌, length, take}
use Rattle.matter_parts.specs.Parts.{entries_kept}
use Rattle.trail_replay.proofs.same.are_same_entries.Given as goal

abbrev pub invariant-loop-place : goal.invariant-loop-place
invariant-loop-place l = record {
  long : length l.kept ≡ length l.others;
  same : take l.place (entries_kept l.kept) ≡ take l.place (entries_kept l.others);
}
