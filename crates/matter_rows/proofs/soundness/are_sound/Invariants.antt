use Rattle.matter_rows.proofs.Names.{AllByRecursion, ◌↔◌, drop, IsSoundEntry}
use Rattle.matter_rows.proofs.soundness.are_sound.Given as goal

abbrev pub invariant-loop-entry : goal.invariant-loop-entry
invariant-loop-entry l = AllByRecursion (IsSoundEntry l.head l.entries) l.entries ↔ AllByRecursion (IsSoundEntry l.head l.entries) (drop l.entry-index l.entries)
