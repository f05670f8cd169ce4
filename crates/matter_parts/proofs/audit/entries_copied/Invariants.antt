use Rattle.matter_parts.proofs.Names.{◌≡◌, take, entries_kept}
use Rattle.matter_parts.proofs.audit.entries_copied.Given as goal

abbrev pub invariant-loop-one : goal.invariant-loop-one
invariant-loop-one l = l.entries.items ≡ entries_kept (take l.one-index l.kept)
