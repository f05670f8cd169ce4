use Rattle.firm_audit.proofs.Names.{◌≡◌, take, moved_of}
use Rattle.firm_audit.proofs.matter_journal.movements_of.Given as goal

abbrev pub invariant-loop-movement : goal.invariant-loop-movement
invariant-loop-movement l = l.own.items ≡ moved_of l.matter (take l.movement-index l.movements)
