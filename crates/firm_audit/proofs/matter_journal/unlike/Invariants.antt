use Rattle.firm_audit.proofs.Names.{drop, AreMoved}
use Rattle.firm_audit.proofs.matter_journal.unlike.Given as goal

abbrev pub invariant-loop-one : goal.invariant-loop-one
invariant-loop-one l = AreMoved l.matter (drop l.one-index l.kept) l.own → AreMoved l.matter l.kept l.own
