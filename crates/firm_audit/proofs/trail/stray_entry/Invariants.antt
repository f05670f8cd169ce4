use Rattle.firm_audit.proofs.Names.{AllByRecursion, drop, entries_kept}
use Rattle.firm_audit.specs.Trails.{IsOfEntry}
use Rattle.firm_audit.proofs.trail.stray_entry.Given as goal

abbrev pub invariant-loop-act : goal.invariant-loop-act
invariant-loop-act l =
    AllByRecursion (λ act. IsOfEntry (entries_kept l.kept) act.entry) (drop l.act-index l.acts)
    → AllByRecursion (λ act. IsOfEntry (entries_kept l.kept) act.entry) l.acts
