use Rattle.firm_audit.proofs.Names.{drop, AllByRecursion, moved_of, IsJournal}
use Rattle.firm_audit.proofs.journal.first_flaw.Given as goal

abbrev pub invariant-loop-kept : goal.invariant-loop-kept
invariant-loop-kept l =
    AllByRecursion (λ k. IsJournal k (moved_of k.number l.movements)) (drop l.kept-index l.matters)
    → AllByRecursion (λ k. IsJournal k (moved_of k.number l.movements)) l.matters
