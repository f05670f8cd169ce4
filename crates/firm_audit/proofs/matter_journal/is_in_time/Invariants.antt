use Rattle.firm_audit.proofs.Names.{◌↔◌, drop, map, RiseWithin}
use Rattle.firm_audit.proofs.matter_journal.is_in_time.Given as goal

abbrev pub invariant-loop-movement : goal.invariant-loop-movement
invariant-loop-movement l =
    RiseWithin l.before l.last (map (λ v. v.day) (drop l.movement-index l.own))
    ↔ RiseWithin 0 l.last (map (λ v. v.day) l.own)
