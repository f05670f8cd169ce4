use Rattle.firm_audit.proofs.Names.{◌≡◌, ◌↔◌, ◌≤◌, drop, events_of, events_moved}
use Rattle.firm_audit.proofs.event.is_moved.Given as goal

abbrev pub invariant-loop-movement : goal.invariant-loop-movement
invariant-loop-movement l = record {
  few : l.place ≤ l.movement-index;
  rest : (events_moved l.matter l.number (drop l.movement-index l.movements) ≡ drop l.place (events_of l.entry))
      ↔ (events_moved l.matter l.number l.movements ≡ events_of l.entry);
}
