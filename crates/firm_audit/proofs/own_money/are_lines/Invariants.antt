use Rattle.firm_audit.proofs.Names.{◌≡◌, ◌↔◌, ◌≤◌, drop, map, firm_events, line_event}
use Rattle.firm_audit.proofs.own_money.are_lines.Given as goal

abbrev pub invariant-loop-movement : goal.invariant-loop-movement
invariant-loop-movement l = record {
  few : l.place ≤ l.movement-index;
  rest : (firm_events (drop l.movement-index l.movements) ≡ drop l.place (map line_event l.lines))
      ↔ (firm_events l.movements ≡ map line_event l.lines);
}
