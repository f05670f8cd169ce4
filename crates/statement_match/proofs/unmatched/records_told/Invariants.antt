use Rattle.statement_match.proofs.Names.{◌≡◌, ◌++◌, drop, own_before, told, told_from}
use Rattle.statement_match.proofs.unmatched.records_told.Given as goal

abbrev pub invariant-loop-place : goal.invariant-loop-place
invariant-loop-place l = record {
  lines : told l.today l.grounds.known l.fn.ledger l.records
      ≡ l.found.items
      ++ told_from l.today l.grounds.known l.fn.ledger l.records l.before l.place (drop l.place l.records.lines);
  own : l.own ≡ own_before l.today l.fn.ledger l.records.lines l.place;
}
