use Rattle.firm_rows.proofs.Names.{◌≡◌, take}
use Rattle.firm_rows.proofs.ledger.FirmLedger.copied.Given as goal

abbrev pub invariant-loop-line : goal.invariant-loop-line
invariant-loop-line l = l.lines.items ≡ take l.line-index l.self
