use Rattle.firm_rows.proofs.Names.{arith, ints, balance_of}
use Rattle.firm_rows.proofs.Sums.{sum-append}
use Rattle.firm_rows.proofs.ledger.FirmLedger.add.Goals as goal

pub invariant_of-self-2 : goal.invariant_of-self-2
invariant_of-self-2 c = grind (arith, ints, balance_of, sum-append)
