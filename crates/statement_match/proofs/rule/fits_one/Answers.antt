use Rattle.statement_match.proofs.Names.{waiting_key, amount_key, fits_narrows, counted, arith, ints, nat_tests}
use Rattle.statement_match.proofs.rule.fits_one.Goals as goal

pub returns : goal.returns
returns c = grind (arith, ints, nat_tests, counted, waiting_key, amount_key, fits_narrows)
