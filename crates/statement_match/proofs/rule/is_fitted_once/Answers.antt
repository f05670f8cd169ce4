use Rattle.statement_match.proofs.Names.{amount_key, waiting_key, is_open_fit, open_fit_narrows, counted, arith, ints, nat_tests}
use Rattle.statement_match.proofs.rule.is_fitted_once.Goals as goal

pub returns : goal.returns
returns c = grind (arith, ints, nat_tests, counted, is_open_fit, amount_key, waiting_key, open_fit_narrows)
