use Rattle.statement_match.proofs.Apart.{none_is_named_twice_by_firms, wait_apart}
use Rattle.statement_match.proofs.Writing.{none_is_named_twice}
use Rattle.statement_match.proofs.laws.none_is_named_twice.Goals as goal

pub returns : goal.returns
returns c = record { held = none_is_named_twice; apart = wait_apart; over_firms = none_is_named_twice_by_firms }
