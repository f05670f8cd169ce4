use Rattle.trust_values.proofs.Names.{arith, nat_tests, year_of, next_day}
use Rattle.trust_values.proofs.RetentionFacts.{first_behind, next_within, next_over, over_civil, after_over}
use Rattle.trust_values.proofs.retention.day_after.Goals as goal
use Rattle.trust_values.proofs.retention.day_after.Goals.{then-number-lt12, else-number-lt12}

pub returns-in-Some-clause-value : goal.returns-in-Some-clause-value
returns-in-Some-clause-value c = grind (arith, nat_tests, next_within, next_day)

pub unreachable-requires : goal.unreachable-requires
unreachable-requires c = grind (arith, nat_tests, first_behind, then-number-lt12, else-number-lt12, year_of, over_civil)

pub returns-clause-value : goal.returns-clause-value
returns-clause-value c = grind (arith, nat_tests, first_behind, then-number-lt12, else-number-lt12, next_over, next_day)

pub returns-clause-after : goal.returns-clause-after
returns-clause-after c = grind (arith, nat_tests, first_behind, then-number-lt12, else-number-lt12, year_of, after_over)
