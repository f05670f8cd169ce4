-- Days that may lie past those that are kept.
use Rattle.trust_values.proofs.Names.{ℕ, ◌<◌, arith, IsCivilDay, IsDay}

pub civil_day_of_day : (n : ℕ) → IsDay n → IsCivilDay n
unfolding IsDay IsCivilDay
civil_day_of_day n (y, m, d) = (omega arith, m, d)

pub civil_day-bound : (n : ℕ) → IsCivilDay n → n < 100000000
unfolding IsCivilDay
civil_day-bound n (y, m, d) = omega arith

-- what the code cites

pub ruleset civil_day_facts = (civil_day-bound)
