use Rattle.trust_values.proofs.Names.{take, arith, month_day_of, month_of, year_of}
use Rattle.std.proofs.lemmas.List.{length-take}
use Rattle.trust_values.proofs.DayFacts.{date_parts, none-of, number_joined}
use Rattle.trust_values.proofs.day.read_number.Goals as goal

pub returns-in_err-year-clause-none : goal.returns-in_err-year-clause-none
returns-in_err-year-clause-none c =
    grind (arith, date_parts, year_of, month_of, month_day_of, none-of, take, length-take)

pub returns-in_err-month-clause-none : goal.returns-in_err-month-clause-none
returns-in_err-month-clause-none c =
    grind (arith, date_parts, year_of, month_of, month_day_of, none-of, take, length-take)

pub returns-in_err-day-clause-none : goal.returns-in_err-day-clause-none
returns-in_err-day-clause-none c =
    grind (arith, date_parts, year_of, month_of, month_day_of, none-of, take, length-take)

pub returns-clause-some : goal.returns-clause-some
returns-clause-some c = grind (arith, number_joined, length-take)
