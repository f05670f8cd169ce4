-- The values of a command, and its name.
use Rattle.command_line.proofs.Names.{◌≡◌, List, Option, first_value-rows, Row, Text, MeetsTask, task_text, Task, arith, ints, nat_tests}

-- the first value of an argument is that of its row
pub ruleset values_read = (first_value-rows)

-- two tasks of one command have one name
pub one_name : (m : Option (Text × List Row)) (a b : Task) → MeetsTask m a → MeetsTask m b → task_text a ≡ task_text b
one_name m a b x y = grind (arith, ints, nat_tests)
