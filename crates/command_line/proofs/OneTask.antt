-- Words that mean a check mean no other task.
use Rattle.command_line.proofs.Names.{◌≡◌, ℕ, List, arith, codes, Text, subcommand_of, MeansCheck, Means, program, task_text, Task, ints, nat_tests}
use Rattle.command_line.specs.declared.command.Task.TheVariants as tasks
use Rattle.command_line.proofs.Values.{one_name}

check-at : (task : Task) → codes "check" ≡ task_text task → task ≡ tasks.Check
check-at task e = grind (arith, e)

pub check-alone : (words : List Text) (today : ℕ) (task : Task) → MeansCheck words → Means words today task → task ≡ tasks.Check
check-alone words today task x3 b = grind (arith, ints, nat_tests, check-at, one_name, subcommand_of, program)
