-- The parts of the command line: an option, and the tasks of a command.
use Rattle.std.specs.Prelude.{◌≡◌, Bool, List, Some}
use Rattle.clap.specs.Words.{Row, Rule, Text, new_rule}
use Rattle.clap.specs.declared.builder.ArgAction.{ArgAction}
use Rattle.command_line.specs.Program.{HasOperands, task_command}
use Rattle.command_line.specs.declared.command.Task.{Task}
use Rattle.command_line.specs.declared.table.CommandName.{CommandName}

-- an option `--name`
abbrev pub option_rule : Text → Bool → ArgAction → Rule
option_rule name is_required effect =
    record (new_rule name) { long = Some name; required = is_required; action = Some effect }

-- the command with these values is the task
pub record IsTaskOf (command : CommandName) (values : List Row) (task : Task) : Type 0 where
  pub command_is : task_command task ≡ command
  pub operands : HasOperands values task
