use Rattle.command_line.proofs.Names.{◌≡◌, drop, map, app_of, app_called, with_commands}
use Rattle.command_line.proofs.command.with_commands.Given as goal

abbrev pub invariant-loop-command : goal.invariant-loop-command
invariant-loop-command l = with_commands (app_of l.program) (map app_called (drop l.command-index l.commands)) ≡ with_commands (app_of l.fn.program) (map app_called l.commands)
