use Rattle.command_line.proofs.Names.{◌≡◌, drop, find}
use Rattle.command_line.proofs.CommandFacts.{is_called, named}
use Rattle.command_line.proofs.table.command_called.Given as goal

-- none of the commands so far has the name
abbrev pub invariant-loop-command : goal.invariant-loop-command
invariant-loop-command l = find (is_called l.name) (drop l.command-index l.command-items) ≡ named l.name
