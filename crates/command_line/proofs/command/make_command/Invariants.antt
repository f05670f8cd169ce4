use Rattle.command_line.proofs.Names.{◌≡◌, drop, false, app_of, new_app, with_operands, words_of}
use Rattle.clap.specs.declared.builder.command.Command.TheViews.{out-Command}
use Rattle.command_line.proofs.command.make_command.Given as goal

abbrev pub invariant-loop-operand : goal.invariant-loop-operand
invariant-loop-operand l = record {
  app : with_operands l.are_required (app_of l.command) (words_of (drop l.operand-index l.operands)) ≡ with_operands l.are_required (new_app l.name) (words_of l.operands);
  local : (out-Command l.command).has_globals ≡ false;
}
