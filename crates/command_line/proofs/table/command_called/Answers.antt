use Rattle.command_line.proofs.Names.{◌≡◌, ◌∙◌, sym, ap, refl, find, false, bytes_eq, all_commands, Text}
use Rattle.std.proofs.lemmas.List.{at_drop_all}
use Rattle.command_line.proofs.CommandFacts.{is_called, named-more, unnamed}
use Rattle.command_line.proofs.table.command_called.Goals as goal

pub loop-command-init : goal.loop-command-init
unfolding all_commands
loop-command-init c = refl

pub loop-command-preserved : goal.loop-command-preserved
unfolding all_commands
loop-command-preserved c =
    let unlike = ap (λ (text : Text). bytes_eq text c.args.name.now) (sym c.form_of.ensures.name) ∙ sym c.if-eq.ensures in
    sym (named-more c.args.name.now all_commands c.loop-command.command-index _ c.loop-command-test.true unlike) ∙ c.loop-command.invariant

pub returns-clause-none : goal.returns-clause-none
unfolding all_commands
returns-clause-none c =
    unnamed c.args.name.now
    (sym c.loop-command.invariant ∙ at_drop_all (find (is_called c.args.name.now)) all_commands c.loop-command.command-index c.loop-command-test.false)
