use Rattle.command_line.proofs.Names.{ap, ◌∙◌, true, App, db_rule, options_app, program, quiet_rule, all_commands, app_called, map, today_rule, with_commands, with_rule}
use Rattle.clap.specs.Simple.{Shape, app_of_fields, on_top}
use Rattle.command_line.proofs.command.make_program.Goals as goal

pub returns : goal.returns
unfolding program options_app today_rule db_rule quiet_rule all_commands
returns c =
    let day_is = c.in_ok-with_today.ensures ∙ ap (λ (x : App). with_rule x today_rule) c.new-bare.ensures.app in
    let both_are = c.in_ok-with_db.ensures ∙ ap (λ (x : App). with_rule x db_rule) day_is in
    let options_are = c.in_ok-options.ensures ∙ ap (λ (x : App). with_rule x quiet_rule) both_are in
    let whole_is = c.in_ok-whole.ensures ∙ ap (λ (x : App). with_commands x (map app_called all_commands)) options_are in
    ap app_of_fields c.subcommand_required.ensures ∙ ap (on_top (λ (s : Shape). record s { subcommand_required = true })) whole_is
