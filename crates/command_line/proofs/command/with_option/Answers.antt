use Rattle.command_line.proofs.Names.{ap, ◌≡◌, ◌∙◌, false, IfOk, Ok, Result, Some, Rule, app_of, rule_of, with_rule}
use Rattle.std.specs.Prelude.{Err}
use Rattle.clap.specs.Words.{AddsArg}
use Rattle.clap.specs.declared.builder.arg.Arg.{Arg}
use Rattle.clap.specs.declared.builder.command.Command.{Command}
use Rattle.command_line.specs.Commands.{option_rule}
use Rattle.command_line.proofs.command.with_option.Goals as goal

-- a command with one more argument has its rule
adds : {E : Type 0} (r : Result Command E) (old : Command) (a : Arg) (rule : Rule) → IfOk r (AddsArg old a) → a.global ≡ false → rule_of a ≡ rule
    → IfOk r (λ c. app_of c ≡ with_rule (app_of old) rule)
adds (Ok c) old a rule is local same = is.shape local ∙ ap (with_rule (app_of old)) same
adds (Err e) old a rule is local same = tt

pub returns : goal.returns
returns c =
    let rule_is : rule_of c.action-option.result ≡ option_rule c.args.name.now c.args.is_required c.args.action = rw (c.action-option.ensures, c.required.ensures, c.long.ensures) (ap (λ (r : Rule). record r { long = Some c.args.name.now; required = c.args.is_required; action = Some c.args.action }) c.new.ensures.rule) in
    let local : c.action-option.result.global ≡ false = rw (c.action-option.ensures, c.required.ensures, c.long.ensures) c.new.ensures.optional.1 in
    adds _ _ _ _ c.arg.ensures local rule_is
