use Rattle.command_line.proofs.Names.{rules, ap, ◌≡◌, ◌<◌, ◌∙◌, List, ℕ, suc, [], Some, length, drop, get_or, add-one, drop-cons, arith, Bor, App, Rule, app_of, rule_of, with_rule, operand_rule, with_operands, words_of}
use Rattle.clap.specs.declared.builder.ArgAction.TheVariants as action
use Rattle.command_line.proofs.command.make_command.Goals as goal

-- what the code reads past the operands' end
abbrev no_operand : Bor (List ℕ)
no_operand = record { ref_ptr = (0, 0); now = [] }

pub loop-operand-preserved : goal.loop-operand-preserved
unfolding operand_rule
loop-operand-preserved c =
    let operands = c.args.operands.now in
    let i = c.loop-operand.operand-index in
    let within : i < length operands = omega arith in
    let value_is : rule_of c.action-value.result ≡ operand_rule c.args.are_required (get_or operands i no_operand).now = rw (c.action-value.ensures, c.required.ensures) (ap (λ (r : Rule). record r { required = c.args.are_required; action = Some action.Set }) c.new.ensures.rule) in
    let more_is = c.in_ok-command.ensures.shape (search rules) ∙ ap (with_rule (app_of c.loop-operand.command)) value_is in
    record {
      app = rw add-one (ap (λ (x : App). with_operands c.args.are_required x (words_of (drop (suc i) operands))) more_is ∙ (rw (drop-cons operands i no_operand within) at c.loop-operand.invariant.app));
      local = search rules;
    }
