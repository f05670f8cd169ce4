use Rattle.command_line.proofs.Names.{ap, ◌+◌, ◌<◌, ◌≡◌, ◌∙◌, List, ℕ, suc, length, drop, get_or, map, add-one, drop-cons, arith, App, app_of, app_called, command_app, with_commands, with_subcommand}
use Rattle.command_line.specs.declared.table.CommandName.{CommandName}
use Rattle.command_line.proofs.command.with_commands.Goals as goal

-- one more command
more : (items : List CommandName) (i : ℕ) (d : CommandName) (whole next all : App) → i < length items
    → next ≡ with_subcommand whole (app_called (get_or items i d)).top
    → with_commands whole (map app_called (drop i items)) ≡ all → with_commands next (map app_called (drop (i + 1) items)) ≡ all
more items i d whole next all within is before =
    rw add-one (ap (λ (x : App). with_commands x (map app_called (drop (suc i) items))) is ∙ (rw (drop-cons items i d within) at before))

pub loop-command-preserved : goal.loop-command-preserved
loop-command-preserved c =
    let made_is = c.in_ok-made.ensures.app ∙ (λ i. command_app (c.form_of-form.ensures.name i) (c.form_of-form.ensures.required i) (c.form_of-form.ensures.operands i)) in
    more c.args.commands.now c.loop-command.command-index _ (app_of c.loop-command.program) (app_of c.in_ok-program.program) _ (omega arith)
    (c.in_ok-program.ensures.shape c.in_ok-made.ensures.local ∙ ap (λ (x : App). with_subcommand (app_of c.loop-command.program) x.top) made_is)
    c.loop-command.invariant
