use Rattle.figure_laws.proofs.Names.{ap, ◌∙◌, fold, IsCountable}
use Rattle.std.proofs.Common.{◌≡◌}
use Rattle.firm_rows.specs.Handing.{in_memory}
use Rattle.firm_figures.specs.Reconciliations.{ReconciliationKept, with_row_kept, with_movement_kept, with_own_kept, with_exception_kept, with_balance_noted, all_kept}
use Rattle.figure_laws.proofs.OfLists.{reconciled-all, agreed}
use Rattle.figure_laws.proofs.of_lists.reconcile_at.Goals as goal

pub returns-clause-told : goal.returns-clause-told
returns-clause-told c = λ sound.
    let firm = in_memory c.args.rows.now c.args.movements.now c.args.firm_lines.now c.args.exceptions.now c.args.balances.now in
    let rows = c.in_ok-hand_rows.ensures.all ∙ ap (λ (s : ReconciliationKept). fold with_row_kept s firm.rows) c.new-sink.ensures in
    let movements = c.in_ok-hand.ensures.all ∙ ap (λ (s : ReconciliationKept). fold with_movement_kept s firm.movements) rows in
    let own = c.in_ok-hand-2.ensures.all ∙ ap (λ (s : ReconciliationKept). fold with_own_kept s firm.firm_lines) movements in
    let exceptions = c.in_ok-hand-3.ensures.all ∙ ap (λ (s : ReconciliationKept). fold with_exception_kept s firm.exceptions) own in
    let all : c.hand-4.new.sink ≡ all_kept c.args.day firm =
    c.in_ok-hand-4.ensures.all ∙ ap (λ (s : ReconciliationKept). fold with_balance_noted s firm.balances) exceptions in
    let is : IsCountable firm = record {
      rows = c.in_ok-hand_rows.ensures.countable;
      movements = c.in_ok-hand.ensures.countable;
      firm_lines = c.in_ok-hand-2.ensures.countable;
      exceptions = c.in_ok-hand-3.ensures.countable;
      balances = c.in_ok-hand-4.ensures.countable;
    } in
    reconciled-all c.args.day firm c.hand-4.new.sink c.finish.result all sound is c.finish.ensures

pub returns-clause-agree : goal.returns-clause-agree
returns-clause-agree c = λ sound.
    let firm = in_memory c.args.rows.now c.args.movements.now c.args.firm_lines.now c.args.exceptions.now c.args.balances.now in
    let rows = c.in_ok-hand_rows.ensures.all ∙ ap (λ (s : ReconciliationKept). fold with_row_kept s firm.rows) c.new-sink.ensures in
    let movements = c.in_ok-hand.ensures.all ∙ ap (λ (s : ReconciliationKept). fold with_movement_kept s firm.movements) rows in
    let own = c.in_ok-hand-2.ensures.all ∙ ap (λ (s : ReconciliationKept). fold with_own_kept s firm.firm_lines) movements in
    let exceptions = c.in_ok-hand-3.ensures.all ∙ ap (λ (s : ReconciliationKept). fold with_exception_kept s firm.exceptions) own in
    let all : c.hand-4.new.sink ≡ all_kept c.args.day firm =
    c.in_ok-hand-4.ensures.all ∙ ap (λ (s : ReconciliationKept). fold with_balance_noted s firm.balances) exceptions in
    let is : IsCountable firm = record {
      rows = c.in_ok-hand_rows.ensures.countable;
      movements = c.in_ok-hand.ensures.countable;
      firm_lines = c.in_ok-hand-2.ensures.countable;
      exceptions = c.in_ok-hand-3.ensures.countable;
      balances = c.in_ok-hand-4.ensures.countable;
    } in
    agreed c.figures_agree.ensures c.args.day firm sound c.finish.result (reconciled-all c.args.day firm c.hand-4.new.sink c.finish.result all sound is c.finish.ensures)
