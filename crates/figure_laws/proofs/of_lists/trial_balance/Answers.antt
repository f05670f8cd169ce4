use Rattle.figure_laws.proofs.Names.{ap, map, ◌∙◌}
use Rattle.firm_rows.specs.Handing.{row_pair}
use Rattle.firm_figures.specs.Lists.{TrialKept}
use Rattle.figure_laws.proofs.OfLists.{trial-all, trial-total}
use Rattle.figure_laws.proofs.of_lists.trial_balance.Goals as goal

pub returns-clause-lines : goal.returns-clause-lines
returns-clause-lines c = λ firm rows lines order.
    let all = trial-all firm (map row_pair c.args.rows.now) c.args.firm_lines.now c.new-sink.result c.hand_rows.new.sink c.hand.new.sink rows lines c.new-sink.ensures c.in_ok-hand_rows.ensures c.in_ok-hand.ensures order in
    c.finish.ensures.lines ∙ ap (λ (s : TrialKept). s.lines) all

pub returns-clause-own : goal.returns-clause-own
returns-clause-own c = λ firm rows lines order.
    let all = trial-all firm (map row_pair c.args.rows.now) c.args.firm_lines.now c.new-sink.result c.hand_rows.new.sink c.hand.new.sink rows lines c.new-sink.ensures c.in_ok-hand_rows.ensures c.in_ok-hand.ensures order in
    c.finish.ensures.own ∙ ap (λ (s : TrialKept). s.own) all

pub returns-clause-total : goal.returns-clause-total
returns-clause-total c = λ firm rows lines sound.
    c.finish.ensures.total
    ∙ trial-total firm (map row_pair c.args.rows.now) c.args.firm_lines.now c.new-sink.result c.hand_rows.new.sink c.hand.new.sink rows lines c.new-sink.ensures c.in_ok-hand_rows.ensures c.in_ok-hand.ensures sound
