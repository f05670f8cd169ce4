use Rattle.statement_match.proofs.Names.{sym, subst, ℕ, List, Contains}
use Rattle.statement_match.proofs.day_sums.days_in_order.Goals as goal

pub returns-clause-same : goal.returns-clause-same
returns-clause-same c = λ day. (
  λ there. c.put_in_order.ensures.keeps day (subst (λ (days : List ℕ). Contains days day) (sym c.in_ok-days.ensures) there),
  λ there. subst (λ (days : List ℕ). Contains days day) c.in_ok-days.ensures (c.put_in_order.ensures.adds_none day there),
)
