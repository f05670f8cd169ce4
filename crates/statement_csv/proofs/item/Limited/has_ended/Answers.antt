use Rattle.statement_csv.proofs.Names.{ap, sym, left_of}
use Rattle.statement_csv.proofs.LimitFacts.{held-back}
use Rattle.statement_csv.proofs.item.Limited.has_ended.Goals as goal

pub returns-in-Ended-clause-held : goal.returns-in-Ended-clause-held
returns-in-Ended-clause-held g c = held-back _ _ _ c.self.inside.given c.self.inside.course c.self.invariant (sym (ap left_of c.self.view_is))

pub returns-in_default-clause-held : goal.returns-in_default-clause-held
returns-in_default-clause-held g c = held-back _ _ _ c.self.inside.given c.self.inside.course c.self.invariant (sym (ap left_of c.self.view_is))
