use Rattle.trust_desk.proofs.Names.{Asks}
use Rattle.trust_desk.proofs.Own.{own-once}
use Rattle.trust_desk.proofs.OwnDossiers.{keeps-others}
use Rattle.trust_desk.proofs.desk.Desk.answer.Goals as goal

pub returns-clause-others : goal.returns-clause-others
returns-clause-others g c =
    let firm = λ (b : _). (g.B.Book.seen b).firm in
    let asked = c.answer_beside in
    λ clean stands. keeps-others c.args.day (firm c.args.self.now) (firm asked.new.self) (Asks c.args.request.now) asked.result (asked.ensures.step clean stands)

pub returns-clause-own : goal.returns-clause-own
returns-clause-own g c =
    let firm = λ (b : _). (g.B.Book.seen b).firm in
    let asked = c.answer_beside in
    λ clean stands fine m. own-once m c.args.day (firm c.args.self.now) (firm asked.new.self) (Asks c.args.request.now) asked.result fine (asked.ensures.step clean stands)
