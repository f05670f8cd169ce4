use Rattle.std.proofs.Common.{List, [], ◌∷◌, ◌++◌, ◌≡◌, ◌∙◌, ap, fold}
use Rattle.trust_base.specs.declared.line.Line.{Line}
use Rattle.json_bodies.proofs.Decided.{collected}
use Rattle.json_bodies.proofs.exception_list.exceptions.Goals as goal

pub returns-clause-found : goal.returns-clause-found
returns-clause-found g c =
    λ clean stands.
    let lines : List Line = (g.B.Book.seen c.args.book.now).firm.exceptions in
    let handed = c.in_ok-each_exception.ensures.handed clean stands in
    c.into_lines.ensures ∙ (handed.all ∙ (ap (λ (xs : List Line). fold (λ (ys : List Line) (y : Line). ys ++ y ∷ []) xs lines) c.new-list.ensures ∙ collected lines))
