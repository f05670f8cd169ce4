use Rattle.statement_lines.proofs.Names.{◌≡◌, ◌==◌, refl, filter, line_key, elements, is_named_like}
use Rattle.statement_lines.proofs.Alike.{named_like_narrows}
use Rattle.statement_lines.proofs.Found.{filtered}
use Rattle.statement_lines.proofs.exception_index.ExceptionIndex.like.Goals as goal

pub returns : goal.returns
returns c =
    let line = c.args.line.now in
    let all = c.self.inside.all.now in
    let same : elements c.at.result.now ≡ filter (λ x. line_key x == line_key line) all =
    rw (c.at.ensures, c.self.invariant c.line_key.result, c.line_key.ensures, c.line.ensures) refl in
    rw (← c.self.view_is)
    (filtered (is_named_like line) (λ x. line_key x == line_key line) (named_like_narrows line) c.at.result.now all same)
