use Rattle.statement_match.proofs.Names.{◌≡◌, ◌∙◌, ap, rules, refl, waiting_key, elements, plain_pairs}
use Rattle.statement_match.proofs.NumberedLines.{pairs_found}
use Rattle.statement_match.proofs.grounds.Grounds.lines_of_amount.Goals as goal

pub returns : goal.returns
returns c =
    let number : c.unsigned_abs.result ≡ waiting_key c.args.entry.now = search rules in
    ap plain_pairs (ap elements c.at.ensures ∙ c.self.invariant.amounts_found c.unsigned_abs.result)
    ∙ pairs_found c.unsigned_abs.result c.self.inside.numbered.now
    ∙ rw (c.self.invariant.are_numbered, number, ← c.self.view_is) refl
