use Rattle.statement_lines.proofs.Names.{◌≡◌, ◌∙◌, ◌==◌, rules, refl, filter, bytes_eq, claim_key, text_key, elements}
use Rattle.statement_lines.proofs.Alike.{claims_narrows}
use Rattle.statement_lines.proofs.Found.{any_found}
use Rattle.statement_lines.proofs.index.Index.is_claimed.Goals as goal

pub returns : goal.returns
returns c =
    let reference = c.args.reference.now in
    let number : c.text_key.result ≡ text_key 0 reference = search rules in
    let same : elements c.at.result.now ≡ filter (λ x. claim_key x == text_key 0 reference) c.self.inside.lines.now =
    rw (c.at.ensures, c.self.invariant.claims_found c.text_key.result, number) refl in
    c.is_claimed_among.ensures
    ∙ rw (← c.self.view_is)
    (any_found (λ x. bytes_eq x.reference reference) (λ x. claim_key x == text_key 0 reference)
    (claims_narrows reference) c.at.result.now c.self.inside.lines.now same)
