use Rattle.statement_match.proofs.Names.{◌≡◌, ◌∙◌, sym, ap, ◌<◌, ◌++◌, [], ◌∷◌, cond, length, get_or, arith, get_or-map, length-map, length-take, elements, stands, candidate_of}
use Rattle.statement_match.proofs.Listed.{listed_more}
use Rattle.statement_match.proofs.candidate.candidates_among.Goals as goal

pub loop-entry-preserved : goal.loop-entry-preserved
loop-entry-preserved c =
    let found = c.args.found.now in
    let entries = elements found in
    let i = c.loop-entry.entry-index in
    let pair = c.entry-item.result in
    let entry = pair.1.now in
    let inside : i < length found = omega arith in
    let within : i < length entries = omega (arith, inside, length-map found (λ e. e.1.now)) in
    let is : entry ≡ get_or entries i entry =
    ap (λ e. e.1.now) c.entry-item.is ∙ sym (get_or-map (λ e. e.1.now) found i pair entry inside) in
    let p = stands c.args.relation c.args.today c.args.line.now in
    let before = c.loop-entry.listed.items in
    let told = c.in_ok-add_candidate.ensures in
    let many = ap length told in
    let few = length-take 5 (before ++ cond (p entry) (candidate_of entry ∷ []) []) in
    record {
      first = (rw (is, c.loop-entry.invariant.first) at told) ∙ listed_more candidate_of p 5 entries i entry within;
      few = omega (arith, many, few);
    }
