use Rattle.statement_match.proofs.Names.{◌≡◌, ◌∙◌, sym, ap, ◌<◌, ◌++◌, [], ◌∷◌, cond, length, get_or, arith, get_or-map, length-map, length-take, elements, is_named_like, named_exception}
use Rattle.statement_match.proofs.Listed.{listed_more}
use Rattle.statement_match.proofs.named_exception.exceptions_among.Goals as goal

pub loop-exception-preserved : goal.loop-exception-preserved
loop-exception-preserved c =
    let found = c.args.found.now in
    let lines = elements found in
    let i = c.loop-exception.exception-index in
    let pair = c.exception-item.result in
    let line = pair.1.now in
    let inside : i < length found = omega arith in
    let within : i < length lines = omega (arith, inside, length-map found (λ e. e.1.now)) in
    let is : line ≡ get_or lines i line =
    ap (λ e. e.1.now) c.exception-item.is ∙ sym (get_or-map (λ e. e.1.now) found i pair line inside) in
    let f = named_exception c.args.today c.args.grounds.now.known in
    let p = is_named_like c.args.grounds.now.line in
    let before = c.loop-exception.listed.items in
    let told = c.in_ok-add_exception.ensures in
    let many = ap length told in
    let few = length-take 5 (before ++ cond (p line) (f line ∷ []) []) in
    record {
      first = (rw (is, c.loop-exception.invariant.first) at told) ∙ listed_more f p 5 lines i line within;
      few = omega (arith, many, few);
    }
