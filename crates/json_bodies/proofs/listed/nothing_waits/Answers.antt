use Rattle.json_bodies.proofs.Names.{◌≡◌, ap, arith, nat_tests, pos, rules, sym, ◌∙◌}
use Rattle.std.proofs.lemmas.Grind.{common_steps}
use Rattle.json_bodies.proofs.Waiting.{idle-waits}
use Rattle.json_bodies.proofs.listed.nothing_waits.Goals as goal

pub returns-then-figures-eq0-2-clause-nothing : goal.returns-then-figures-eq0-2-clause-nothing
returns-then-figures-eq0-2-clause-nothing c = λ zero m rows sound part.
    let f = c.figures-figures.result in
    let pending : f.pending ≡ 0 = first_of (search rules, grind (arith, common_steps)) in
    let disputed : f.disputed ≡ 0 = first_of (search rules, grind (arith, common_steps)) in
    let claims : f.claims ≡ 0 = grind (arith, nat_tests) in
    let kept = c.figures-figures.ensures.is in
    idle-waits m rows sound
    (sym part.figures.pending ∙ ap pos (sym (ap (λ g. g.pending) kept) ∙ pending))
    (sym part.figures.disputed ∙ ap pos (sym (ap (λ g. g.disputed) kept) ∙ disputed))
    (sym part.figures.claims ∙ ap pos (sym (ap (λ g. g.claims) kept) ∙ claims))
