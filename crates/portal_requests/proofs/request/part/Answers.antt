use Rattle.portal_requests.proofs.Names.{◌==◌, ◌∙◌, ap, part, refl}
use Rattle.std.proofs.Common.{rules, tests}
use Rattle.std.proofs.lemmas.Iterator.Consumers.{nth_from_yields_List}
use Rattle.std.proofs.lemmas.Iterator.Splits.{YieldsList-from_slice_split}
use Rattle.portal_requests.proofs.PathFacts.{found-or_none}
use Rattle.portal_requests.proofs.request.part.Goals as goal

pub returns : goal.returns
unfolding part
returns c =
    let found = nth_from_yields_List c.nth.result c.nth.new.self c.args.number c.nth.ensures.ran
    (YieldsList-from_slice_split _ (λ b. b == 47) c.args.path.now c.split.ensures.rest c.split.ensures.done c.split.ensures.closure (λ x b q k. search (rules, tests))) in
    ap (λ b. b.now) c.unwrap_or.ensures ∙ found-or_none c.nth.result _ _ found refl
