use Rattle.json_bodies.proofs.Names.{◌++◌, ◌∙◌, ap, value_tokens}
use Rattle.std.proofs.lemmas.Result.{on_ok_weaker}
use Rattle.json_bodies.proofs.EntryFacts.{listed-of}
use Rattle.json_bodies.proofs.listed.write_listed.Goals as goal

pub returns-clause-tokens : goal.returns-clause-tokens
returns-clause-tokens c =
    on_ok_weaker c.write_listed_with.result
    (λ written rows sound part. written ∙ ap (λ d. c.args.out.now.tokens ++ value_tokens d)
    (listed-of c.args.caller.now c.args.no c.args.matter.now c.figures-figures.result c.balances-sums.result rows part c.figures-figures.ensures.is (c.balances-sums.ensures rows sound part)))
    c.write_listed_with.ensures.tokens
