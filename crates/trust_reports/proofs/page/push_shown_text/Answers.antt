use Rattle.trust_reports.proofs.Names.{◌++◌, ◌∙◌, sym, ap, map, encode_utf8, encode_utf8_all, map-id, shown, arith, ints, nat_tests}
use Rattle.std.proofs.lemmas.Iterator.{YieldsList-from_chars}
use Rattle.std.proofs.lemmas.Iterator.Consumers.{YieldsList-end}
use Rattle.trust_reports.proofs.TextFacts.{shown_more}
use Rattle.trust_reports.proofs.page.push_shown_text.Goals as goal

pub loop-character-preserved : goal.loop-character-preserved
loop-character-preserved c = grind (arith, ints, nat_tests, encode_utf8, shown, shown_more)

pub returns-clause-text : goal.returns-clause-text
returns-clause-text c =
    let end = YieldsList-end (YieldsList-from_chars c.args.text.now c.utf8.text cc) c.loop-character.yielded _ c.loop-character.yielded_by _ _ c.in-None.is c.next.ensures.steps in
    c.loop-character.invariant.text
    ∙ ap (λ cs. c.args.page.now.text ++ encode_utf8_all (map shown cs)) (sym (map-id c.loop-character.yielded) ∙ end.0)
