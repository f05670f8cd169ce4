use Rattle.trust_store.proofs.Names.{rules, tests, filter_same}
use Rattle.trust_store.proofs.plain.take_out_acts.Goals as goal

pub returns : goal.returns
returns c = filter_same _ _ _ (λ x b f' k. search (rules, tests)) _ _ c.retain.ensures.filtered
