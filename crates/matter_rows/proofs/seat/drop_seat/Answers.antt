use Rattle.matter_rows.proofs.Names.{rules, tests}
use Rattle.std.proofs.lemmas.Fn.{filter_same}
use Rattle.matter_rows.proofs.seat.drop_seat.Goals as goal

pub returns : goal.returns
returns c = filter_same _ _ _ (λ x b f' k. search (rules, tests)) _ _ c.retain.ensures.filtered
