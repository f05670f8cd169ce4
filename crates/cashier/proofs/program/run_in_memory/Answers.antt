use Rattle.cashier.proofs.Names.{◌∙◌}
use Rattle.cashier.proofs.RunFacts.{in-memory}
use Rattle.cashier.proofs.program.run_in_memory.Goals as goal

pub returns-clause-ran : goal.returns-clause-ran
returns-clause-ran g c = λ words means. in-memory _ _ _ (c.new-desk.ensures ∙ c.new.ensures.empty)
    ((c.run_plan-ended.ensures.kept words means).still_stands tt (rw c.new-desk.ensures c.new.ensures.sound))
    (c.run_plan-ended.ensures.ends words means tt (rw c.new-desk.ensures c.new.ensures.sound))
