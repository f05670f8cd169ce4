use Rattle.std.proofs.Common.{◌∙◌, ap, not, rules, IsTrue}
use Rattle.system_store.proofs.Openings.{is_settled}
use Rattle.system_store.proofs.system_stores.copied.Goals as goal

pub returns-in-Ok-clause-settled : goal.returns-in-Ok-clause-settled
returns-in-Ok-clause-settled g c =
    let outside : IsTrue c.is_autocommit-settled.result = c.is_autocommit-settled.ensures.value ∙ ap not c.requires in
    is_settled (c.is_autocommit-settled.ensures.settled outside) (search rules)

pub returns-clause-settled : goal.returns-clause-settled
returns-clause-settled g c =
    let outside : IsTrue c.is_autocommit-settled.result = c.is_autocommit-settled.ensures.value ∙ ap not c.requires in
    is_settled (c.is_autocommit-settled.ensures.settled outside) (search rules)
