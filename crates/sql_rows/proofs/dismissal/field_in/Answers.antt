use Rattle.sql_rows.proofs.Names.{refl, rules}
use Rattle.sql_rows.proofs.Dismissals.{after_is, all_plain, before_is, joined_by}
use Rattle.sql_rows.proofs.dismissal.field_in.Goals as goal

pub returns-then-length-text-clause-none : goal.returns-then-length-text-clause-none
returns-then-length-text-clause-none c = (refl, all_plain c.args.text.now (search rules))

pub returns-clause-before : goal.returns-clause-before
returns-clause-before c = search (rules, before_is)

pub returns-clause-after : goal.returns-clause-after
returns-clause-after c = search (rules, after_is)

pub returns-clause-joined : goal.returns-clause-joined
returns-clause-joined c = joined_by c.args.text.now _ c.field_length-length.ensures.value (search rules)
