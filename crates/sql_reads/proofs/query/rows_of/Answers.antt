use Rattle.sql_reads.proofs.Names.{IsOk, not, refl, sym, subst, ap, ◌∙◌, asked_left, leaves_on}
use Rattle.sql_reads.proofs.query.rows_of.Goals as goal

pub returns-in-Ok-clause-left : goal.returns-in-Ok-clause-left
returns-in-Ok-clause-left g c =
    let settled = c.is_autocommit-settled.ensures in
    leaves_on c.query_all.result _ _ _ (λ _. subst IsOk (sym c.in-Ok.is) refl)
    (asked_left (λ rows. rows.items) _ _ _ _ c.query_all.result c.requires.select
    (settled.settled (settled.value ∙ ap not c.requires.mode)) c.query_all.ensures.survives c.query_all.ensures.ok
    c.query_all.ensures.err)

pub returns-in-Err-clause-left : goal.returns-in-Err-clause-left
returns-in-Err-clause-left g c =
    let settled = c.is_autocommit-settled.ensures in
    leaves_on c.query_all.result _ _ _ (λ e. absurd (let f = e in cc))
    (asked_left (λ rows. rows.items) _ _ _ _ c.query_all.result c.requires.select
    (settled.settled (settled.value ∙ ap not c.requires.mode)) c.query_all.ensures.survives c.query_all.ensures.ok
    c.query_all.ensures.err)
