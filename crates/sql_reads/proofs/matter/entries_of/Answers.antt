use Rattle.sql_reads.proofs.Names.{rules, ◌≡◌, pos, ◌∙◌, IfOk-weaker, to_z, w64, answers, entries_read_asks, entries_read_answer, entries_read_selects}
use Rattle.sql_reads.proofs.matter.entries_of.Goals as goal

pub rows_of-requires-clause-select : goal.rows_of-requires-clause-select
rows_of-requires-clause-select g c = entries_read_selects

pub returns-clause-found : goal.returns-clause-found
returns-clause-found g c l clean stands =
    let own : to_z w64 c.get.result ≡ pos c.args.matter = search rules in
    let shown = answers (entries_read_asks l) _ _ _ stands.schema _ (c.in_ok-rows.ensures.shown clean) in
    IfOk-weaker c.read_entries.result _ _
    (λ kept is. is _ (c.deref.ensures.value ∙ (rw own at (entries_read_answer l _ _ stands _ shown)))) c.read_entries.ensures
