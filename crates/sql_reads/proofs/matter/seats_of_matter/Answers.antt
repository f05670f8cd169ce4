use Rattle.sql_reads.proofs.Names.{rules, ◌≡◌, pos, ◌∙◌, IfOk-weaker, to_z, w64, answers, seats_read_asks, seats_read_answer, seats_read_selects}
use Rattle.sql_reads.proofs.matter.seats_of_matter.Goals as goal

pub rows_of-requires-clause-select : goal.rows_of-requires-clause-select
rows_of-requires-clause-select g c = seats_read_selects

pub returns-clause-found : goal.returns-clause-found
returns-clause-found g c l clean stands =
    let own : to_z w64 c.get.result ≡ pos c.args.matter = search rules in
    let shown = answers (seats_read_asks l) _ _ _ stands.schema _ (c.in_ok-rows.ensures.shown clean) in
    IfOk-weaker c.read_seats.result _ _
    (λ seats is. is _ (c.deref.ensures.value ∙ (rw own at (seats_read_answer l _ _ stands _ shown)))) c.read_seats.ensures
