use Rattle.sql_reads.proofs.Names.{rules, ◌≡◌, ℕ, pos, ◌≤◌, map, filter, [], ◌∷◌, sym, subst, ◌∙◌, map-map, to_z, w64, state, Int, AreHanded, act_values, act_at, acts_read_asks, acts_read_selects, acts_read_answer, arith}
use Rattle.firm_rows.specs.Countable.{IsActInRange}
use Rattle.sql_tables.specs.Rows as table
use Rattle.sql_rows.proofs.Acts.{acts_of_matter}
use Rattle.sql_rows.specs.Meaning.{act_from}
use Rattle.trust_store.specs.MatterActs.{acts_in}
use Rattle.sql_reads.proofs.Handed.{all_left, answered, handed}
use Rattle.sql_reads.proofs.lists.each_act_of.Goals as goal

pub hand_rows-requires-clause-select : goal.hand_rows-requires-clause-select
hand_rows-requires-clause-select g c = acts_read_selects

pub returns-clause-handed : goal.returns-clause-handed
returns-clause-handed g c l clean stands =
    let m : ℕ = c.args.matter in
    let own : to_z w64 c.get.result ≡ pos m = search rules in
    let one : 1 ≤ m = omega (arith, c.get.ensures.value, c.get.ensures.range) in
    let rows = table.acts_in l (state g.S.Store c.args.conn.now).now.trees in
    let shown : map act_at (map act_values (filter (table.is_act_of (pos m)) rows)) ≡ acts_in m (map act_from (table.acts_among rows)) =
    map-map act_at act_values _ ∙ acts_of_matter m one rows stands.rows.meant.written.acts in
    subst (λ r. AreHanded g.K.RowSink.taken IsActInRange (acts_in m (map act_from (table.acts_among rows))) r c.args.sink.now c.hand_rows.new.sink)
    (sym c.and.ensures)
    (handed g.K.RowSink.taken act_at IsActInRange _
    (answered (acts_read_asks l) (Int (to_z w64 c.get.result) ∷ []) _ _ stands.tables.schema _
    (λ found a. acts_read_answer l _ _ stands.tables found a ∙ (λ i. map act_values (filter (table.is_act_of (own i)) rows)))
    act_at _ shown) c.hand_rows.result _ _ (c.hand_rows.ensures.handed clean))

pub returns-clause-left : goal.returns-clause-left
returns-clause-left g c = all_left _ _ _ c.hand_rows.ensures.left _ c.and.ensures
