use Rattle.sql_making.proofs.Names.{sym, subst, ExecutesAllInside, schema_text, ok_then, move_text, state}
use Rattle.sql_making.specs.declared.scripts.Script.{Script}
use Rattle.sql_making.specs.Scripts.{Makes}
use Rattle.sql_making.proofs.Whole.{makes_book}
use Rattle.sql_making.proofs.MovedWhole.{is_moved}
use Rattle.sql_schema.specs.Schema.{act_text}
use Rattle.sql_making.proofs.Extended.{extended}
use Rattle.sql_making.proofs.scripts.execute.Goals as goal

pub returns-in-Create-clause-made : goal.returns-in-Create-clause-made
returns-in-Create-clause-made g c clean =
    let old = c.args.tx.now.conn.now in
    let new = c.execute_batch.new.self.conn.now in
    ok_then (ExecutesAllInside g.S.Store 0 schema_text old new) c.execute_batch.result (c.execute_batch.ensures.ran clean)
    (λ _ h. subst (λ (s : Script). Makes s (state g.S.Store old).now (state g.S.Store new).now) (sym c.in-Create.is) (λ none. makes_book g.S.Store new old none h))

pub returns-in-Move-clause-made : goal.returns-in-Move-clause-made
returns-in-Move-clause-made g c clean =
    let old = c.args.tx.now.conn.now in
    let new = c.execute_batch-in-Move.new.self.conn.now in
    ok_then (ExecutesAllInside g.S.Store 0 move_text old new) c.execute_batch-in-Move.result (c.execute_batch-in-Move.ensures.ran clean)
    (λ _ h. subst (λ (s : Script). Makes s (state g.S.Store old).now (state g.S.Store new).now) (sym c.in-Move.is) (λ book. is_moved g.S.Store new old book h))

pub returns-in-Extend-clause-made : goal.returns-in-Extend-clause-made
returns-in-Extend-clause-made g c clean =
    let old = c.args.tx.now.conn.now in
    let new = c.execute_batch-in-Extend.new.self.conn.now in
    ok_then (ExecutesAllInside g.S.Store 0 act_text old new) c.execute_batch-in-Extend.result (c.execute_batch-in-Extend.ensures.ran clean)
    (λ _ h. subst (λ (s : Script). Makes s (state g.S.Store old).now (state g.S.Store new).now) (sym c.in-Extend.is) (λ l bare. extended g.S.Store new old h l bare))
