use Rattle.sql_tables.proofs.Names.{◌≡◌, true, take, sym, ap, subst, ◌∙◌, arith, rules, Trees, Database, HasCleanDisk, Survives, state, survives_then, survives_begin, HasRun}
use Rattle.std.proofs.lemmas.Grind.{common_steps}
use Rattle.sql_tables.specs.Script.{Written}
use Rattle.sql_tables.proofs.Together.{when_ok}
use Rattle.sql_tables.proofs.ScriptLemmas.{run_more, ran_written}
use Rattle.sql_tables.proofs.statements.write.Goals as goal

pub each-preserved : goal.each-preserved
each-preserved g c = (
  c.perform.ensures.same_reference ∙ c.each.invariant.0,
  run_more g.S.Store c.args.script.now c.each.statement-index _ _ c.each.tx.conn.now c.perform.new.tx.conn.now c.in_ok-perform.field-0 (search rules) c.each.invariant.1 c.in_ok-perform.ensures.ran,
)

pub returns-clause-written : goal.returns-clause-written
returns-clause-written g c l clean stands =
    let old = c.args.conn.now in
    let whole : take c.each.statement-index c.args.script.now ≡ c.args.script.now = grind (arith, common_steps) in
    let run : HasRun g.S.Store c.args.script.now (record old { in_transaction = true }) c.each.tx.conn.now = rw whole at c.each.invariant.1 in
    let same : c.commit.new.self.0 ≡ c.conn-2-1.given.0 = search rules in
    let late : HasCleanDisk (state g.S.Store c.commit.new.self.0) = search rules in
    when_ok c.commit.result (c.commit.ensures.ok late) (λ it. subst (Written l c.args.script.now (state g.S.Store old).now) (sym it.1.now_is ∙ ap (λ h. (state g.S.Store h).now) same)
    (ran_written g.S.Store l c.args.script.now _ _ stands (run.ran (omega (arith, c.commit.ensures.survives.clean)))))

pub returns-clause-crash : goal.returns-clause-crash
returns-clause-crash g c l clean stands =
    let old = c.args.conn.now in
    let last = c.each.tx.conn.now in
    let end = c.commit.new.self.0 in
    let whole : take c.each.statement-index c.args.script.now ≡ c.args.script.now = grind (arith, common_steps) in
    let run : HasRun g.S.Store c.args.script.now (record old { in_transaction = true }) last = rw whole at c.each.invariant.1 in
    let same : end ≡ c.conn-2-1.given.0 = search rules in
    let P = λ (trees : Trees). (db : Database) × Written l c.args.script.now (state g.S.Store old).now db × (trees ≡ db.trees) in
    let through = survives_then (state g.S.Store old) (state g.S.Store last) (state g.S.Store end) _ _ P (λ _ db none. absurd none)
    (λ clean db is. (_, ran_written g.S.Store l c.args.script.now _ _ stands (run.ran (omega (arith, c.commit.ensures.survives.clean))), is)) (survives_begin g.S.Store old (state g.S.Store last) _ run.crash) c.commit.ensures.survives in
    (subst (λ h. Survives (state g.S.Store old) (state g.S.Store h) P) same through).crash clean
