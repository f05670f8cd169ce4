-- What a script leaves, as the steps of its statements.
use Rattle.sql_book.proofs.Names.{List, [], ◌∷◌, map, Layout, Database, SqlStatement, Lists, lists_in, IsStep, AreSteps, Stands, AreKeyed, step_of, IsMade, AreMade, arith, ints, nat_tests}

made_of_step : (s : SqlStatement) (a b : Lists) → IsStep s a b → IsMade (step_of s) a b
made_of_step s a b is = grind (arith, ints, nat_tests)

-- lists that follow the statements are made by their steps
pub made_of_steps : (script : List SqlStatement) (a b : Lists) → AreSteps script a b → AreMade (map step_of script) a b
made_of_steps [] a b same = same
made_of_steps (s ∷ script) a b steps =
    (steps.0, made_of_step s a steps.0 steps.1, made_of_steps script steps.0 b steps.2)

-- the rowids of tables that stand rise
pub keyed : (l : Layout) (db : Database) → Stands l db → AreKeyed (lists_in l db.trees)
keyed l db stands = grind (arith, ints, nat_tests)
