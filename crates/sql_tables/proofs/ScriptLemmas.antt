-- What a list of statements makes of tables that stand.
use Rattle.sql_tables.proofs.Names.{◌≡◌, ℕ, ◌+◌, ◌<◌, List, [], ◌∷◌, ◌++◌, length, take, get_or, Result, Ok, IsTrue, refl, sym, ap, subst, ◌∙◌, arith, Row, Database, IsDatabase, Error, State, HasCleanDisk, Survives, Executes, ExecutesInside, Held, state, survives_then, Layout, Stands, Call, call_of, calls_of, RanInside, IsPerformed, HasRun, ints, nat_tests}
use Rattle.std.proofs.lemmas.List.{map-append, take_more}
use Rattle.sqlite_trees.specs.declared.store.Store.{Ghosts}
use Rattle.sql_tables.specs.declared.statements.SqlStatement.{SqlStatement}
use Rattle.sql_tables.specs.Lists.{lists_in}
use Rattle.sql_tables.specs.Script.{Written}
use Rattle.sql_tables.proofs.Together.{kept}
use Rattle.sql_tables.proofs.Tables.{did}

ran_push : {S : Type 0} (g : Ghosts S) (calls : List Call) (call : Call) (old mid new : Held S) (count : ℕ) → RanInside g calls old mid → Executes call.text call.params (state g mid) (state g new) (Ok count)
    → RanInside g (calls ++ call ∷ []) old new
ran_push g [] call old mid new count same h = (new, count, subst (λ x. Executes call.text call.params (state g x) (state g new) (Ok count)) same h, refl)
ran_push g (c ∷ cs) call old mid new count ran h = (ran.0, ran.1, ran.2, ran_push g cs call ran.0 mid new count ran.3 h)

-- one call more in a transaction
pub ran_more : {S : Type 0} (g : Ghosts S) (script : List SqlStatement) (i : ℕ) (d : SqlStatement) (old mid new : Held S) (count : ℕ) → i < length script → RanInside g (calls_of (take i script)) old mid
    → Executes (call_of (get_or script i d)).text (call_of (get_or script i d)).params (state g mid) (state g new) (Ok count) → RanInside g (calls_of (take (i + 1) script)) old new
ran_more g script i d old mid new count within ran h =
    subst (λ calls. RanInside g calls old new) (sym (ap calls_of (take_more script i d within) ∙ map-append call_of (take i script) (get_or script i d ∷ [])))
    (ran_push g (calls_of (take i script)) (call_of (get_or script i d)) old mid new count ran h)

-- a statement that ran with its text and its values was performed
pub performed : (s t : SqlStatement) (params : Row) (result : Result ℕ Error) (old new : State) → t ≡ s → params ≡ (call_of s).params → (HasCleanDisk new → IsTrue old.in_transaction → ExecutesInside 0 (call_of s).text params old new result)
    → Survives old new (λ _. ⊥) → IsPerformed (call_of t).text (call_of t).params result old new
performed s t params result old new is same ran survives = grind (arith, ints, nat_tests, call_of, kept)

-- a statement more
pub run_more : {S : Type 0} (g : Ghosts S) (script : List SqlStatement) (i : ℕ) (d : SqlStatement) (old mid new : Held S) (count : ℕ) → i < length script → HasRun g (take i script) old mid
    → IsPerformed (call_of (get_or script i d)).text (call_of (get_or script i d)).params (Ok count) (state g mid) (state g new) → HasRun g (take (i + 1) script) old new
run_more {S} g script i d old mid new count within was now =
    let late : HasCleanDisk (state g new) → HasCleanDisk (state g mid) = λ clean. omega (arith, clean, now.crash.clean) in
    let it = λ (clean : HasCleanDisk (state g new)). now.ok clean (was.inside (late clean)) in record {
      inside = λ clean. (it clean).1.mode;
      ran = λ clean. ran_more g script i d old mid new count within (was.ran (late clean)) (it clean).0;
      keeps = λ clean still.
          let one = now.keeps clean (was.inside (late clean)) still in
          let before = was.keeps (late clean) one.0 in
          (before.0, one.1 ∙ before.1);
      opened = λ clean some. (was.keeps (late clean) (it clean).1.was_open).0;
      crash = survives_then (state g old) (state g mid) (state g new) _ _ (λ _. ⊥) (λ _ db none. none) (λ _ db none. none) was.crash now.crash;
    }

-- and what the last of several wrote is listed
listed_after : {l : Layout} (script : List SqlStatement) {mid next : Database} → Written l script mid next → IsDatabase mid → IsDatabase next
listed_after [] w listed = subst IsDatabase (sym w.does) listed
listed_after (s ∷ script) w listed = w.listed (λ e. cc)

pub ran_written : {S : Type 0} (g : Ghosts S) (l : Layout) (script : List SqlStatement) (old new : Held S) → Stands l (state g old).now → RanInside g (calls_of script) old new → Written l script (state g old).now (state g new).now
ran_written g l [] old new stands same = grind (arith, ints, nat_tests, state, lists_in)
ran_written g l (s ∷ script) old new stands ran =
    let one = did l (state g old) (state g ran.0) stands s (record { schema = stands.schema; count = ran.1; done = ran.2 }) in
    let more = ran_written g l script ran.0 new one.1 ran.3 in
    grind (arith, ints, nat_tests, state, lists_in, listed_after)
