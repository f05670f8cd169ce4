-- What one SQL statement in a transaction does.
use Rattle.std.specs.Prelude.{◌≡◌, ◌≢◌, ℕ, List, [], Result, IsTrue}
use Rattle.sqlite_value.specs.Order.{Row}
use Rattle.sqlite_trees.specs.declared.store.Store.{Ghosts}
use Rattle.sqlite.specs.declared.error.Error.{Error}
use Rattle.sqlite.specs.Held.{Held, state}
use Rattle.sqlite.specs.State.{State, HasCleanDisk, Survives, ExecutesInside}
use Rattle.sql_tables.specs.declared.statements.SqlStatement.{SqlStatement}
use Rattle.sql_tables.specs.Script.{calls_of, RanInside}

-- if the connection is open now, it was open before, and the last commit is unchanged
abbrev pub KeepsCommit : State → State → Type 0
KeepsCommit old new = IsTrue new.is_open → IsTrue old.is_open × (new.committed ≡ old.committed)

-- an SQL text ran with parameters in a transaction, or failed; nothing it did survives a crash
pub record IsPerformed (sql : List ℕ) (params : Row) (result : Result ℕ Error) (old new : State) : Type 0 where
  pub ok : HasCleanDisk new → IsTrue old.in_transaction → ExecutesInside 0 sql params old new result
  pub keeps : HasCleanDisk new → IsTrue old.in_transaction → KeepsCommit old new
  pub crash : Survives old new (λ _. ⊥)

-- what a transaction that began with `old` has become by some SQL statements, each of which succeeded
pub record HasRun {S : Type 0} (g : Ghosts S) (script : List SqlStatement) (old new : Held S) : Type 0 where
  pub inside : HasCleanDisk (state g new) → IsTrue (state g new).in_transaction
  pub ran : HasCleanDisk (state g new) → RanInside g (calls_of script) old new
  pub keeps : HasCleanDisk (state g new) → KeepsCommit (state g old) (state g new)
  pub opened : HasCleanDisk (state g new) → script ≢ [] → IsTrue (state g old).is_open
  pub crash : Survives (state g old) (state g new) (λ _. ⊥)
