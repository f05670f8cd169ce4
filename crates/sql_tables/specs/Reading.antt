-- The state in which a call leaves the connection, and which texts only read.
use Rattle.std.specs.Prelude.{◌≡◌, ◌⊎◌, ℕ, Bool, true, false, List, Result, Ok, Err, OnOk, IsTrue}
use Rattle.sqlite_trees.specs.Tree.{Trees}
use Rattle.sqlite_ast.specs.declared.Statement.{Statement}
use Rattle.sqlite_ast.specs.declared.Statement.TheVariants as written
use Rattle.sqlite_syntax.specs.declared.statement.Parsed.{Parsed}
use Rattle.sqlite_resolve.specs.Compile.{first}
use Rattle.sqlite_resolve.specs.Lowering.{Checked}
use Rattle.sqlite.specs.State.{State, HasCleanDisk}

-- the connection was open, and sees and has committed the same as before
pub record IsKept (old new : State) : Type 0 where
  pub was_open : IsTrue old.is_open
  pub now : new.now ≡ old.now
  pub committed : new.committed ≡ old.committed

-- a crash after the call may leave only what it might have left before, or one of these trees
abbrev pub LeavesOnly : State → State → (Trees → Type 0) → Type 0
LeavesOnly old new Commits = (db : Trees) → new.may_leave db → old.may_leave db ⊎ Commits db

-- a call that reads changes nothing, whatever the tables are, not even what a crash may leave; if it returns Ok, the
-- connection is open
pub record LeavesAll {T E : Type 0} (result : Result T E) (old new : State) : Type 0 where
  pub same : HasCleanDisk new → IsTrue new.is_open → IsKept old new
  pub serves : HasCleanDisk new → OnOk result (IsTrue new.is_open)
  pub was_clean : HasCleanDisk new → HasCleanDisk old
  pub crash : HasCleanDisk new → LeavesOnly old new (λ _. ⊥)

abbrev pub is_selection : Statement → Bool
is_selection (written.Select s) = true
is_selection _ = false

abbrev pub selects : Checked Parsed → Bool
selects (Ok p) = is_selection p.statement
selects (Err e) = false

-- the text begins with a SELECT
abbrev pub IsSelect : List ℕ → Type 0
IsSelect sql = selects (first sql) ≡ true
