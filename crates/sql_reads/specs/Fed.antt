-- Sinks to which rows were passed.
use Rattle.std.specs.Prelude.{◌≡◌, ◌⊎◌, ℕ, List, [], ◌++◌, length, fold, map, Result, OnOk, OnErr, IfOk}
use Rattle.sqlite_value.specs.Order.{Row}
use Rattle.sqlite_trees.specs.declared.store.Store.{Ghosts}
use Rattle.sqlite.specs.Held.{Held, state}
use Rattle.sqlite.specs.State.{State, Shown, Begins}
use Rattle.firm_rows.specs.Countable.{AreCountable}
use Rattle.firm_rows.specs.Firm.{Firm}
use Rattle.firm_rows.specs.Handing.{FoldsFront}
use Rattle.sql_schema.specs.declared.layout.Layout.{Layout}
use Rattle.sql_tables.specs.Standing.{Stands}
use Rattle.sql_rows.specs.Standing.{firm_in}

-- on Ok the sink took all rows of the answer, in order; on an error it took the first rows of an answer, or none
pub record IsFed {K E : Type 0} (step : K → Row → K) (Fits : Row → Type 0) (sql : List ℕ) (params : Row)
    (shows leaves : State) (result : Result ℕ E) (old new : K) : Type 0 where
  pub all : IfOk result
      (λ count. (rows : List Row) × Shown sql params shows leaves rows × (new ≡ fold step old rows)
      × (count ≡ length rows) × AreCountable Fits rows)
  pub some : OnErr result
      ((new ≡ old) ⊎ ((rows : List Row) × Begins sql params shows rows × (new ≡ fold step old rows)))

-- each answer to this SELECT shows these values, and what an answer begins with shows some first ones of them
pub record AreAnswered {T : Type 0} (shown : Row → T) (sql : List ℕ) (params : Row) (shows leaves : State)
    (values : List T) : Type 0 where
  pub all : (rows : List Row) → Shown sql params shows leaves rows → map shown rows ≡ values
  pub some : (rows : List Row) → Begins sql params shows rows → (rest : List T) × (map shown rows ++ rest ≡ values)

-- where the tables stand for a firm, the answers to this SELECT show a list of that firm
abbrev pub IsListOf : {S T : Type 0} → Ghosts S → (Row → T) → List ℕ → (Firm → List T) → Type 0
IsListOf {S} g shown sql list =
    (l : Layout) (shows leaves : Held S) → Stands l (state g shows).now
    → AreAnswered shown sql [] (state g shows) (state g leaves) (list (firm_in l (state g shows).now.trees))

-- on Ok the sink was passed all rows, and their count was returned; on an error it was passed a prefix of them
pub record AreCounted {S A E : Type 0} (step : S → A → S) (rows : List A) (result : Result ℕ E) (old new : S)
    : Type 0 where
  pub all : OnOk result (new ≡ fold step old rows)
  pub some : FoldsFront step old rows new
  pub count : IfOk result (λ n. n ≡ length rows)
