-- Why a query of the tables failed.
use Rattle.std.specs.Prelude.{◌≡◌, ◌↔◌, ℕ, List}
use Rattle.sqlite_value.specs.Order.{Row}
use Rattle.sqlite.specs.declared.error.Error.{Error}
use Rattle.sqlite.specs.declared.error.Error.TheVariants.{SqliteFailure}
use Rattle.sqlite.specs.declared.error.ErrorCode.TheVariants.{OutOfMemory}
use Rattle.sqlite.specs.State.{State, FailsToQuery}
use Rattle.trust_base.specs.declared.refusal.StoreFault.{StoreFault}
use Rattle.trust_base.specs.declared.refusal.StoreFault.TheVariants.{Memory}

-- the connection ended the query with an error, and the fault is Memory exactly if it ran out of memory
pub record IsCaused (sql : List ℕ) (params : Row) (old new : State) (fault : StoreFault) : Type 0 where
  pub error : Error
  pub failed : FailsToQuery sql params old new error
  pub told : (fault ≡ Memory) ↔ (error ≡ SqliteFailure OutOfMemory)
