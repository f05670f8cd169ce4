-- Calls that read, one behind another.
use Rattle.sql_reads.proofs.Names.{◌≡◌, IsTrue, Result, Ok, OnOk, subst, State, HasCleanDisk, IsKept, LeavesAll}

-- a call that answered kept all, so that the next begins at what it began at
pub kept_by : {T E : Type 0} (old new : State) (r : Result T E) (x : T) → r ≡ Ok x → LeavesAll r old new → HasCleanDisk new → IsKept old new
kept_by old new r x is left clean = left.same clean (subst (λ q. OnOk q (IsTrue new.is_open)) is (left.serves clean))
