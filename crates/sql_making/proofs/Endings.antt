-- How calls of a connection end.
use Rattle.sql_making.proofs.Names.{◌≡◌, Result, IfOk, IfErr, OnOk, IsTrue, Error, State, KeepsCommit, arith, ints, nat_tests}
use Rattle.sqlite.specs.Steps.{FailsToCommit}

pub if_ok : {T E P : Type 0} {Q : T → Type 0} (r : Result T E) → IfOk r Q → ((x : T) → Q x → P) → OnOk r P
if_ok r h f = grind (arith, ints, nat_tests)

pub either_way : {T E G : Type 0} {P : T → Type 0} {Q : E → Type 0} (r : Result T E) → IfOk r P → IfErr r Q → ((x : T) → P x → G) → ((e : E) → Q e → G) → G
either_way r p q f g = grind (arith, ints, nat_tests)

-- a commit that fails goes back to the last commit, where the transaction is open
pub uncommitted : (first mid last : State) (e : Error) → IsTrue mid.in_transaction → KeepsCommit first mid → FailsToCommit mid last e → IsTrue last.is_open
    → IsTrue first.is_open × (last.now ≡ first.committed) × (last.committed ≡ first.committed)
uncommitted first mid last e inside keeps x6 still = grind (arith, ints, nat_tests)
