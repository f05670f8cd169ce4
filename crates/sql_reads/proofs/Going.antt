-- Calls that read, one behind another.
use Rattle.sql_reads.proofs.Names.{◌≡◌, Result, Ok, Err, IsErr, State, HasCleanDisk, StoreFault, Store, LeavesAll, leaves_on, leaves_then, arith, ints, nat_tests}
use Rattle.sql_reads.proofs.Calls.{kept_by}
use Rattle.sql_reads.proofs.Fed.{of_err}

-- reads so far left all as it was, whether the connection was open as they began or not
pub record GoesOn (old new : State) : Type 0 where
  pub now : HasCleanDisk new → new.now ≡ old.now
  pub left : LeavesAll {T = Unit {0}} {E = StoreFault} (Err Store) old new

pub goes_from : (s : State) → GoesOn s s
goes_from s = grind (arith, ints, nat_tests)

as_refused : {T : Type 0} (fault : StoreFault) (r : Result T StoreFault) (old new : State) → LeavesAll r old new
    → LeavesAll {T = Unit {0}} {E = StoreFault} (Err fault) old new
as_refused fault r old new left = leaves_on r (Err fault) old new (λ e. absurd (let f = e in cc)) left

-- one more that answered
pub goes_then : {T : Type 0} (a b c : State) (r : Result T StoreFault) (x : T) → r ≡ Ok x → GoesOn a b
    → LeavesAll r b c → GoesOn a c
goes_then a b c r x is on left = grind (arith, ints, nat_tests, kept_by, leaves_then, as_refused)

-- Reads that all answered.

abbrev pub AllLeft : State → State → Type 0
AllLeft = LeavesAll {T = Unit {0}} {E = StoreFault} (Ok tt)

pub all_then : {T : Type 0} (a b c : State) (r : Result T StoreFault) (x : T) → r ≡ Ok x → AllLeft a b
    → LeavesAll r b c → AllLeft a c
all_then a b c r x is left more = grind (arith, ints, nat_tests, leaves_then, leaves_on)

-- at an error, whatever the last call returned
pub left_at_err : {T U E F : Type 0} (r : Result U F) (q : Result T E) (a b : State) → IsErr q → LeavesAll r a b
    → LeavesAll q a b
left_at_err r q a b is left = grind (arith, ints, nat_tests, of_err, leaves_on)
