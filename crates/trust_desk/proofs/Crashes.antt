-- What a crash may leave after one call after another.
use Rattle.trust_desk.proofs.Names.{Seen, ◌≡◌, inl, Result, Ok, OnOk, IsOk, StoreFault, Firm, FirmChange, after, IsRead, IsWrite, MayLeave, MayLeaveChange, arith, ints, nat_tests}

-- No call, and another way to say it.

pub leave-still : {done : Type 0} {Makes : Firm → Type 0} (firm : Firm) (b : Seen) → MayLeave done Makes firm firm b b
leave-still firm b = record { crash = λ found may. inl may; settled = λ done alone. alone; serves = λ served done. served }

pub leave-as : {done told : Type 0} {Makes Says : Firm → Type 0} {first last same : Firm} {old new : Seen}
    → (told → done) → ((found : Firm) → Makes found → Says found) → (told → same ≡ last)
    → MayLeave done Makes first last old new → MayLeave told Says first same old new
leave-as tells makes is a = grind (arith, ints, nat_tests)

-- One call after another.

pub leave-then : {done next : Type 0} {Makes More All : Firm → Type 0} {first mid last : Firm} {old now new : Seen}
    → ((found : Firm) → Makes found → All found) → ((found : Firm) → More found → All found)
    → done → MayLeave done Makes first mid old now → MayLeave next More mid last now new
    → MayLeave next All first last old new
leave-then left right is a b = grind (arith, ints, nat_tests)

-- The calls of a book.

at-ok : {T E P : Type 0} (result : Result T E) → OnOk result P → IsOk result → P
at-ok result p ok = grind (arith, ints, nat_tests)

-- a read makes no rows
pub read-leaves : {T : Type 0} {result : Result T StoreFault} {Makes : Firm → Type 0} {old new : Seen}
    → IsRead result old new → new.sure → old.stands
    → MayLeave (IsOk result) Makes old.firm old.firm old new
read-leaves {result} read sure stands = grind (arith, ints, nat_tests, at-ok)

-- a write makes the rows with its change
pub write-leaves : {T : Type 0} {change : FirmChange} {result : Result T StoreFault} {old new : Seen}
    → IsWrite change result old new → new.sure → old.stands
    → MayLeaveChange (IsOk result) old.firm (after change old.firm) old new
write-leaves {result} write sure stands = grind (arith, ints, nat_tests, at-ok)

-- a write after a read that was answered Ok, where what was read tells what the change makes
pub written-leaves : {T U : Type 0} {read : T} {change : FirmChange} {result : Result U StoreFault} {made : Firm} {old now new : Seen}
    → IsRead (Ok read) old now → IsWrite change result now new
    → (now.clean → after change old.firm ≡ made) → new.sure → old.stands
    → MayLeaveChange (IsOk result) old.firm made old new
written-leaves {change} read write tells sure stands =
    grind (arith, ints, nat_tests, after, write-leaves)

-- A call that was not done.

pub leave-failed : {done told : Type 0} {Makes Says : Firm → Type 0} {first last same : Firm} {old new : Seen}
    → (told → ⊥) → ((found : Firm) → Makes found → Says found)
    → MayLeave done Makes first last old new → MayLeave told Says first same old new
leave-failed never makes a = leave-as (λ fine. absurd (never fine)) makes (λ fine. absurd (never fine)) a
