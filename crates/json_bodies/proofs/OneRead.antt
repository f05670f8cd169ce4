-- Reads of a book, one after another, as one read.
use Rattle.std.proofs.Common.{Err, Ok, Result, arith}
use Rattle.std.proofs.lemmas.Bool.Decides.{nat_tests}
use Rattle.std.proofs.lemmas.Int.{ints}
use Rattle.trust_base.specs.declared.refusal.StoreFault.{StoreFault}
use Rattle.trust_base.specs.declared.refusal.StoreFault.TheVariants.{Memory}
use Rattle.trust_store.specs.Books.{counted}
use Rattle.trust_store.specs.Calls.{IsRead}
use Rattle.trust_store.specs.Seen.{Seen}

-- a read after another
pub read-then : {T U : Type 0} {x : T} {result : Result U StoreFault} {old now new : Seen}
    → IsRead (Ok x) old now → IsRead result now new
    → IsRead result old new
read-then {result} a b = grind (arith, ints, nat_tests, counted)

-- what was read, as another value
pub read-as : {T U : Type 0} {x : T} {y : U} {old new : Seen} → IsRead (Ok x) old new → IsRead (Ok y) old new
read-as r = grind (arith, ints, nat_tests)

-- what was read, without memory to tell of it
pub read-short : {T U : Type 0} {x : T} {old new : Seen} → IsRead (Ok x) old new → IsRead {T = U} (Err Memory) old new
read-short r = grind (arith, ints, nat_tests)
