-- What the end of a stream says of the firm, and of the program's end.
use Rattle.cashier.proofs.Names.{◌≡◌, ℕ, List, Option, Seen, StreamEnd, stream_outcome, arith, ints, nat_tests}
use Rattle.portal_http.specs.Served.{Served}
use Rattle.cashier.specs.Stream.{StreamEnds}
use Rattle.cashier.specs.declared.outcome.Outcome.TheVariants as outcome

-- no stream ends by a fault of the store
pub stream-no-store : (e : StreamEnd) → stream_outcome e ≡ outcome.StoreFault → ⊥
stream-no-store e h = grind (arith, ints, nat_tests)

-- what was served over a book whose store is clean and stood for a sound firm, said of the firm
pub stream-ends : {day : ℕ} {input before after : Option (List ℕ)} {old new : Seen} {end : StreamEnd}
    → Served day input before old end after new → new.clean → old.stands
    → StreamEnds day input (record { before = before; after = after }) end old.firm new.firm
stream-ends h clean stands = grind (arith, ints, nat_tests)
