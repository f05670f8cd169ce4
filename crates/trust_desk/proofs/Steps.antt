-- A step by its reply.
use Rattle.trust_desk.proofs.Names.{◌≡◌, ℕ, true, false, [], refl, is_fault, Refusal, Firm, Reply, Heard, Kind, OfItems, kind_of, is_fault_reply, refused, IsFaultReply, KindStopped, Stopped, Steps, firm_step, arith, ints, nat_tests}

kind-not_done : (day : ℕ) (firm : Firm) (k : Kind) → KindStopped day firm k firm
kind-not_done day firm (OfItems refused items) = (items, record { front = []; parts = refl; leaves = refl })
kind-not_done day firm _ = refl

-- nothing was done of what is heard
pub nothing-done : (day : ℕ) (firm : Firm) (h : Heard) → Stopped day firm h firm
nothing-done day firm h = kind-not_done day firm (kind_of h)

-- the reply to a fault
fault-reply : (r : Refusal) → is_fault r ≡ true → IsFaultReply (refused r)
fault-reply r fault = grind (arith, ints, nat_tests)

pub steps-fault : (day : ℕ) (firm new : Firm) (h : Heard) (r : Refusal) → is_fault r ≡ true → Stopped day firm h new → Steps day firm h (refused r) new
steps-fault day firm new h r fault stopped = rw fault (record { says = fault-reply r fault; leaves = stopped })

pub steps-plain : (day : ℕ) (firm new : Firm) (h : Heard) (reply : Reply) → is_fault_reply reply ≡ false → reply ≡ (firm_step day firm h).reply → new ≡ (firm_step day firm h).firm → Steps day firm h reply new
steps-plain day firm new h reply plain says leaves = rw plain (says, leaves)
