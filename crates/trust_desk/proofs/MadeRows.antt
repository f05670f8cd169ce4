-- What rows an import and a run make while they go on, and the replies before a fault.
use Rattle.trust_desk.proofs.Names.{append-nil, cond_both, ◌≡◌, inl, inr, ◌∙◌, ℕ, false, List, [], ◌∷◌, ◌++◌, Option, Some, None, length, take, sym, subst, unwrap_or, Firm, Item, Request, Reply, AreNoFaults, AreNoFaultsButLast, IsAfterFirst, IsMade, IsMadeInRun, before_fault, RunsSoundly, Steps, firm_step, Heard, heard, IsAfterFront, is_fault_reply}

-- An import.

-- of the items of a statement
pub front-of-items : (o : Option (List Item)) (day : ℕ) (firm found : Firm) → IsAfterFirst day firm (Some o) found → (rest : List Item) × IsAfterFront day firm (unwrap_or o []) rest found
front-of-items None day firm found is = ([], record { front = is.front; parts = append-nil is.front ∙ is.first; leaves = is.leaves })
front-of-items (Some all) day firm found is = let first = is.first in (first.0, record { front = is.front; parts = first.1; leaves = is.leaves })

-- A run.

pub plain-step : (day : ℕ) (firm new : Firm) (h : Heard) (reply : Reply) → is_fault_reply reply ≡ false → Steps day firm h reply new → new ≡ (firm_step day firm h).firm
plain-step day firm new h reply plain step = let is = rw plain at step in is.1

-- what a run makes, a longer run makes
pub made-before : (day : ℕ) (firm found : Firm) (hs : List Heard) (h : Heard) → IsMadeInRun day firm hs found → IsMadeInRun day firm (hs ++ h ∷ []) found
made-before day firm found [] h made = absurd made
made-before day firm found (p ∷ hs) h made = elim made [ inl first ↦ inl first | inr later ↦ inr (made-before day (firm_step day firm p).firm found hs h later) ]

-- and what its last request makes
pub made-last : (day : ℕ) (firm now found : Firm) (hs : List Heard) (h : Heard) (rs : List Reply) → RunsSoundly day firm hs rs now → AreNoFaults rs → IsMade day now h found → IsMadeInRun day firm (hs ++ h ∷ []) found
made-last day firm now found [] h [] run plain made = inl (subst (λ (f : Firm). IsMade day f h found) run made)
made-last day firm now found (p ∷ hs) h (r ∷ rs) run plain made =
    let is = plain-step day firm run.0 p r plain.0 run.1 in
    inr (made-last day (firm_step day firm p).firm now found hs h rs (subst (λ (f : Firm). RunsSoundly day f hs rs now) is run.3) plain.1 made)
made-last day firm now found _ h _ run plain made = absurd run

-- Faults among the replies.

pub none-before : (rs : List Reply) (r : Reply) → AreNoFaultsButLast (rs ++ r ∷ []) → AreNoFaults rs
none-before [] r plain = tt
none-before (s ∷ []) r plain = (plain.0, tt)
none-before (s ∷ t ∷ rs) r plain = (plain.0, none-before (t ∷ rs) r plain.1)

pub none-at_all : (rs : List Reply) → AreNoFaults rs → AreNoFaultsButLast rs
none-at_all [] plain = tt
none-at_all (s ∷ []) plain = tt
none-at_all (s ∷ t ∷ rs) plain = (plain.0, none-at_all (t ∷ rs) plain.1)

pub none-last : (rs : List Reply) (r : Reply) → AreNoFaults (rs ++ r ∷ []) → is_fault_reply r ≡ false
none-last [] r plain = plain.0
none-last (s ∷ rs) r plain = none-last rs r plain.1

-- what holds of the replies before a fault holds of those before a fault with one reply more
pub fault-front : (Holds : List Reply → Type 0) (rs : List Reply) (r : Reply) → Holds (before_fault rs) → (AreNoFaults rs → Holds rs) → (AreNoFaults rs → is_fault_reply r ≡ false → Holds (rs ++ r ∷ []))
    → Holds (before_fault (rs ++ r ∷ []))
fault-front Holds [] r before now next = cond_both (is_fault_reply r) [] (r ∷ []) Holds (λ fault. before) (next tt)
fault-front Holds (s ∷ rs) r before now next =
    cond_both (is_fault_reply s) [] (s ∷ before_fault (rs ++ r ∷ [])) Holds (λ fault. rw fault at before)
    (λ fine. fault-front (λ l. Holds (s ∷ l)) rs r (rw fine at before) (λ plain. now (fine, plain)) (λ plain. next (fine, plain)))

-- these replies are those of a run of the first requests
abbrev pub AreRun : ℕ → Firm → List Request → List Reply → Type 0
AreRun day firm requests rs = (mid : Firm) × RunsSoundly day firm (heard (take (length rs) requests)) rs mid

-- so it is of the replies before a fault, with one reply more
pub run-before : (day : ℕ) (firm : Firm) (requests : List Request) (rs all : List Reply) (r : Reply) → all ≡ rs ++ r ∷ []
    → AreRun day firm requests (before_fault rs) → (AreNoFaults rs → AreRun day firm requests rs) → (AreNoFaults rs → is_fault_reply r ≡ false → AreRun day firm requests all)
    → AreRun day firm requests (before_fault all)
run-before day firm requests rs all r is before now next =
    subst (λ (l : List Reply). AreRun day firm requests (before_fault l)) (sym is)
    (fault-front (AreRun day firm requests) rs r before now (λ plain fine. subst (AreRun day firm requests) is (next plain fine)))
