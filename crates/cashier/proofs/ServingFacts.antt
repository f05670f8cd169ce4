-- What the end of serving clients says of the firm, and of the program's end.
use Rattle.cashier.proofs.Names.{◌≡◌, ℕ, suc, List, [], ◌∷◌, Option, ap, subst, sym, Seen, Comes, AreServedInTurn, IsClientServed, arith, ints, nat_tests}
use Rattle.portal_http.proofs.InTurn.{client-as}
use Rattle.portal_http.specs.declared.server.ClientEnd.{ClientEnd}
use Rattle.portal_http.specs.declared.server.ClientEnd.TheVariants as became
use Rattle.portal_http.specs.declared.server.ServeEnd.{ServeEnd}
use Rattle.cashier.specs.Serving.{AreMetInTurn, IsMet, serving_outcome}
use Rattle.cashier.specs.declared.outcome.Outcome.TheVariants as outcome
use Rattle.cashier.proofs.StreamFacts.{stream-ends}

-- serving ends by no fault of the store
pub serving-no-store : (e : ServeEnd) → serving_outcome e ≡ outcome.StoreFault → ⊥
serving-no-store e h = grind (arith, ints, nat_tests)

module _ {B W : Type 0} (seen : B → Seen) (contents : W → Option (List ℕ)) where
  -- a client that was served over a book whose store is clean and stood for a sound firm, said of the firm
  client-met : (day : ℕ) (comes : Comes W → Type 0) (old : B) (end : ClientEnd) (new : B)
      → IsClientServed seen contents day comes old end new → (seen new).clean → (seen old).stands → IsMet contents day comes (seen old).firm end (seen new).firm
  client-met day comes old (became.Served end) new h c s =
      record { stream = h.stream; writer = h.writer; left = h.left; came = h.came; ends = stream-ends h.served c s }
  client-met day comes old became.Gone new h c s = record { came = h.came; firm = ap (λ b. (seen b).firm) h.same }

  -- a client leaves the book standing
  client-clean : (day : ℕ) (comes : Comes W → Type 0) (old : B) (end : ClientEnd) (new : B)
      → IsClientServed seen contents day comes old end new → (seen new).clean → (seen old).clean
  client-clean day comes old (became.Served end) new h c = h.served.kept.was_clean c
  client-clean day comes old became.Gone new h c = subst (λ b. (seen b).clean) h.same c

  client-stands : (day : ℕ) (comes : Comes W → Type 0) (old : B) (end : ClientEnd) (new : B)
      → IsClientServed seen contents day comes old end new → (seen new).clean → (seen old).stands → (seen new).stands
  client-stands day comes old (became.Served end) new h c s = h.served.kept.still_stands c s
  client-stands day comes old became.Gone new h c s = subst (λ b. (seen b).stands) (sym h.same) s

  turn-clean : (day : ℕ) (comes : ℕ → Comes W → Type 0) (old : B) (ends : List ClientEnd) (new : B)
      → AreServedInTurn seen contents day comes old ends new → (seen new).clean → (seen old).clean
  turn-clean day comes old [] new same c = subst (λ b. (seen b).clean) same c
  turn-clean day comes old (end ∷ ends) new (mid, client, rest) c =
      client-clean day (comes 0) old end mid client (turn-clean day (λ k. comes (suc k)) mid ends new rest c)

  -- all clients, one after the other
  pub met-in-turn : (day : ℕ) (comes : ℕ → Comes W → Type 0) (old : B) (ends : List ClientEnd) (new : B)
      → AreServedInTurn seen contents day comes old ends new → (seen new).clean → (seen old).stands → AreMetInTurn contents day comes (seen old).firm ends (seen new).firm
  met-in-turn day comes old [] new same c s = ap (λ b. (seen b).firm) same
  met-in-turn day comes old (end ∷ ends) new (mid, client, rest) c s =
      let mid_clean = turn-clean day (λ k. comes (suc k)) mid ends new rest c in (
        (seen mid).firm,
        client-met day (comes 0) old end mid client mid_clean s,
        met-in-turn day (λ k. comes (suc k)) mid ends new rest c (client-stands day (comes 0) old end mid client mid_clean s),
      )

  -- what comes of a listener's accepts may come of its port's
  pub served-as : (day : ℕ) (comes may : ℕ → Comes W → Type 0) → ((k : ℕ) (c : Comes W) → comes k c → may k c) → (old : B) (ends : List ClientEnd) (new : B)
      → AreServedInTurn seen contents day comes old ends new → AreServedInTurn seen contents day may old ends new
  served-as day comes may also old [] new same = same
  served-as day comes may also old (end ∷ ends) new (mid, client, rest) = (
    mid,
    client-as seen contents day (comes 0) (may 0) old end mid (also 0) client,
    served-as day (λ k. comes (suc k)) (λ k. may (suc k)) (λ k. also (suc k)) mid ends new rest,
  )
