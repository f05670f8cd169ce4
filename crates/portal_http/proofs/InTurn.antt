-- Clients that are served in turn.
use Rattle.portal_http.proofs.Names.{Seen, ◌≡◌, ◌+◌, ◌<◌, ◌≤◌, ℕ, suc, List, [], ◌∷◌, ◌++◌, Option, take, length, refl, sym, ap, ◌∙◌, subst, arith, length-append, Appends, Appends-nil, Appends-trans, take-append-add, append-nil, AreServedInTurn, IsAny, IsClientServed, KeepsBook, ServedAll, ints, nat_tests}
use Rattle.std.proofs.lemmas.List.Concat.{flat_map-append}
use Rattle.portal_http.specs.Clients.{Comes, Gone, Refused, clients_of}
use Rattle.portal_http.specs.EndLines.{client_line, client_lines}
use Rattle.portal_http.specs.Output.{Output}
use Rattle.portal_http.specs.declared.server.ClientEnd.{ClientEnd}
use Rattle.portal_http.specs.declared.server.ClientEnd.TheVariants as became
use Rattle.portal_http.specs.declared.server.ServeEnd.TheVariants as serving

-- the lines of one client more
pub lines-push : (ends : List ClientEnd) (end : ClientEnd) → client_lines (ends ++ end ∷ []) ≡ client_lines ends ++ client_line end
lines-push ends end = flat_map-append client_line ends (end ∷ []) ∙ ap (λ line. client_lines ends ++ line) (append-nil (client_line end))

pub length-push : (ends : List ClientEnd) (end : ClientEnd) → length (ends ++ end ∷ []) ≡ length ends + 1
length-push ends end = length-append ends (end ∷ [])

-- what was written, by the bytes before and after
abbrev pub wrote : Option (List ℕ) → Option (List ℕ) → Output
wrote before after = record { before = before; after = after }

pub standing-still : (b : Seen) → KeepsBook IsAny b b
standing-still b = record { was_clean = λ clean. clean; was_sure = λ sure. sure; still_stands = λ clean stands. stands; still_lasts = λ _ _ lasts. lasts; cause = λ _ _. tt }

pub standing-then : {old mid new : Seen} → KeepsBook IsAny old mid → KeepsBook IsAny mid new → KeepsBook IsAny old new
standing-then a b = grind (arith, ints, nat_tests)

module _ {B W : Type 0} (seen : B → Seen) (contents : W → Option (List ℕ)) where
  -- what may come of one accept may come of another
  pub client-as : (day : ℕ) (comes may : Comes W → Type 0) (old : B) (end : ClientEnd) (new : B) → ((c : Comes W) → comes c → may c)
      → IsClientServed seen contents day comes old end new
      → IsClientServed seen contents day may old end new
  client-as day comes may old (became.Served end) new also c =
      record { stream = c.stream; writer = c.writer; left = c.left; came = also _ c.came; served = c.served }
  client-as day comes may old became.Gone new also c = record { came = also Gone c.came; same = c.same }

  -- one client more
  pub in-turn-push : (day : ℕ) (comes : ℕ → Comes W → Type 0) (old mid new : B) (ends : List ClientEnd) (end : ClientEnd)
      → AreServedInTurn seen contents day comes old ends mid
      → IsClientServed seen contents day (comes (length ends)) mid end new
      → AreServedInTurn seen contents day comes old (ends ++ end ∷ []) new
  in-turn-push day comes old mid new [] end same client =
      (new, subst (λ b. IsClientServed seen contents day (comes 0) b end new) same client, refl)
  in-turn-push day comes old mid new (e ∷ es) end (next, first, rest) client =
      (next, first, in-turn-push day (λ k. comes (suc k)) next mid new es end rest client)

  -- a client leaves the book standing
  pub client-keeps : (day : ℕ) (comes : Comes W → Type 0) (old : B) (end : ClientEnd) (new : B)
      → IsClientServed seen contents day comes old end new → KeepsBook IsAny (seen old) (seen new)
  client-keeps day comes old (became.Served end) new c =
      let kept = c.served.kept in
      record { was_clean = kept.was_clean; was_sure = kept.was_sure; still_stands = kept.still_stands; still_lasts = kept.still_lasts; cause = λ _ _. tt }
  client-keeps day comes old became.Gone new c =
      subst (λ b. KeepsBook IsAny (seen old) (seen b)) (sym c.same) (standing-still (seen old))

-- so many clients were served, and each one's end was told; what may come of the accepts to come
pub record ServingAll {B W : Type 0} (seen : B → Seen)
    (contents : W → Option (List ℕ)) (day : ℕ) (comes : ℕ → Comes W → Type 0) (before : Option (List ℕ)) (old : B) (n : ℕ)
    (coming : ℕ → Comes W → Type 0) (after : Option (List ℕ)) (new : B) : Type 0 where
  pub ends : List ClientEnd
  pub many : length ends ≡ n
  pub served : AreServedInTurn seen contents day comes old ends new
  pub told : Appends before after (client_lines ends)
  pub behind : (k : ℕ) (c : Comes W) → coming k c → comes (n + k) c
  pub kept : KeepsBook IsAny (seen old) (seen new)

module _ {B W : Type 0} (seen : B → Seen)
    (contents : W → Option (List ℕ)) (day : ℕ) (comes : ℕ → Comes W → Type 0) (before : Option (List ℕ)) (old : B) where
  -- nobody was served yet
  pub serving-none : ServingAll seen contents day comes before old 0 comes before old
  serving-none = record {
    ends = [];
    many = refl;
    served = refl;
    told = Appends-nil before;
    behind = λ k c may. subst (λ j. comes j c) (omega arith) may;
    kept = standing-still (seen old);
  }

  module _ (n : ℕ) (coming : ℕ → Comes W → Type 0) (mid : Option (List ℕ)) (book : B)
      (h : ServingAll seen contents day comes before old n coming mid book) where
    -- what may come next may come behind those that were served
    next : (c : Comes W) → coming 0 c → comes (length h.ends) c
    next c may = subst (λ k. comes k c) (omega (arith, h.many)) (h.behind 0 c may)

    -- as many were served as were to be
    pub served-done : (count : ℕ) → n ≡ count → ServedAll seen (clients_of count contents comes) day (wrote before mid) serving.Done old book
    served-done count same = record { ends = h.ends; served = h.served; told = (h.many ∙ same, h.told); refused = λ e. cc }

    -- the network refused an accept
    pub served-network_fault : (count : ℕ) → n < count → coming 0 Refused
        → ServedAll seen (clients_of count contents comes) day (wrote before mid) serving.NetworkFault old book
    served-network_fault count less refused = record { ends = h.ends; served = h.served; told = (omega (arith, h.many, less), h.told); refused = λ _. next Refused refused }

    module _ (end : ClientEnd) (new : B) (client : IsClientServed seen contents day (coming 0) book end new) where
      -- the clients with this one
      in-turn-more : AreServedInTurn seen contents day comes old (h.ends ++ end ∷ []) new
      in-turn-more =
          in-turn-push seen contents day comes old book new h.ends end h.served
          (client-as seen contents day (coming 0) (comes (length h.ends)) book end new next client)

      more : length (h.ends ++ end ∷ []) ≡ n + 1
      more = length-push h.ends end ∙ ap (λ k. k + 1) h.many

      -- a client more was served, and its end was told
      pub serving-more : (later : ℕ → Comes W → Type 0) → ((k : ℕ) (c : Comes W) → later k c → coming (k + 1) c)
          → (after : Option (List ℕ)) → Appends mid after (client_line end)
          → ServingAll seen contents day comes before old (n + 1) later after new
      serving-more later next after told = record {
        ends = h.ends ++ end ∷ [];
        many = more;
        served = in-turn-more;
        told = subst (Appends before after) (sym (lines-push h.ends end)) (Appends-trans before mid after _ _ h.told told);
        behind = λ k c may. subst (λ j. comes j c) (omega arith) (h.behind (k + 1) c (next k c may));
        kept = standing-then h.kept (client-keeps seen contents day _ _ _ _ client);
      }

      -- a client more was served, and its end could not be told
      pub served-write_fault : (count : ℕ) → n + 1 ≤ count → (after : Option (List ℕ))
          → (k : ℕ) × (k < length (client_line end)) × Appends mid after (take k (client_line end))
          → ServedAll seen (clients_of count contents comes) day (wrote before after) serving.WriteFault old new
      served-write_fault count room after (k, less, wrote) = record {
        ends = h.ends ++ end ∷ [];
        served = in-turn-more;
        told = (
          omega (arith, more),
          record {
            size = length (client_lines h.ends) + k;
            less = omega (arith, less, ap length (lines-push h.ends end), length-append (client_lines h.ends) (client_line end));
            written = subst (Appends before after)
                (sym (ap (take (length (client_lines h.ends) + k)) (lines-push h.ends end) ∙ take-append-add (client_lines h.ends) (client_line end) k))
                (Appends-trans before mid after _ _ h.told wrote);
          },
        );
        refused = λ e. cc;
      }
