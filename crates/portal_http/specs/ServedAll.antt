-- What serving connections one after the other does.
use Rattle.std.specs.Prelude.{◌≡◌, ℕ, suc, length, List, [], ◌∷◌, Option}
use Rattle.trust_store.specs.Seen.{Seen}
use Rattle.portal_http.specs.Served.{Served}
use Rattle.portal_http.specs.declared.stream.StreamEnd.{StreamEnd}
use Rattle.portal_http.specs.Clients.{Comes, Client, Clients, Gone, Refused}
use Rattle.portal_http.specs.EndLines.{IsTold}
use Rattle.portal_http.specs.Output.{Output}
use Rattle.portal_http.specs.declared.server.ClientEnd.{ClientEnd}
use Rattle.portal_http.specs.declared.server.ClientEnd.TheVariants as client
use Rattle.portal_http.specs.declared.server.ServeEnd.{ServeEnd}
use Rattle.portal_http.specs.declared.server.ServeEnd.TheVariants as serving

-- Of a book only what is seen of it is used, and of a client what was written to it.
module _ {B W : Type 0} (seen : B → Seen) (contents : W → Option (List ℕ)) where
  -- the stream of a client that may come was served to that client: its writer before and after
  pub record IsStreamServed (day : ℕ) (comes : Comes W → Type 0) (old : B) (end : StreamEnd) (new : B) : Type 0 where
    pub stream : Option (List ℕ)
    pub writer : W
    pub left : W
    pub came : comes (Client stream writer)
    pub served : Served day stream (contents writer) (seen old) end (contents left) (seen new)

  -- a client was gone, or the system could not make its connection; nothing was done
  pub record IsAborted (comes : Comes W → Type 0) (old new : B) : Type 0 where
    pub came : comes Gone
    pub same : new ≡ old

  -- a client was served, or was gone, as its end says
  abbrev pub IsClientServed : ℕ → (Comes W → Type 0) → B → ClientEnd → B → Type 0
  IsClientServed day comes old (client.Served end) new = IsStreamServed day comes old end new
  IsClientServed day comes old client.Gone new = IsAborted comes old new

  -- clients were served in turn, each over the book that the one before it left; `comes k` is what the accept after k
  -- others may return
  abbrev pub AreServedInTurn : ℕ → (ℕ → Comes W → Type 0) → B → List ClientEnd → B → Type 0
  AreServedInTurn day comes old [] new = new ≡ old
  AreServedInTurn day comes old (end ∷ ends) new =
      (mid : B) × IsClientServed day (comes 0) old end mid × AreServedInTurn day (λ k. comes (suc k)) mid ends new

-- Clients were to be served: what became of each, in order, and what was written of that. It stopped early only if a
-- line could not be written, which the end says, or if the network refused an accept.
pub record ServedAll {B W : Type 0} (seen : B → Seen) (clients : Clients W) (day : ℕ) (output : Output)
    (end : ServeEnd) (old new : B) : Type 0 where
  pub ends : List ClientEnd
  pub served : AreServedInTurn seen clients.contents day clients.comes old ends new
  pub told : IsTold end clients.count ends output.before output.after
  pub refused : end ≡ serving.NetworkFault → clients.comes (length ends) Refused
