-- How the clients of a port are served, one after the other, and the firm that they leave.
use Rattle.std.specs.Prelude.{◌≡◌, ◌⊎◌, ℕ, suc, length, List, [], ◌∷◌, Option}
use Rattle.std.specs.Io.KnownBytes.{Appends}
use Rattle.firm_rows.specs.Firm.{Firm}
use Rattle.portal_http.specs.declared.stream.StreamEnd.{StreamEnd}
use Rattle.portal_http.specs.Clients.{Comes, Client, Clients, Gone, Refused}
use Rattle.portal_http.specs.EndLines.{IsTold}
use Rattle.portal_http.specs.Output.{Output, output_of}
use Rattle.portal_http.specs.declared.server.ClientEnd.{ClientEnd}
use Rattle.portal_http.specs.declared.server.ClientEnd.TheVariants as client
use Rattle.portal_http.specs.declared.server.ServeEnd.{ServeEnd}
use Rattle.portal_http.specs.declared.server.ServeEnd.TheVariants as serving
use Rattle.cashier.specs.Stream.{StreamEnds}
use Rattle.cashier.specs.declared.outcome.Outcome.{Outcome}
use Rattle.cashier.specs.declared.outcome.Outcome.TheVariants as outcome

-- the outcome for the end of serving, however the streams of the clients ended
abbrev pub serving_outcome : ServeEnd → Outcome
serving_outcome serving.Done = outcome.Done
serving_outcome serving.NetworkFault = outcome.NetworkFault
serving_outcome serving.WriteFault = outcome.OutputFault

module _ {W : Type 0} (contents : W → Option (List ℕ)) where
  -- the stream of a client that may come was served on a day, and its answers were written to that client
  pub record IsAnswered (day : ℕ) (comes : Comes W → Type 0) (before : Firm) (end : StreamEnd) (after : Firm)
      : Type 0 where
    pub stream : Option (List ℕ)
    pub writer : W
    pub left : W
    pub came : comes (Client stream writer)
    pub ends : StreamEnds day stream (output_of contents writer left) end before after

  -- a client could not be served, because it was gone or the system could not make its connection; nothing was done
  pub record IsGone (comes : Comes W → Type 0) (before after : Firm) : Type 0 where
    pub came : comes Gone
    pub firm : after ≡ before

  -- what became of a client
  abbrev pub IsMet : ℕ → (Comes W → Type 0) → Firm → ClientEnd → Firm → Type 0
  IsMet day comes before (client.Served end) after = IsAnswered day comes before end after
  IsMet day comes before client.Gone after = IsGone comes before after

  -- clients were served in turn, each over the firm that the one before it left; `comes k` is what the accept after k
  -- others may return
  abbrev pub AreMetInTurn : ℕ → (ℕ → Comes W → Type 0) → Firm → List ClientEnd → Firm → Type 0
  AreMetInTurn day comes before [] after = after ≡ before
  AreMetInTurn day comes before (end ∷ ends) after =
      (mid : Firm) × IsMet day (comes 0) before end mid × AreMetInTurn day (λ k. comes (suc k)) mid ends after

-- clients of a port were served, and that ended with this outcome: what became of each, in order, and what was written
-- about that; serving stopped early if a line could not be written, as the end then says, and otherwise only if
-- the network refused an accept
pub record IsPortServed {W : Type 0} (day : ℕ) (clients : Clients W) (output : Output) (told : Outcome)
    (before after : Firm) : Type 0 where
  pub end : ServeEnd
  pub outcome : serving_outcome end ≡ told
  pub ends : List ClientEnd
  pub met : AreMetInTurn clients.contents day clients.comes before ends after
  pub lines : IsTold end clients.count ends output.before output.after
  pub refused : end ≡ serving.NetworkFault → clients.comes (length ends) Refused

-- a port was not available, and nothing was done
pub record IsPortRefused (refused : Type 0) (output : Output) (told : Outcome) (before after : Firm) : Type 0 where
  pub cause : refused
  pub outcome : told ≡ outcome.NetworkFault
  pub written : Appends output.before output.after []
  pub firm : after ≡ before

-- how a port ends of which these clients were to be served on a day, given when it is not available, what was written
-- by then, and the firm before and after
abbrev pub PortEnds : {W : Type 0} → ℕ → Clients W → Type 0 → Output → Outcome → Firm → Firm → Type 0
PortEnds day clients refused output told before after =
    IsPortServed day clients output told before after ⊎ IsPortRefused refused output told before after
