-- What an accept may return, and what is known of ports and of clients.
use Rattle.std.specs.Prelude.{ℕ, List, Option}
use Rattle.portal_http.specs.declared.server.AcceptFault.{AcceptFault}
use Rattle.portal_http.specs.declared.server.AcceptFault.TheVariants as fault

-- what an accept returns: a client, with the bytes that it sends, if known, and its writer; a client that is gone or
-- whose connection could not be made; or a refusal of the network
pub data Comes (W : Type 0) : Type 0 where
  Client : (stream : Option (List ℕ)) (writer : W) → Comes W
  Gone : Comes W
  Refused : Comes W

abbrev pub comes_of : {W : Type 0} → AcceptFault → Comes W
comes_of fault.Aborted = Gone
comes_of fault.Network = Refused

-- what is known of a port
pub record Port (W : Type 0) : Type 1 where
  -- what each accept may return, by how many come before it
  pub comes : ℕ → Comes W → Type 0
  -- it is not available
  pub refuses : Type 0

-- what is known of ports, by their numbers
abbrev pub Ports : Type 0 → Type 1
Ports W = ℕ → Port W

-- clients that are to be served one after the other
pub record Clients (W : Type 0) : Type 1 where
  -- how many
  pub count : ℕ
  -- what was written to one, if it is known
  pub contents : W → Option (List ℕ)
  -- what each accept may return, by how many come before it
  pub comes : ℕ → Comes W → Type 0

abbrev pub clients_of : {W : Type 0} → ℕ → (W → Option (List ℕ)) → (ℕ → Comes W → Type 0) → Clients W
clients_of count contents comes = record { count = count; contents = contents; comes = comes }
