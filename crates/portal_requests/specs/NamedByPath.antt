-- A message names the matter of its path.
use Rattle.std.specs.Prelude.{ℕ, ◌≡◌}
use Rattle.trust_desk.specs.Heard.{is_the, names}
use Rattle.portal_messages.specs.declared.message.Message.{Message}
use Rattle.portal_messages.specs.Fields.{path_of}
use Rattle.portal_requests.specs.Paths.{named_in}
use Rattle.portal_requests.specs.Requests.{heard_of}

-- what the desk hears of a message names a matter exactly if the message's path does, whether it becomes a request or
-- is refused
abbrev pub NamedByPath : Type 0
NamedByPath = (n : ℕ) (m : Message) → names n (heard_of m) ≡ is_the n (named_in (path_of m.target))
