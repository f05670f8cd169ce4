-- What contracts see of a stream that is being read, and what comes next in it.
use Rattle.std.specs.Prelude.{◌≡◌, ℕ, true, ⊤, List, Option, Some, None, Result, Ok, Err, option_map}
use Rattle.portal_messages.specs.Heads.{is_ended}
use Rattle.portal_messages.specs.Messages.{BeginsWithAll, IsFault, IsMessage, is_framing}
use Rattle.portal_messages.specs.declared.message.Message.{Message}
use Rattle.portal_messages.specs.declared.input.Next.{Next}
use Rattle.portal_messages.specs.declared.input.Next.TheVariants as nexts
use Rattle.portal_messages.specs.declared.input.Stop.{Stop}
use Rattle.portal_messages.specs.declared.input.Last.{Last}
use Rattle.portal_messages.specs.declared.input.Last.TheVariants as lasts

-- what a contract sees of a stream that is being read
pub record Reading : Type 0 where
  -- the bytes that its reader has still to give, if known
  pub coming : Option (List ℕ)
  -- the bytes that no message has used, if known
  pub unread : Option (List ℕ)
  -- the last answer, unless that was a message
  pub last : Option (Result Next Stop)

-- what comes next in known bytes, and what is then left
abbrev pub IsNext : Option (List ℕ) → Option (List ℕ) → Next → Type 0
IsNext None new next = ⊤
IsNext (Some bytes) None (nexts.Message m) = ⊥
IsNext (Some bytes) (Some rest) (nexts.Message m) = IsMessage bytes m rest
IsNext (Some bytes) new nexts.Ended = is_ended bytes ≡ true
IsNext (Some bytes) new (nexts.Framing r) = IsFault bytes r

-- a framing refusal is one of the refusals for framing, even if the reader's bytes are not known
abbrev pub IsFramed : Next → Type 0
IsFramed (nexts.Message m) = ⊤
IsFramed nexts.Ended = ⊤
IsFramed (nexts.Framing r) = is_framing r ≡ true

-- the answer, if it is given again from then on: any answer but a message
abbrev pub stays : Result Next Stop → Option (Result Next Stop)
stays (Ok (nexts.Message m)) = None
stays (Ok nexts.Ended) = Some (Ok nexts.Ended)
stays (Ok (nexts.Framing r)) = Some (Ok (nexts.Framing r))
stays (Err stop) = Some (Err stop)

-- the answer that was stored
abbrev pub answer_of : Last → Result Next Stop
answer_of lasts.Ended = Ok nexts.Ended
answer_of (lasts.Framing r) = Ok (nexts.Framing r)
answer_of (lasts.Stopped stop) = Err stop

abbrev pub last_answer : Option Last → Option (Result Next Stop)
last_answer last = option_map answer_of last

-- known bytes began with these messages, and the others are left
abbrev pub Began : Option (List ℕ) → List Message → Option (List ℕ) → Type 0
Began None ms new = ⊤
Began (Some bytes) ms None = ⊥
Began (Some bytes) ms (Some rest) = BeginsWithAll bytes ms rest
