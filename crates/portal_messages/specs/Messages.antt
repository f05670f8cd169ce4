-- The messages in a stream of bytes.
use Rattle.std.specs.Prelude.{◌≡◌, ◌≤◌, ◌<◌, ◌⊎◌, ℕ, Bool, true, false, List, [], ◌∷◌, length, drop, take, codes, Ok, Err}
use Rattle.trust_base.specs.declared.refusal.Refusal.{Refusal}
use Rattle.trust_base.specs.declared.refusal.Refusal.TheVariants.{BadMessage, LengthRequired, TooLarge}
use Rattle.httparse.specs.Grammar.{RequestHead}
use Rattle.portal_messages.specs.declared.message.Message.{Message}
use Rattle.portal_messages.specs.Heads.{BeginsWith, HasNoHead, is_ended}
use Rattle.portal_messages.specs.Fields.{pairs_of, size_after, values_of}

-- the message of a head and a body
abbrev pub message_of : RequestHead → List ℕ → Message
message_of head body = record {
  method = head.method;
  target = head.target;
  callers = values_of (codes "x-caller") (pairs_of head);
  body = body;
}

-- the bytes begin with this message, and this rest follows
pub record IsMessage (bytes : List ℕ) (m : Message) (rest : List ℕ) : Type 0 where
  pub goes_on : is_ended bytes ≡ false
  pub head : RequestHead
  pub after : List ℕ
  pub begins : BeginsWith bytes head after
  pub size : ℕ
  pub sized : size_after head ≡ Ok size
  pub whole : size ≤ length after
  pub message : m ≡ message_of head (take size after)
  pub follows : rest ≡ drop size after

-- the refusals for framing: the form is bad, the length of the body is not given, or the body is too large
abbrev pub is_framing : Refusal → Bool
is_framing BadMessage = true
is_framing LengthRequired = true
is_framing TooLarge = true
is_framing _ = false

-- the bytes begin with a head whose fields refuse the body
pub record RefusesBody (bytes : List ℕ) (r : Refusal) : Type 0 where
  pub head : RequestHead
  pub after : List ℕ
  pub begins : BeginsWith bytes head after
  pub refused : size_after head ≡ Err r

-- the bytes begin with a head whose body is cut short
pub record CutsBody (bytes : List ℕ) : Type 0 where
  pub head : RequestHead
  pub after : List ℕ
  pub begins : BeginsWith bytes head after
  pub size : ℕ
  pub sized : size_after head ≡ Ok size
  pub short : length after < size

-- neither a message nor a clean end follows, with the refusal for it: no head or a bad length, a coding, too large, a
-- cut body
pub record IsFault (bytes : List ℕ) (r : Refusal) : Type 0 where
  pub goes_on : is_ended bytes ≡ false
  pub why : HasNoHead bytes × (r ≡ BadMessage) ⊎ RefusesBody bytes r ⊎ CutsBody bytes × (r ≡ BadMessage)

-- how the messages of a stream end: cleanly, at the limit of answered messages, or before something that is neither a
-- message nor a clean end
pub data MessagesEnd : Type 0 where
  Ended : MessagesEnd
  Limit : MessagesEnd
  BadFraming : (refusal : Refusal) → MessagesEnd

-- the most messages of a stream that are answered
abbrev pub MESSAGE_LIMIT : ℕ
MESSAGE_LIMIT = 1000

-- the bytes begin with these messages, one after another, and the rest follows
abbrev pub BeginsWithAll : List ℕ → List Message → List ℕ → Type 0
BeginsWithAll bytes [] rest = rest ≡ bytes
BeginsWithAll bytes (m ∷ ms) rest = (mid : List ℕ) × IsMessage bytes m mid × BeginsWithAll mid ms rest

-- the end after this many messages, with these bytes left
abbrev pub IsEndAfter : ℕ → List ℕ → MessagesEnd → Type 0
IsEndAfter n rest Ended = (n < MESSAGE_LIMIT) × (is_ended rest ≡ true)
IsEndAfter n rest Limit = n ≡ MESSAGE_LIMIT
IsEndAfter n rest (BadFraming r) = (n < MESSAGE_LIMIT) × IsFault rest r

-- the messages of a stream, and its end
pub record AreMessages (bytes : List ℕ) (ms : List Message) (end : MessagesEnd) : Type 0 where
  pub rest : List ℕ
  pub begins : BeginsWithAll bytes ms rest
  pub ends : IsEndAfter (length ms) rest end

-- a stream has one list of messages and one end
abbrev pub OneReading : Type 0
OneReading = (bytes : List ℕ) (ms ns : List Message) (e f : MessagesEnd)
    → AreMessages bytes ms e → AreMessages bytes ns f → (ms ≡ ns) × (e ≡ f)
