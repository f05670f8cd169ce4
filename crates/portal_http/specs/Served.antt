-- What serving a stream does.
use Rattle.std.specs.Prelude.{◌≡◌, ◌⊎◌, ◌≤◌, ◌<◌, ◌+◌, ℕ, true, List, [], ◌∷◌, ◌++◌, Option, Some, None, length, map, take, IfSome}
use Rattle.std.specs.Io.KnownBytes.{Appends}
use Rattle.trust_base.specs.declared.refusal.Refusal.{Refusal}
use Rattle.trust_base.specs.declared.refusal.Refusal.TheVariants.{Memory}
use Rattle.firm_rows.specs.Firm.{Firm}
use Rattle.trust_store.specs.Seen.{Seen}
use Rattle.trust_desk.specs.declared.requests.Reply.{Reply}
use Rattle.trust_desk.specs.Calls.{Counts, KeepsBook}
use Rattle.trust_desk.specs.Counts.{counted_replies}
use Rattle.trust_desk.specs.Crashes.{AreNoFaults, AreNoFaultsButLast, IsMadeInRun, MayLeave, before_fault}
use Rattle.trust_desk.specs.FirmStep.{IsUnstopped, RunsSoundly}
use Rattle.trust_desk.specs.Isolation.{IsOwn}
use Rattle.trust_desk.specs.NeverBelowZero.{CoveredRun}
use Rattle.trust_desk.specs.Replies.{refused}
use Rattle.portal_messages.specs.declared.message.Message.{Message}
use Rattle.portal_messages.specs.Inputs.{Began}
use Rattle.portal_messages.specs.Messages.{AreMessages, BeginsWithAll, is_framing}
use Rattle.portal_messages.specs.Messages as messages
use Rattle.portal_requests.specs.Requests.{heard_of}
use Rattle.portal_http.specs.Answers.{replies_bytes, reply_bytes}
use Rattle.portal_http.specs.declared.stream.StreamEnd.{StreamEnd}
use Rattle.portal_http.specs.declared.stream.StreamEnd.TheVariants as ends

-- the bytes of a refusal that answers no message
abbrev pub tail_bytes : Option Refusal → List ℕ
tail_bytes None = []
tail_bytes (Some r) = reply_bytes (refused r)

abbrev pub whole_text : List Reply → Option Refusal → List ℕ
whole_text replies tail = replies_bytes replies ++ tail_bytes tail

-- the bytes of the last answer
abbrev pub last_text : List Reply → Option Refusal → List ℕ
last_text replies (Some r) = reply_bytes (refused r)
last_text [] None = []
last_text (reply ∷ []) None = reply_bytes reply
last_text (reply ∷ next ∷ replies) None = last_text (next ∷ replies) None

-- the refusal that is sent after the replies, by the end of the stream: for bytes that are no message, or out of
-- memory
abbrev pub IsTail : StreamEnd → Option Refusal → Type 0
IsTail ends.Ended tail = tail ≡ None
IsTail ends.BadFraming tail = (r : Refusal) × (is_framing r ≡ true) × (tail ≡ Some r)
IsTail ends.Limit tail = tail ≡ None
IsTail ends.ReadFault tail = tail ≡ None
IsTail ends.WriteFault tail = IfSome tail (λ r. (is_framing r ≡ true) ⊎ (r ≡ Memory))
IsTail ends.NoMemory tail = tail ≡ Some Memory

-- the bytes begin with these messages
abbrev pub AreFirst : List ℕ → List Message → Type 0
AreFirst bytes ms = (rest : List ℕ) × BeginsWithAll bytes ms rest

-- the bytes begin with these messages, and a refusal after them is for the bytes that follow, or for lack of memory
abbrev pub AreBehind : List ℕ → List Message → Option Refusal → Type 0
AreBehind bytes ms None = AreFirst bytes ms
AreBehind bytes ms (Some r) = AreMessages bytes ms (messages.BadFraming r) ⊎ ((r ≡ Memory) × AreFirst bytes ms)

-- these are all the messages if the stream was served to its end, otherwise the first ones
abbrev pub IsRead : StreamEnd → List ℕ → List Message → Option Refusal → Type 0
IsRead ends.Ended bytes ms tail = AreMessages bytes ms messages.Ended
IsRead ends.BadFraming bytes ms tail = (r : Refusal) × AreMessages bytes ms (messages.BadFraming r) × (tail ≡ Some r)
IsRead ends.Limit bytes ms tail = AreMessages bytes ms messages.Limit
IsRead ends.ReadFault bytes ms tail = AreFirst bytes ms
IsRead ends.WriteFault bytes ms tail = AreBehind bytes ms tail
IsRead ends.NoMemory bytes ms tail = AreFirst bytes ms

-- only a prefix of the text was written: everything but a part of the last answer
pub record IsCut (text last : List ℕ) (before after : Option (List ℕ)) : Type 0 where
  pub size : ℕ
  pub less : size < length text
  pub whole : length text ≤ size + length last
  pub written : Appends before after (take size text)

-- all answers were written; if a write failed, all before the last one, and a prefix of that
abbrev pub IsWritten : StreamEnd → List Reply → Option Refusal → Option (List ℕ) → Option (List ℕ) → Type 0
IsWritten ends.Ended replies tail before after = Appends before after (whole_text replies tail)
IsWritten ends.BadFraming replies tail before after = Appends before after (whole_text replies tail)
IsWritten ends.Limit replies tail before after = Appends before after (whole_text replies tail)
IsWritten ends.ReadFault replies tail before after = Appends before after (whole_text replies tail)
IsWritten ends.WriteFault replies tail before after =
    IsCut (whole_text replies tail) (last_text replies tail) before after
IsWritten ends.NoMemory replies tail before after = Appends before after (whole_text replies tail)

-- these replies are those of a run of the first messages, and the firm is sound after each
pub record IsFrontRun (day : ℕ) (firm : Firm) (messages : List Message) (replies : List Reply) : Type 0 where
  pub front : List Message
  pub rest : List Message
  pub parts : front ++ rest ≡ messages
  pub mid : Firm
  pub run : RunsSoundly day firm (map heard_of front) replies mid

-- what a crash may leave after these messages: what it might have left before, or the rows after some first
-- messages and a part of the next; if no reply is `Store` or `Memory`, a settled book is settled, and a store that
-- was clean is still clean
abbrev pub MayLeaveServed : ℕ → Seen → List Message → List Reply → Seen → Type 0
MayLeaveServed day old messages replies new =
    MayLeave (AreNoFaults replies) (IsMadeInRun day old.firm (map heard_of messages)) old.firm
    new.firm old new

-- a stream was served: its messages and their replies in order, what was written, and how the book changed
pub record Served (day : ℕ) (stream before : Option (List ℕ)) (old : Seen) (end : StreamEnd) (after : Option (List ℕ))
    (new : Seen) : Type 0 where
  pub messages : List Message
  pub replies : List Reply
  pub tail : Option Refusal
  pub read : IfSome stream (λ bytes. IsRead end bytes messages tail)
  pub paired : length replies ≡ length messages
  pub behind : IsTail end tail
  pub written : IsWritten end replies tail before after
  -- each reply is that of the firm's step, and the firm is sound after it
  pub run : new.clean → old.stands → RunsSoundly day old.firm (map heard_of messages) replies new.firm
  -- each matter is answered by its own machine, which also gives its rows
  pub own : new.clean → old.stands → (m : ℕ) → IsUnstopped m (map heard_of messages) replies
      → IsOwn m day old.firm (map heard_of messages) replies new.firm
  -- no ledger is below zero before, in and after each message and each item of an import
  pub covered : new.clean → old.stands
      → CoveredRun day old.firm (map heard_of messages) replies new.firm
  pub kept : KeepsBook (Counts (counted_replies replies)) old new
  -- if the store was clean when the stream began, and no reply except the last is `Store` or `Memory`
  pub crash : new.sure → old.clean → old.stands → AreNoFaultsButLast replies
      → MayLeaveServed day old messages replies new
  -- the replies before the first `Store` or `Memory` are those of a run, even if a fault has closed the store since
  pub shut : new.sure → old.clean → old.stands → IsFrontRun day old.firm messages (before_fault replies)
  -- without such a reply the store is still clean, so all of this holds
  pub serves : new.sure → old.clean → old.stands → AreNoFaults replies → new.clean

-- a stream is being served: this many messages were read and answered
pub record Serving (day : ℕ) (stream before : Option (List ℕ)) (old : Seen) (n : ℕ) (unread after : Option (List ℕ))
    (new : Seen) : Type 0 where
  pub messages : List Message
  pub replies : List Reply
  pub many : length messages ≡ n
  pub paired : length replies ≡ length messages
  pub read : Began stream messages unread
  pub written : Appends before after (replies_bytes replies)
  pub run : new.clean → old.stands → RunsSoundly day old.firm (map heard_of messages) replies new.firm
  pub kept : KeepsBook (Counts (counted_replies replies)) old new
  pub crash : new.sure → old.clean → old.stands → AreNoFaultsButLast replies
      → MayLeaveServed day old messages replies new
  pub shut : new.sure → old.clean → old.stands → IsFrontRun day old.firm messages (before_fault replies)
