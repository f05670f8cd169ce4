-- The replies to a stream of messages, and the firm that it leaves.
use Rattle.std.specs.Prelude.{◌≡◌, ℕ, List, Option, IfSome, length, map}
use Rattle.trust_base.specs.declared.refusal.Refusal.{Refusal}
use Rattle.firm_rows.specs.Firm.{Firm}
use Rattle.trust_desk.specs.declared.requests.Reply.{Reply}
use Rattle.trust_desk.specs.FirmStep.{IsUnstopped, RunsSoundly}
use Rattle.trust_desk.specs.Isolation.{IsOwn}
use Rattle.trust_desk.specs.NeverBelowZero.{CoveredRun}
use Rattle.portal_http.specs.message.Message.{Message}
use Rattle.portal_http.specs.Output.{Output}
use Rattle.portal_http.specs.Requests.{heard_of}
use Rattle.portal_http.specs.Served.{IsRead, IsTail, IsWritten}
use Rattle.portal_http.specs.declared.stream.StreamEnd.{StreamEnd}

-- how a stream of these bytes, if they are known, ends on a day: its messages and their replies, in order, the refusal
-- after them, if there is one, what was written by then, and the firm before and after
pub record StreamEnds (day : ℕ) (stream : Option (List ℕ)) (output : Output) (end : StreamEnd) (before after : Firm)
    : Type 0 where
  pub messages : List Message
  pub replies : List Reply
  pub tail : Option Refusal
  pub read : IfSome stream (λ bytes. IsRead end bytes messages tail)
  pub paired : length replies ≡ length messages
  pub behind : IsTail end tail
  pub written : IsWritten end replies tail output.before output.after
  -- each reply is that of the firm's step, and the firm is sound after it
  pub run : RunsSoundly day before (map heard_of messages) replies after
  -- each matter is answered by its own machine, which leaves its rows
  pub own : (m : ℕ) → IsUnstopped m (map heard_of messages) replies
      → IsOwn m day before (map heard_of messages) replies after
  -- no ledger is below zero, before, during and after each message and each item of an import
  pub covered : CoveredRun day before (map heard_of messages) replies after
