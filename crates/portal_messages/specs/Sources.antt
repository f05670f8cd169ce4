-- A reader, with the bytes that it gave and no message has used.
use Rattle.std.specs.Prelude.{◌≡◌, ℕ, ⊤, true, false, List, Option, Result, Ok, Err, IfSome}
use Rattle.std.specs.Io.KnownBytes.{prepend_known}
use Rattle.httparse.specs.declared.spans.HeaderSpan.{HeaderSpan}
use Rattle.httparse.specs.declared.spans.RequestSpans.{RequestSpans}
use Rattle.httparse.specs.Grammar.{RequestHead}
use Rattle.portal_messages.specs.Heads.{IsHeadAt, is_ended}
use Rattle.portal_messages.specs.Messages.{IsFault, is_framing}
use Rattle.portal_messages.specs.declared.input.Last.{Last}
use Rattle.portal_messages.specs.declared.input.Last.TheVariants as lasts
use Rattle.portal_messages.specs.declared.input.Source.{Source}

-- the bytes that no message has used, if those of the reader are known
abbrev pub unread : {R : Type 0} → (R → Option (List ℕ)) → Source R → Option (List ℕ)
unread rem s = prepend_known s.buffer.items (rem s.reader)

-- why no message comes next in bytes, if they are known
abbrev pub IsLast : Option (List ℕ) → Last → Type 0
IsLast known lasts.Ended = IfSome known (λ bytes. is_ended bytes ≡ true)
IsLast known (lasts.Framing why) = (is_framing why ≡ true) × IfSome known (λ bytes. IsFault bytes why)
IsLast known (lasts.Stopped stop) = ⊤

-- the next head is in the buffer, or no message comes next
abbrev pub IsHeadNext : Option (List ℕ) → List ℕ → List HeaderSpan → Result RequestSpans Last → Type 0
IsHeadNext known buffer spans (Ok r) =
    (is_ended buffer ≡ false) × (head : RequestHead) × IsHeadAt buffer spans r head
IsHeadNext known buffer spans (Err last) = IsLast known last
