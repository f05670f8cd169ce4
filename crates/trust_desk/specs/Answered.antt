-- How a request is answered, before the answer becomes a reply.
use Rattle.std.specs.Prelude.{◌≡◌, ℕ, false, Result, IfOk}
use Rattle.trust_base.specs.declared.refusal.Refusal.{Refusal}
use Rattle.firm_rows.specs.Firm.{Firm}
use Rattle.trust_store.specs.Seen.{Seen}
use Rattle.trust_desk.specs.declared.requests.Reply.{Reply}
use Rattle.trust_desk.specs.Calls.{Counts, KeepsBook}
use Rattle.trust_desk.specs.Counts.{counted_end, counted_reply}
use Rattle.trust_desk.specs.Crashes.{IsMade, IsOfItems, MayLeave, is_fault_end}
use Rattle.trust_desk.specs.FirmStep.{Steps, firm_step}
use Rattle.trust_desk.specs.Heard.{Heard, kind_of}
use Rattle.trust_desk.specs.Replies.{is_fault_reply, reply_for}

-- a request was answered: the reply is that of the firm's step, or tells of a fault; the book is kept; a crash may
-- leave what it might have left before, or the rows with the change
pub record IsReplied (day : ℕ) (h : Heard) (reply : Reply) (old new : Seen) : Type 0 where
  pub step : new.clean → old.stands → Steps day old.firm h reply new.firm
  pub kept : KeepsBook (Counts (counted_reply reply)) old new
  pub crash : new.sure → old.stands → (IsOfItems (kind_of h) → old.clean)
      → MayLeave (is_fault_reply reply ≡ false) (IsMade day old.firm h) old.firm (firm_step day old.firm h).firm old new

-- this is so of the firm before and after, if the store is clean now and stood for a sound firm before
abbrev pub IfServed : Seen → Seen → (Firm → Firm → Type 0) → Type 0
IfServed old new Is = new.clean → old.stands → Is old.firm new.firm

-- the answer is that of the firm's step, or tells of a fault; the book is kept; a crash may leave what it might have
-- left before, or the rows with the change
pub record IsAnswered (day : ℕ) (h : Heard) (result : Result Reply Refusal) (old new : Seen) : Type 0 where
  pub step : new.clean → old.stands → Steps day old.firm h (reply_for result) new.firm
  pub plain : IfOk result (λ reply. is_fault_reply reply ≡ false)
  pub kept : KeepsBook (Counts (counted_end result)) old new
  pub crash : new.sure → old.stands → (IsOfItems (kind_of h) → old.clean) → MayLeave
      (is_fault_end result ≡ false) (IsMade day old.firm h) old.firm (firm_step day old.firm h).firm old new
