-- Dismissing a line from the exceptions.
use Rattle.std.specs.Prelude.{◌≡◌, ◌⊎◌, ℕ, Bool, true, not, List, [], ◌∷◌, Option, Some, None, Result, Ok, Err, codes}
use Rattle.std.specs.List.{list_any}
use Rattle.trust_base.specs.LineOrder.{is_same_line}
use Rattle.trust_base.specs.Refusals.{is_fault}
use Rattle.trust_base.specs.declared.line.Line.{Line}
use Rattle.trust_base.specs.declared.refusal.Rule.TheVariants as rule
use Rattle.trust_base.specs.declared.refusal.Refusal.{Refusal}
use Rattle.trust_base.specs.declared.refusal.Refusal.TheVariants as refusals
use Rattle.matter_rows.specs.declared.act.Caller.{Caller}
use Rattle.trust_matter.specs.Step.{first}
use Rattle.firm_rows.specs.Firm.{Firm, after_dismissal}
use Rattle.trust_desk.specs.declared.requests.Body.TheVariants.{Json}
use Rattle.trust_desk.specs.declared.requests.Reply.{Reply}
use Rattle.trust_desk.specs.ImportStep.{is_not_of_firm}
use Rattle.trust_desk.specs.Replies.{refused}

-- the line is one of the exceptions
abbrev pub is_exception : Line → List Line → Bool
is_exception line exceptions = list_any (λ x. is_same_line x line) exceptions

-- each refusal with its condition, in the order of their numbers
abbrev pub dismiss_conditions : Caller → Line → Firm → List (Bool × Refusal)
dismiss_conditions caller line firm =
    (is_not_of_firm caller, refusals.NotAllowed rule.Firm)
    ∷ (not (is_exception line firm.exceptions), refusals.NoEntry)
    ∷ []

-- the refusal with the least number whose condition holds
abbrev pub dismiss_refusal : Caller → Line → Firm → Option Refusal
dismiss_refusal caller line firm = first (dismiss_conditions caller line firm)

-- the line is not an exception any more, and is kept among the dismissals with the day; nothing else changes. If it is
-- refused, nothing changes
abbrev pub dismissed_unless : ℕ → Option Refusal → Line → Firm → Firm
dismissed_unless day None line firm = after_dismissal day line firm
dismissed_unless day (Some r) line firm = firm

abbrev pub after_dismissing : ℕ → Caller → Line → Firm → Firm
after_dismissing day caller line firm = dismissed_unless day (dismiss_refusal caller line firm) line firm

-- the reply to a dismissal that was refused or done
abbrev pub dismiss_reply : Option Refusal → Reply
dismiss_reply None = record { status = 200; body = Json (codes "{\"dismissed\":1}") }
dismiss_reply (Some r) = refused r

-- How a dismissal ends.

-- the line was dismissed; or it was refused, or the store or memory stopped it, and nothing changed
abbrev pub EndsDismiss : ℕ → Caller → Line → Firm → Firm → Result Reply Refusal → Type 0
EndsDismiss day caller line firm new (Ok reply) =
    (dismiss_refusal caller line firm ≡ None) × (reply ≡ dismiss_reply None) × (new ≡ after_dismissal day line firm)
EndsDismiss day caller line firm new (Err r) =
    ((is_fault r ≡ true) ⊎ (dismiss_refusal caller line firm ≡ Some r)) × (new ≡ firm)
