-- A refusal that is told has its status.
use Rattle.std.specs.Prelude.{◌≡◌, ℕ}
use Rattle.trust_base.specs.Refusals.{status_of}
use Rattle.trust_base.specs.declared.refusal.Refusal.{Refusal}
use Rattle.firm_rows.specs.Firm.{Firm}
use Rattle.trust_desk.specs.declared.requests.Body.TheVariants.{Refused}
use Rattle.trust_desk.specs.declared.requests.Reply.{Reply}
use Rattle.trust_desk.specs.FirmStep.{Steps}
use Rattle.trust_desk.specs.Heard.{Heard}

-- if the reply's body is a refusal, its status is the refusal's
abbrev pub HasItsStatus : Reply → Type 0
HasItsStatus reply = (r : Refusal) → reply.body ≡ Refused r → reply.status ≡ status_of r

-- this is so for each reply of a step, even after a fault
abbrev pub RefusalsHaveTheirStatus : Type 0
RefusalsHaveTheirStatus =
    (day : ℕ) (firm new : Firm) (h : Heard) (reply : Reply) → Steps day firm h reply new → HasItsStatus reply
