-- What a caller is listed: its matters, what waits in them, and, for the cashier, the exceptions with their reasons.
use Rattle.std.specs.Prelude.{ℕ, List, Result, Ok}
use Rattle.trust_base.specs.declared.refusal.Refusal.{Refusal}
use Rattle.matter_rows.specs.declared.act.Caller.{Caller}
use Rattle.firm_rows.specs.Firm.{Firm}
use Rattle.trust_matter.specs.Step.{first}
use Rattle.json_bodies.specs.Lists.{matters_body, waiting_body}
use Rattle.json_bodies.specs.Reasons.{reasons_body}
use Rattle.trust_desk.specs.ReportStep.{caller_conditions, text_unless}
use Rattle.trust_desk.specs.declared.requests.CallerList.{CallerList}
use Rattle.trust_desk.specs.declared.requests.CallerList.TheVariants.{Matters, Waiting}

-- the body of a caller's list, which nobody is refused: one who may see no matter is listed none
abbrev pub list_body : CallerList → Caller → Firm → List ℕ
list_body Matters caller firm = matters_body caller firm
list_body Waiting caller firm = waiting_body caller firm

-- on any business day
abbrev pub list_for : Caller → CallerList → ℕ → Firm → Result (List ℕ) Refusal
list_for caller list today firm = Ok (list_body list caller firm)

-- the exceptions of a business day with their reasons, or the refusal of a caller who is not the cashier
abbrev pub reasons_for : Caller → ℕ → Firm → Result (List ℕ) Refusal
reasons_for caller today firm = text_unless (first (caller_conditions caller)) (reasons_body today firm)
