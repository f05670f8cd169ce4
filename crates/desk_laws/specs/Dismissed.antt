-- What a dismissed line leaves.
use Rattle.std.specs.Prelude.{◌≡◌, ℕ, List, [], ◌∷◌, ◌++◌, Option, Some, None}
use Rattle.trust_base.specs.declared.line.Line.{Line}
use Rattle.trust_base.specs.declared.refusal.Refusal.{Refusal}
use Rattle.trust_base.specs.declared.refusal.Refusal.TheVariants.{NoEntry}
use Rattle.matter_rows.specs.declared.act.Caller.{Caller}
use Rattle.matter_rows.specs.declared.act.Caller.TheVariants.{Cashier}
use Rattle.firm_rows.specs.declared.dismissal.Dismissal.{Dismissal}
use Rattle.firm_rows.specs.Firm.{Firm}
use Rattle.trust_desk.specs.declared.requests.Body.{Body}
use Rattle.trust_desk.specs.declared.requests.Body.TheVariants as body
use Rattle.trust_desk.specs.declared.requests.Reply.{Reply}
use Rattle.trust_desk.specs.declared.requests.Request.TheVariants.{Dismiss}
use Rattle.trust_desk.specs.Dismissing.{dismiss_refusal}
use Rattle.trust_desk.specs.FirmStep.{firm_step}
use Rattle.trust_desk.specs.Heard.{Asks, Heard, Kind, OfMatter, OfActs, OfItems, Dismisses, OnlyTold, OnlyShown, NotRead, kind_of}
use Rattle.desk_laws.specs.OnceOnly.{DayRun, RunsOn}

-- only the exceptions and the dismissals change
pub record KeepsAllElse (firm new : Firm) : Type 0 where
  pub rows : new.rows ≡ firm.rows
  pub movements : new.movements ≡ firm.movements
  pub firm_lines : new.firm_lines ≡ firm.firm_lines
  pub balances : new.balances ≡ firm.balances
  pub acts : new.acts ≡ firm.acts

-- dismissing a line, accepted or refused, leaves the rows of all matters, the movements, the firm's own lines, the
-- balances and the acts unchanged
abbrev pub DismissingMovesNothing : Type 0
DismissingMovesNothing =
    (day : ℕ) (firm : Firm) (caller : Caller) (line : Line)
    → KeepsAllElse firm (firm_step day firm (Asks (Dismiss caller line))).firm

-- a dismissed line is not an exception any more, and is refused when it comes again
abbrev pub DismissedOnce : Type 0
DismissedOnce =
    (day : ℕ) (firm : Firm) (line : Line) → dismiss_refusal Cashier line firm ≡ None
    → dismiss_refusal Cashier line (firm_step day firm (Asks (Dismiss Cashier line))).firm ≡ Some NoEntry

-- What is dismissed is kept.

-- the dismissal, or none if it is refused
abbrev pub unless_refused : Option Refusal → Dismissal → List Dismissal
unless_refused None d = d ∷ []
unless_refused (Some r) d = []

-- the line of an ask to dismiss, with the business day, if it is not refused
abbrev pub kind_dismisses : (Caller → Line → Option Refusal) → ℕ → Kind → List Dismissal
kind_dismisses refused day (OfMatter m caller ask) = []
kind_dismisses refused day (OfActs m caller) = []
kind_dismisses refused day (OfItems why items) = []
kind_dismisses refused day (Dismisses caller line) =
    unless_refused (refused caller line) (record { day = day; line = line })
kind_dismisses refused day (OnlyTold text) = []
kind_dismisses refused day (OnlyShown json) = []
kind_dismisses refused day (NotRead named r) = []

-- what is dismissed by what is heard on a business day: the line that it asks to dismiss, with the day, if the firm
-- does not refuse that; else nothing
abbrev pub dismissed_by : ℕ → Firm → Heard → List Dismissal
dismissed_by day firm h = kind_dismisses (λ caller line. dismiss_refusal caller line firm) day (kind_of h)

-- a step adds what is dismissed by it behind the dismissals that are there, and takes none out
abbrev pub StepsKeepDismissals : Type 0
StepsKeepDismissals =
    (day : ℕ) (firm : Firm) (h : Heard)
    → (firm_step day firm h).firm.dismissals ≡ firm.dismissals ++ dismissed_by day firm h

-- the refusal that a reply tells, if it is one
abbrev pub refusal_told : Body → Option Refusal
refusal_told (body.Json text) = None
refusal_told (body.Text text) = None
refusal_told (body.Refused r) = Some r

-- what is dismissed by what is heard on a business day, by the reply to it: the line that it asks to dismiss, with the
-- day, unless the reply is a refusal; else nothing
abbrev pub told_dismissed : ℕ → Heard → Reply → List Dismissal
told_dismissed day h reply = kind_dismisses (λ caller line. refusal_told reply.body) day (kind_of h)

-- by all that is heard on a day, in order
abbrev pub dismissed_in : ℕ → List Heard → List Reply → List Dismissal
dismissed_in day [] replies = []
dismissed_in day (h ∷ hs) [] = []
dismissed_in day (h ∷ hs) (reply ∷ replies) = told_dismissed day h reply ++ dismissed_in day hs replies

-- by runs on days, in sequence
abbrev pub dismissed_on : List DayRun → List Dismissal
dismissed_on [] = []
dismissed_on (run ∷ runs) = dismissed_in run.day run.heard run.replies ++ dismissed_on runs

-- after runs, with or without faults, the dismissals are those that were there, and behind them what is dismissed by
-- the runs
abbrev pub RunsKeepDismissals : Type 0
RunsKeepDismissals =
    (firm new : Firm) (runs : List DayRun) → RunsOn firm runs new
    → new.dismissals ≡ firm.dismissals ++ dismissed_on runs
