-- What a command for a report asks, and what it writes.
use Rattle.std.specs.Prelude.{ℕ}
use Rattle.trust_base.specs.declared.refusal.Refusal.{Refusal}
use Rattle.trust_base.specs.declared.refusal.Refusal.TheVariants.{Memory, Store}
use Rattle.matter_rows.specs.declared.act.Caller.TheVariants.{Cashier}
use Rattle.trust_matter.specs.declared.ask.Ask.TheVariants.{Account, Accounting}
use Rattle.firm_rows.specs.Firm.{Firm}
use Rattle.trust_desk.specs.FirmStep.{Steps}
use Rattle.trust_desk.specs.Heard.{Asks}
use Rattle.trust_desk.specs.declared.requests.Body.{Body}
use Rattle.trust_desk.specs.declared.requests.Body.TheVariants.{Json, Refused, Text}
use Rattle.trust_desk.specs.declared.requests.Reply.{Reply}
use Rattle.trust_desk.specs.declared.requests.Request.{Request}
use Rattle.trust_desk.specs.declared.requests.Request.TheVariants as requests
use Rattle.portal_http.specs.Output.{Output}
use Rattle.command_line.specs.declared.command.ReportCommand.{ReportCommand}
use Rattle.command_line.specs.declared.command.ReportCommand.TheVariants as commands
use Rattle.cashier.specs.Sent.{IsSent}
use Rattle.cashier.specs.Sheet.{reply_line}
use Rattle.cashier.specs.declared.outcome.Outcome.{Outcome}
use Rattle.cashier.specs.declared.outcome.Outcome.TheVariants as outcome

-- the cashier's request for a report: of the firm, or the accounting of a matter, its account of a period, or its trail
abbrev pub asked_for : ReportCommand → Request
asked_for (commands.Ledger matter) = requests.Matter matter Cashier Accounting
asked_for (commands.Account matter period) = requests.Matter matter Cashier (Account period)
asked_for (commands.Trail matter) = requests.Trail Cashier matter
asked_for (commands.Firm report) = requests.Report Cashier report

-- the outcome of a run after the line of a refusal was written
abbrev pub refused_outcome : Refusal → Outcome
refused_outcome Store = outcome.StoreFault
refused_outcome Memory = outcome.MemoryFault
refused_outcome _ = outcome.Refused

-- the outcome of a run according to the reply, after it was written
abbrev pub reply_outcome : Body → Outcome
reply_outcome (Json text) = outcome.Done
reply_outcome (Text text) = outcome.Done
reply_outcome (Refused r) = refused_outcome r

-- a reply was written completely, as its text or its refusal's line, and decides the outcome; or a write failed, and
-- only a prefix was written
abbrev pub Prints : Reply → Output → Outcome → Type 0
Prints reply output told =
    IsSent (reply_line reply) (reply_outcome reply.body) outcome.OutputFault output.before output.after told

-- the cashier asked for the report on a day, the firm's step gave the reply, and it was printed
pub record PrintsReport (day : ℕ) (command : ReportCommand) (output : Output) (told : Outcome) (before after : Firm)
    : Type 0 where
  pub reply : Reply
  pub steps : Steps day before (Asks (asked_for command)) reply after
  pub prints : Prints reply output told
