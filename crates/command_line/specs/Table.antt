-- The commands, and how each is typed.
use Rattle.std.specs.Prelude.{◌++◌, Bool, true, false, List, [], ◌∷◌, Option, Some, None, codes}
use Rattle.clap.specs.Words.{Text}
use Rattle.command_line.specs.declared.table.CommandName.{CommandName}
use Rattle.command_line.specs.declared.table.CommandName.TheVariants as commands
use Rattle.book_reports.specs.declared.report.DayReport.TheVariants as day_reports
use Rattle.book_reports.specs.declared.report.PeriodReport.TheVariants as period_reports
use Rattle.book_reports.specs.declared.report.TodayReport.TheVariants as today_reports

-- how a command is typed
pub record Form : Type 0 where
  -- its name
  pub name : Text
  -- the names of its operands
  pub operands : List Text
  -- they have to be given
  pub are_required : Bool
  -- how a usage has it
  pub usage : Text
  -- the command as it may be typed
  pub example : Text

abbrev form : Text → List Text → Text → Text → Form
form name operands usage example = record {
  name = name;
  operands = operands;
  are_required = true;
  usage = usage;
  example = example;
}

-- how each command is typed; after `ledger` there may be the word FIRM instead of a matter's number, and after `trail`
-- nothing
abbrev pub form_of : CommandName → Form
form_of commands.Sheet = form (codes "sheet") [] (codes "sheet") (codes "sheet < day.csv")
form_of commands.Import = form (codes "import") (codes "FILE" ∷ [])
    (codes "import FILE") (codes "import statement.csv")
form_of commands.Match = form (codes "match") (codes "FILE" ∷ [])
    (codes "match FILE") (codes "match bank.csv > statement.csv")
form_of commands.Stream = form (codes "stream") [] (codes "stream") (codes "stream < messages.http")
form_of commands.Serve = form (codes "serve") (codes "PORT" ∷ codes "COUNT" ∷ [])
    (codes "serve PORT COUNT") (codes "serve 8080 100")
form_of commands.Check = form (codes "check") [] (codes "check") (codes "check")
form_of (commands.AsOf day_reports.Reconciliation) = form (codes "reconcile") (codes "DAY" ∷ [])
    (codes "reconcile DAY") (codes "reconcile 2026-03-31")
form_of (commands.AsOf day_reports.Clients) = form (codes "clients") (codes "DAY" ∷ [])
    (codes "clients DAY") (codes "clients 2026-03-31")
form_of (commands.AsOf day_reports.Outstanding) = form (codes "outstanding") (codes "DAY" ∷ [])
    (codes "outstanding DAY") (codes "outstanding 2026-03-31")
form_of (commands.Within period_reports.Receipts) = form (codes "receipts") (codes "FROM" ∷ codes "TO" ∷ [])
    (codes "receipts FROM TO") (codes "receipts 2026-03-01 2026-03-31")
form_of (commands.Within period_reports.Disbursements) = form (codes "disbursements") (codes "FROM" ∷ codes "TO" ∷ [])
    (codes "disbursements FROM TO") (codes "disbursements 2026-03-01 2026-03-31")
form_of (commands.Within period_reports.Approvals) = form (codes "approvals") (codes "FROM" ∷ codes "TO" ∷ [])
    (codes "approvals FROM TO") (codes "approvals 2026-03-01 2026-03-31")
form_of (commands.AsOf day_reports.Month) = form (codes "month") (codes "DAY" ∷ [])
    (codes "month DAY") (codes "month 2026-03-31")
form_of (commands.Today today_reports.Trial) = form (codes "trial") [] (codes "trial") (codes "trial")
form_of (commands.Today today_reports.Journal) = form (codes "journal") [] (codes "journal") (codes "journal")
form_of (commands.Today today_reports.Retention) = form (codes "retention") [] (codes "retention") (codes "retention")
form_of (commands.Today today_reports.Exceptions) = form (codes "exceptions") []
    (codes "exceptions") (codes "exceptions")
form_of (commands.Today today_reports.OwnLedger) = form (codes "ledger") (codes "MATTER" ∷ [])
    (codes "ledger MATTER|FIRM") (codes "ledger 000001")
form_of commands.Account = form (codes "account") (codes "MATTER" ∷ codes "FROM" ∷ codes "TO" ∷ [])
    (codes "account MATTER FROM TO") (codes "account 000001 2026-03-01 2026-03-31")
form_of (commands.Today today_reports.Trail) = record
    (form (codes "trail") (codes "MATTER" ∷ []) (codes "trail [MATTER]") (codes "trail 000001"))
    { are_required = false }

-- the commands in the order of the command line
unfoldable pub all_commands : List CommandName
all_commands = commands.Sheet ∷ commands.Import ∷ commands.Match ∷ commands.Stream ∷ commands.Serve
    ∷ commands.Check ∷ commands.AsOf day_reports.Reconciliation ∷ commands.AsOf day_reports.Clients
    ∷ commands.AsOf day_reports.Outstanding ∷ commands.Within period_reports.Receipts
    ∷ commands.Within period_reports.Disbursements ∷ commands.Within period_reports.Approvals
    ∷ commands.AsOf day_reports.Month ∷ commands.Today today_reports.Trial ∷ commands.Today today_reports.Journal
    ∷ commands.Today today_reports.Retention ∷ commands.Today today_reports.Exceptions
    ∷ commands.Today today_reports.OwnLedger ∷ commands.Account ∷ commands.Today today_reports.Trail ∷ []

-- the name of a command
abbrev pub command_text : CommandName → Text
command_text command = (form_of command).name

-- the names of its operands
abbrev pub command_operands : CommandName → List Text
command_operands command = (form_of command).operands

-- they have to be given
abbrev pub are_operands_required : CommandName → Bool
are_operands_required command = (form_of command).are_required

-- how a command is written after the options; without a command, all of them
abbrev pub command_usage : Option CommandName → Text
command_usage None = codes "(sheet | import FILE | match FILE | stream | serve PORT COUNT | reconcile DAY | "
    ++ codes "clients DAY | outstanding DAY | receipts FROM TO | disbursements FROM TO | approvals FROM TO | "
    ++ codes "month DAY | trial | journal | retention | exceptions | ledger MATTER|FIRM | account MATTER FROM TO | "
    ++ codes "trail [MATTER] | check)"
command_usage (Some command) = (form_of command).usage

-- a command as it may be typed
abbrev pub command_example : Option CommandName → Text
command_example None = codes "reconcile 2026-03-31"
command_example (Some command) = (form_of command).example
