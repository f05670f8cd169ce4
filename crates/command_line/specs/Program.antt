-- The program's command line as a parser of words sees it, and the plan that words mean.
use Rattle.std.specs.Prelude.{◌≡◌, ◌≤◌, ◌⊎◌, ℕ, Bool, List, [], ◌∷◌, Option, Some, None, IsSomeAnd, false, true, codes, map, option_and_then, ⊤}
use Rattle.std.specs.Borrow.{Bor}
use Rattle.std.specs.Option.{option_map_or}
use Rattle.std.specs.Str.{bytes_eq}
use Rattle.clap.specs.Words.{App, IsAmong, Row, Rule, Text, fault_of, first_of, found_of, matches_of, new_app, new_rule, rows_of, subcommand_of, subcommand_rows_of, with_rule, with_subcommand}
use Rattle.clap.specs.Simple.{on_top}
use Rattle.clap.specs.declared.builder.ArgAction.TheVariants as action
use Rattle.clap.specs.declared.error.kind.ErrorKind.{ErrorKind}
use Rattle.clap.specs.declared.error.kind.ErrorKind.TheVariants as kind
use Rattle.clap.specs.declared.parser.matches.ArgMatches.{ArgMatches}
use Rattle.trust_base.specs.Periods.{Span}
use Rattle.trust_base.specs.Texts.{day_of, matter_of}
use Rattle.command_line.specs.Numerals.{IsCount, IsPort}
use Rattle.command_line.specs.Table.{all_commands, are_operands_required, command_operands, command_text}
use Rattle.command_line.specs.declared.command.CliFault.{CliFault}
use Rattle.command_line.specs.declared.command.CliFault.TheVariants as faults
use Rattle.command_line.specs.declared.command.Task.{Task}
use Rattle.command_line.specs.declared.command.Task.TheVariants as tasks
use Rattle.command_line.specs.declared.command.ReportCommand.{ReportCommand}
use Rattle.command_line.specs.declared.command.ReportCommand.TheVariants.{Ledger, Account, Trail, Firm}
use Rattle.command_line.specs.declared.table.CommandName.{CommandName}
use Rattle.command_line.specs.declared.table.CommandName.TheVariants as commands
use Rattle.book_reports.specs.declared.report.Report.TheVariants.{AsOf, Today, Within}
use Rattle.book_reports.specs.declared.report.TodayReport.TheVariants as today_reports

-- `--today DAY`, required
unfoldable pub today_rule : Rule
today_rule =
    record (new_rule (codes "today")) { long = Some (codes "today"); required = true; action = Some action.Set }

-- `--db PATH`, optional
unfoldable pub db_rule : Rule
db_rule = record (new_rule (codes "db")) { long = Some (codes "db"); action = Some action.Set }

-- `--quiet`, a flag
unfoldable pub quiet_rule : Rule
quiet_rule =
    record (new_rule (codes "quiet")) { long = Some (codes "quiet"); action = Some action.SetTrue }

-- the options of the command line, without its commands
unfoldable pub options_app : App
options_app =
    with_rule (with_rule (with_rule (new_app (codes "cashier_cli")) today_rule) db_rule) quiet_rule

-- an operand, which may have to be given
unfoldable pub operand_rule : Bool → Text → Rule
operand_rule is_required operand = record (new_rule operand) { required = is_required; action = Some action.Set }

-- a command with these operands added after its own
abbrev pub with_operands : Bool → App → List Text → App
with_operands are_required app [] = app
with_operands are_required app (operand ∷ rest) =
    with_operands are_required (with_rule app (operand_rule are_required operand)) rest

-- a command of this name with these operands
abbrev pub command_app : Text → Bool → List Text → App
command_app name are_required operands = with_operands are_required (new_app name) operands

-- the command as the command line has it
abbrev pub app_called : CommandName → App
app_called command = command_app (command_text command) (are_operands_required command) (command_operands command)

-- a command line with these commands added after its own
abbrev pub with_commands : App → List App → App
with_commands app [] = app
with_commands app (command ∷ rest) = with_commands (with_subcommand app command.top) rest

-- the command line: its options `--today DAY`, `--db PATH` and `--quiet`, each at most once and in any order, and a
-- command after them
unfoldable pub program : App
program =
    on_top (λ s. record s { subcommand_required = true })
    (with_commands options_app (map app_called all_commands))

-- the texts of words
abbrev pub words_of : List (Bor (List ℕ)) → List Text
words_of = map (λ s. s.now)

-- the command line accepts the words, with these values and this command
pub record IsParse (words : List Text) (matches : ArgMatches) : Type 0 where
  pub taken : fault_of program words ≡ []
  pub values : rows_of (found_of matches) ≡ matches_of program words
  pub met : subcommand_rows_of matches ≡ subcommand_of program words

-- the command line refuses the words with an error of this kind
abbrev pub FailsAs : List Text → ErrorKind → Type 0
FailsAs words k = IsAmong k (fault_of program words)

-- the words are refused with an error of this kind; memory may run out before their own error is found
abbrev pub IsRefused : List Text → ErrorKind → Type 0
IsRefused words k = (k ≡ kind.OutOfMemory) ⊎ FailsAs words k

-- the command of what is to be printed
abbrev pub report_command : ReportCommand → CommandName
report_command (Ledger matter) = commands.Today today_reports.OwnLedger
report_command (Account matter period) = commands.Account
report_command (Trail matter) = commands.Today today_reports.Trail
report_command (Firm (Today report)) = commands.Today report
report_command (Firm (AsOf report day)) = commands.AsOf report
report_command (Firm (Within report period)) = commands.Within report

-- the command of a task
abbrev pub task_command : Task → CommandName
task_command tasks.Sheet = commands.Sheet
task_command (tasks.Import path) = commands.Import
task_command (tasks.Match path) = commands.Match
task_command tasks.Stream = commands.Stream
task_command (tasks.Serve port count) = commands.Serve
task_command (tasks.Report report) = report_command report
task_command tasks.Check = commands.Check

-- the values of the command are the two days of a period: the first, and one that is not earlier
pub record IsPeriodGiven (values : List Row) (period : Span) : Type 0 where
  pub from_given : option_and_then day_of (first_of (codes "FROM") values) ≡ Some period.from
  pub to_given : option_and_then day_of (first_of (codes "TO") values) ≡ Some period.to
  pub order : period.from ≤ period.to

-- the values of the command are a matter's six digits and the two days of a period
pub record IsAccountGiven (values : List Row) (matter : ℕ) (period : Span) : Type 0 where
  pub matter_given : option_and_then matter_of (first_of (codes "MATTER") values) ≡ Some matter
  pub period_given : IsPeriodGiven values period

-- the values of the command are the operands: the text of a day, those of a period's days, a matter's six digits, these
-- and a period's days, for the card of the firm's own money alone the word for the firm, or, for the whole trail, none
abbrev pub HasReportOperands : List Row → ReportCommand → Type 0
HasReportOperands values (Firm (AsOf report day)) = option_and_then day_of (first_of (codes "DAY") values) ≡ Some day
HasReportOperands values (Firm (Within report period)) = IsPeriodGiven values period
HasReportOperands values (Ledger matter) = option_and_then matter_of (first_of (codes "MATTER") values) ≡ Some matter
HasReportOperands values (Account matter period) = IsAccountGiven values matter period
HasReportOperands values (Trail matter) = option_and_then matter_of (first_of (codes "MATTER") values) ≡ Some matter
HasReportOperands values (Firm (Today today_reports.OwnLedger)) = first_of (codes "MATTER") values ≡ Some (codes "FIRM")
HasReportOperands values (Firm (Today today_reports.Trail)) = first_of (codes "MATTER") values ≡ None
HasReportOperands values (Firm (Today today_reports.Exceptions)) = ⊤
HasReportOperands values (Firm (Today today_reports.Trial)) = ⊤
HasReportOperands values (Firm (Today today_reports.Journal)) = ⊤
HasReportOperands values (Firm (Today today_reports.Retention)) = ⊤

-- the name of a task's command
abbrev pub task_text : Task → Text
task_text task = command_text (task_command task)

-- the given text is that of this port
abbrev pub IsPortGiven : Option Text → ℕ → Type 0
IsPortGiven given port = IsSomeAnd given (λ text. IsPort text port)

-- the given text is that of this count
abbrev pub IsCountGiven : Option Text → ℕ → Type 0
IsCountGiven given count = IsSomeAnd given (λ text. IsCount text count)

-- the values of the command `serve` are a port and a count
pub record IsServing (values : List Row) (port count : ℕ) : Type 0 where
  pub port_given : IsPortGiven (first_of (codes "PORT") values) port
  pub count_given : IsCountGiven (first_of (codes "COUNT") values) count

-- the values of a command are the task's operands
abbrev pub HasOperands : List Row → Task → Type 0
HasOperands values tasks.Sheet = ⊤
HasOperands values (tasks.Import path) = first_of (codes "FILE") values ≡ Some path.now
HasOperands values (tasks.Match path) = first_of (codes "FILE") values ≡ Some path.now
HasOperands values tasks.Stream = ⊤
HasOperands values (tasks.Serve port count) = IsServing values port count
HasOperands values (tasks.Report report) = HasReportOperands values report
HasOperands values tasks.Check = ⊤

-- a command of this name with these values is the task
pub record IsTask (name : Text) (values : List Row) (task : Task) : Type 0 where
  pub named : name ≡ task_text task
  pub operands : HasOperands values task

-- the command is that of the task
abbrev pub MeetsTask : Option (Text × List Row) → Task → Type 0
MeetsTask None task = ⊥
MeetsTask (Some met) task = IsTask met.0 met.1 task

-- the parsed values and the command give this business day and this task
pub record Gives (rows : List Row) (met : Option (Text × List Row)) (today : ℕ) (task : Task) : Type 0 where
  -- the value of `--today` is the text of the day
  pub day : option_and_then day_of (first_of (codes "today") rows) ≡ Some today
  pub meets : MeetsTask met task

-- the words mean this plan: the command line accepts them, and their values give it
pub record Means (words : List Text) (today : ℕ) (task : Task) : Type 0 where
  pub parses : fault_of program words ≡ []
  pub gives : Gives (matches_of program words) (subcommand_of program words) today task

-- the value of `--db`, if given
abbrev pub db_of : List Text → Option Text
db_of words = first_of (codes "db") (matches_of program words)

-- the parsed values say that a flag is given
abbrev pub is_flag_set : Text → List Row → Bool
is_flag_set id rows = option_map_or (λ text. bytes_eq text (codes "true")) (first_of id rows) false

-- `--quiet` is given
abbrev pub quiet_of : List Text → Bool
quiet_of words = is_flag_set (codes "quiet") (matches_of program words)

-- the words ask to run a sheet
abbrev pub MeansSheet : List Text → Type 0
MeansSheet words = (today : ℕ) × Means words today tasks.Sheet

-- the words ask to import a statement
abbrev pub MeansImport : List Text → Type 0
MeansImport words = (today : ℕ) × (path : Bor (List ℕ)) × Means words today (tasks.Import path)

-- the words ask to match a statement against the book
abbrev pub MeansMatch : List Text → Type 0
MeansMatch words = (today : ℕ) × (path : Bor (List ℕ)) × Means words today (tasks.Match path)

-- the words ask to serve the messages of standard input
abbrev pub MeansStream : List Text → Type 0
MeansStream words = (today : ℕ) × Means words today tasks.Stream

-- the words ask to serve connections of a port
abbrev pub MeansServe : List Text → Type 0
MeansServe words = (today : ℕ) × (port : ℕ) × (count : ℕ) × Means words today (tasks.Serve port count)

-- the words ask to print a report
abbrev pub MeansReport : List Text → Type 0
MeansReport words = (today : ℕ) × (report : ReportCommand) × Means words today (tasks.Report report)

-- the words ask to check the book
abbrev pub MeansCheck : List Text → Type 0
MeansCheck words = (today : ℕ) × Means words today tasks.Check

-- words that ask for an import do not ask for a sheet
abbrev pub ImportIsNoSheet : Type 0
ImportIsNoSheet = (words : List Text) → MeansImport words → ¬ MeansSheet words

-- words that ask for an import do not ask for a stream
abbrev pub ImportIsNoStream : Type 0
ImportIsNoStream = (words : List Text) → MeansImport words → ¬ MeansStream words

-- words that ask for a match ask for neither a sheet nor a stream
abbrev pub MatchReadsNothing : Type 0
MatchReadsNothing = (words : List Text) → MeansMatch words → (¬ MeansSheet words) × (¬ MeansStream words)

-- words that ask for a report ask for neither a sheet nor a stream
abbrev pub ReportReadsNothing : Type 0
ReportReadsNothing = (words : List Text) → MeansReport words → (¬ MeansSheet words) × (¬ MeansStream words)

-- words that ask to serve connections ask for neither a sheet nor a stream
abbrev pub ServeReadsNothing : Type 0
ServeReadsNothing = (words : List Text) → MeansServe words → (¬ MeansSheet words) × (¬ MeansStream words)

-- words that ask for a check ask for neither a sheet nor a stream
abbrev pub CheckReadsNothing : Type 0
CheckReadsNothing = (words : List Text) → MeansCheck words → (¬ MeansSheet words) × (¬ MeansStream words)

-- the words mean no plan
abbrev pub MeansNothing : List Text → Type 0
MeansNothing words = (today : ℕ) → (task : Task) → ¬ Means words today task

-- why there is no plan if a parse ends with this error
abbrev pub fault_by : ErrorKind → CliFault
fault_by kind.OutOfMemory = faults.Memory
fault_by _ = faults.Line

-- what a fault of the command line says of the words
abbrev pub LeavesNoPlan : List Text → CliFault → Type 0
LeavesNoPlan words faults.Line = MeansNothing words
LeavesNoPlan words faults.Memory = ⊤
