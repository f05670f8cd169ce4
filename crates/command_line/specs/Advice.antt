-- The advice for words that mean nothing: the usage of the command that they name, an example, and what is wrong.
use Rattle.std.specs.Prelude.{◌≡◌, ◌≢◌, ◌<◌, ◌⊎◌, ◌++◌, ◌+◌, ℕ, Bool, false, List, [], Option, Some, None, codes, fold, if◌then◌else◌, slice_get, take, ⊤}
use Rattle.std.specs.List.{list_any}
use Rattle.std.specs.Option.{option_or}
use Rattle.std.specs.Str.{bytes_eq}
use Rattle.clap.specs.Words.{Row, Text, fault_of, first_of, matches_of, subcommand_of}
use Rattle.clap.specs.declared.error.kind.ErrorKind.{ErrorKind}
use Rattle.clap.specs.declared.error.kind.ErrorKind.TheVariants as kind
use Rattle.trust_base.specs.Texts.{day_of, matter_of}
use Rattle.command_line.specs.Numerals.{IsCount, IsPort}
use Rattle.command_line.specs.Program.{FailsAs, program}
use Rattle.command_line.specs.Table.{command_example, command_text, command_usage}
use Rattle.command_line.specs.declared.advice.Advice.{Advice}
use Rattle.command_line.specs.declared.advice.Setting.{Setting}
use Rattle.command_line.specs.declared.advice.Setting.TheVariants as settings
use Rattle.command_line.specs.declared.advice.Wrong.{Wrong}
use Rattle.command_line.specs.declared.advice.Wrong.TheVariants as wrong
use Rattle.command_line.specs.declared.faults.Front.{Front}
use Rattle.command_line.specs.declared.faults.Front.TheVariants as fronts
use Rattle.command_line.specs.declared.table.CommandName.{CommandName}
use Rattle.command_line.specs.declared.table.CommandName.TheVariants as commands
use Rattle.book_reports.specs.declared.report.TodayReport.TheVariants as today_reports

-- ---- texts

-- what is wrong
abbrev pub wrong_text : Wrong → Text
wrong_text (wrong.Word text) = text.now ++ codes " is not taken here"
wrong_text (wrong.NoDay text) = text.now ++ codes " is no day: write it as 2026-03-16"
wrong_text (wrong.BeforeFirst text) = text.now ++ codes " is before the first day: write the earlier day first"
wrong_text (wrong.NoCard text) = text.now ++ codes " is neither a matter's number, as 000001, nor FIRM"
wrong_text (wrong.NoMatter text) = text.now ++ codes " is no matter's number: write it as 000001"
wrong_text (wrong.NoPort text) = text.now ++ codes " is no port from 1024 to 65535"
wrong_text (wrong.NoCount text) = text.now ++ codes " is no count from 1 to 1000000"
wrong_text (wrong.Repeated settings.Today) = codes "--today is given twice"
wrong_text (wrong.Repeated settings.Db) = codes "--db is given twice"
wrong_text (wrong.Repeated settings.Quiet) = codes "--quiet is given twice"
wrong_text (wrong.NoValue settings.Today) = codes "--today has no day"
wrong_text (wrong.NoValue settings.Db) = codes "--db has no path"
wrong_text (wrong.NoValue settings.Quiet) = codes "--quiet has no value"
wrong_text wrong.MissingDay = codes "--today DAY is missing"
wrong_text wrong.MissingCommand = codes "a command is missing"
wrong_text wrong.MissingWord = codes "a word is missing"

-- the line that says what is wrong, if that is known
abbrev pub wrong_line : Option Wrong → Text
wrong_line None = []
wrong_line (Some w) = codes "\nwrong: " ++ wrong_text w

-- the lines of the advice, without the last newline
abbrev pub advice_text : Advice → Text
advice_text a = codes "usage: cashier_cli [--db PATH] [--quiet] --today DAY " ++ (command_usage a.command
    ++ (codes "\nexample: cashier_cli --today 2026-03-31 " ++ (command_example a.command ++ wrong_line a.wrong)))

-- ---- what holds of the words

-- the command line accepts the words, or only misses required ones after them, so they name a command
abbrev pub HasCommand : List Text → Type 0
HasCommand words = (fault_of program words ≡ []) ⊎ FailsAs words kind.MissingRequiredArgument

-- the command line accepts the words, or needs more of them
abbrev pub IsTakenSoFar : List Text → Type 0
IsTakenSoFar words = HasCommand words ⊎ (FailsAs words kind.MissingSubcommand ⊎ FailsAs words kind.InvalidValue)

-- one of the words is no option and no command where it stands, or is one too many
abbrev pub IsStrayed : List Text → Type 0
IsStrayed words = FailsAs words kind.UnknownArgument
    ⊎ (FailsAs words kind.InvalidSubcommand ⊎ FailsAs words kind.TooManyValues)

-- how far the command line accepts words, by its error, if it has one
abbrev pub front_by : Option ErrorKind → Front
front_by None = fronts.Met
front_by (Some kind.MissingRequiredArgument) = fronts.Met
front_by (Some kind.MissingSubcommand) = fronts.WantsCommand
front_by (Some kind.InvalidValue) = fronts.WantsValue
front_by (Some kind.ArgumentConflict) = fronts.Repeats
front_by (Some kind.UnknownArgument) = fronts.Strays
front_by (Some kind.InvalidSubcommand) = fronts.Strays
front_by (Some kind.TooManyValues) = fronts.Strays
front_by (Some _) = fronts.Fails

-- the command line accepts the words this far
abbrev pub IsFront : List Text → Front → Type 0
IsFront words fronts.Met = HasCommand words
IsFront words fronts.WantsCommand = FailsAs words kind.MissingSubcommand
IsFront words fronts.WantsValue = FailsAs words kind.InvalidValue
IsFront words fronts.Repeats = FailsAs words kind.ArgumentConflict
IsFront words fronts.Strays = IsStrayed words
IsFront words fronts.Fails = ⊤

-- the word is not accepted where it stands, but those before it are so far
pub record IsStray (words : List Text) (word : Text) : Type 0 where
  pub place : ℕ
  pub stands : slice_get words place ≡ Some word
  pub before : IsTakenSoFar (take place words)
  pub refused : IsStrayed (take (place + 1) words)

-- the words name the command: it stands where one is required, and with it none is required any more
pub record Names (words : List Text) (command : CommandName) : Type 0 where
  pub place : ℕ
  pub stands : slice_get words place ≡ Some (command_text command)
  pub wanted : FailsAs (take place words) kind.MissingSubcommand
  pub met : HasCommand (take (place + 1) words)

-- whether the word begins like the option of the business day
abbrev pub names_day : Text → Bool
names_day word = bytes_eq (take 7 word) (codes "--today")

-- whether the word begins like the option of the database
abbrev pub names_db : Text → Bool
names_db word = bytes_eq (take 4 word) (codes "--db")

-- whether the word begins like the flag of a quiet run
abbrev pub names_quiet : Text → Bool
names_quiet word = bytes_eq (take 7 word) (codes "--quiet")

-- the option that a word begins like
abbrev pub setting_named : Text → Option Setting
setting_named word =
    if names_day word then Some settings.Today
    else (if names_db word then Some settings.Db else (if names_quiet word then Some settings.Quiet else None))

-- the option of the last word that begins like one
abbrev pub last_setting : List Text → Option Setting
last_setting = fold (λ before word. option_or (setting_named word) before) None

-- the option is repeated: the command line accepts the words before this place so far, and refuses them with the next
-- word as a repetition; the option named last is the one that is repeated
pub record IsRepeated (words : List Text) (setting : Setting) : Type 0 where
  pub place : ℕ
  pub before : IsTakenSoFar (take place words)
  pub refused : FailsAs (take (place + 1) words) kind.ArgumentConflict
  pub named : last_setting (take (place + 1) words) ≡ Some setting

-- before this place a command is required, and with the word there the value of an option, which the next word, if
-- there is one, does not give
pub record LacksValueAt (words : List Text) (place : ℕ) : Type 0 where
  pub before : FailsAs (take place words) kind.MissingSubcommand
  pub wanted : FailsAs (take (place + 1) words) kind.InvalidValue
  pub left : FailsAs (take (place + 2) words) kind.InvalidValue

-- the option has no value
pub record LacksValue (words : List Text) (setting : Setting) : Type 0 where
  pub place : ℕ
  pub lacks : LacksValueAt words place
  pub named : last_setting (take (place + 1) words) ≡ Some setting

-- of the parsed values, that of `--today` is wrong
abbrev pub IsWrongToday : List Row → Wrong → Type 0
IsWrongToday values (wrong.NoDay text) =
    (first_of (codes "today") values ≡ Some text.now) × (day_of text.now ≡ None)
IsWrongToday values _ = ⊥

-- both are days, and the second is earlier
abbrev pub AreReversed : Option ℕ → Option ℕ → Type 0
AreReversed (Some from) (Some to) = to < from
AreReversed _ _ = ⊥

-- of two texts that give no period, this is wrong
abbrev pub IsNoPeriod : Text → Text → Wrong → Type 0
IsNoPeriod from to (wrong.NoDay text) = ((text.now ≡ from) ⊎ (text.now ≡ to)) × (day_of text.now ≡ None)
IsNoPeriod from to (wrong.BeforeFirst text) = (text.now ≡ to) × AreReversed (day_of from) (day_of to)
IsNoPeriod from to _ = ⊥

-- of the values FROM and TO, this is wrong
abbrev pub IsWrongPeriod : Option Text → Option Text → Wrong → Type 0
IsWrongPeriod (Some from) (Some to) w = IsNoPeriod from to w
IsWrongPeriod _ _ w = ⊥

-- of the values of a command, DAY is wrong
abbrev pub IsWrongDay : List Row → Wrong → Type 0
IsWrongDay values (wrong.NoDay text) = (first_of (codes "DAY") values ≡ Some text.now) × (day_of text.now ≡ None)
IsWrongDay values _ = ⊥

-- FROM or TO is wrong
abbrev pub IsWrongSpan : List Row → Wrong → Type 0
IsWrongSpan values w = IsWrongPeriod (first_of (codes "FROM") values) (first_of (codes "TO") values) w

-- MATTER is wrong, where it may be the word FIRM
abbrev pub IsWrongCard : List Row → Wrong → Type 0
IsWrongCard values (wrong.NoCard text) = (first_of (codes "MATTER") values ≡ Some text.now)
    × (text.now ≢ codes "FIRM") × (matter_of text.now ≡ None)
IsWrongCard values _ = ⊥

-- MATTER is wrong
abbrev pub IsWrongMatter : List Row → Wrong → Type 0
IsWrongMatter values (wrong.NoMatter text) =
    (first_of (codes "MATTER") values ≡ Some text.now) × (matter_of text.now ≡ None)
IsWrongMatter values _ = ⊥

-- PORT or COUNT is wrong
abbrev pub IsWrongServing : List Row → Wrong → Type 0
IsWrongServing values (wrong.NoPort text) =
    (first_of (codes "PORT") values ≡ Some text.now) × ((port : ℕ) → ¬ IsPort text.now port)
IsWrongServing values (wrong.NoCount text) =
    (first_of (codes "COUNT") values ≡ Some text.now) × ((count : ℕ) → ¬ IsCount text.now count)
IsWrongServing values _ = ⊥

-- of the values of this command, this one is wrong
abbrev pub IsWrongOperand : CommandName → List Row → Wrong → Type 0
IsWrongOperand (commands.AsOf report) values w = IsWrongDay values w
IsWrongOperand (commands.Within report) values w = IsWrongSpan values w
IsWrongOperand (commands.Today today_reports.OwnLedger) values w = IsWrongCard values w
IsWrongOperand (commands.Today today_reports.Trail) values w = IsWrongMatter values w
IsWrongOperand commands.Account values w = IsWrongMatter values w ⊎ IsWrongSpan values w
IsWrongOperand commands.Serve values w = IsWrongServing values w
IsWrongOperand _ values w = ⊥

-- of the values of a command with this name, this one is wrong
pub record HasWrongOperand (name : Text) (values : List Row) (w : Wrong) : Type 0 where
  pub command : CommandName
  pub named : name ≡ command_text command
  pub operand : IsWrongOperand command values w

-- of the parsed values and those of the command, if there is one, this one is wrong
abbrev pub IsWrongValue : List Row → Option (Text × List Row) → Wrong → Type 0
IsWrongValue rows None w = IsWrongToday rows w
IsWrongValue rows (Some met) w = IsWrongToday rows w ⊎ HasWrongOperand met.0 met.1 w

-- the command line accepts the words, but this value is wrong
pub record HasWrongValue (words : List Text) (w : Wrong) : Type 0 where
  pub taken : fault_of program words ≡ []
  pub value : IsWrongValue (matches_of program words) (subcommand_of program words) w

-- this is what is wrong with the words
abbrev pub IsWrong : List Text → Wrong → Type 0
IsWrong words (wrong.Word text) = IsStray words text.now
IsWrong words (wrong.Repeated setting) = IsRepeated words setting
IsWrong words (wrong.NoValue setting) = LacksValue words setting
IsWrong words wrong.MissingCommand = FailsAs words kind.MissingSubcommand
IsWrong words wrong.MissingDay = FailsAs words kind.MissingRequiredArgument × (list_any names_day words ≡ false)
IsWrong words wrong.MissingWord = FailsAs words kind.MissingRequiredArgument
IsWrong words w = HasWrongValue words w
