-- What standard error is told about the outcome of a run.
use Rattle.std.specs.Prelude.{◌≡◌, ◌⊎◌, ◌++◌, ℕ, List, Option, Some, None, IfSome, codes}
use Rattle.std.specs.Borrow.{Bor}
use Rattle.std.specs.Fmt.{decimal}
use Rattle.clap.specs.Words.{Text}
use Rattle.command_line.specs.Advice.{IsWrong, Names, advice_text}
use Rattle.command_line.specs.Program.{Means, MeansSheet, MeansStream, db_of}
use Rattle.command_line.specs.declared.advice.Advice.{Advice}
use Rattle.command_line.specs.declared.command.Task.TheVariants as task
use Rattle.cashier.specs.declared.notice.Notice.{Notice}
use Rattle.cashier.specs.declared.notice.Notice.TheVariants as notice
use Rattle.cashier.specs.declared.notice.InputSource.{InputSource}
use Rattle.cashier.specs.declared.notice.InputSource.TheVariants as source
use Rattle.cashier.specs.declared.outcome.Outcome.{Outcome}
use Rattle.cashier.specs.declared.outcome.Outcome.TheVariants as outcome

-- ---- texts

-- what could not be read
abbrev pub source_text : InputSource → Text
source_text (source.File path) = path.now ++ codes " could not be opened or read"
source_text source.Input = codes "standard input could not be read"

-- the line about what could not be read, if that is known
abbrev pub source_line : Option InputSource → Text
source_line None = codes "file fault"
source_line (Some s) = codes "file fault\n" ++ source_text s

-- the line about the book, with its path if that is known
abbrev pub book_line : Option (Bor (List ℕ)) → Text
book_line None = codes "store fault"
book_line (Some path) = codes "store fault\n" ++ (path.now ++ codes " could not be opened, read or written as a book")

-- the line about the port, if it is known
abbrev pub port_line : Option ℕ → Text
port_line None = codes "network fault"
port_line (Some port) = codes "network fault\nport " ++ (decimal port
    ++ codes " could not be had, or an accept on it was refused")

-- the lines on standard error, without the end of the last
abbrev pub notice_text : Notice → Text
notice_text (notice.CommandLine advice) = advice_text advice
notice_text (notice.FileFault s) = source_line s
notice_text notice.OutputFault = codes "file fault\nstandard output could not be written"
notice_text (notice.StoreFault path) = book_line path
notice_text notice.MemoryFault = codes "memory fault"
notice_text (notice.NetworkFault port) = port_line port

-- ---- what is true of the run

-- the advice fits the words
pub record IsAdvice (words : List Text) (advice : Advice) : Type 0 where
  pub command : IfSome advice.command (Names words)
  pub wrong : IfSome advice.wrong (IsWrong words)

-- the words say to read this
abbrev pub IsSource : List Text → InputSource → Type 0
IsSource words (source.File path) =
    ((today : ℕ) × Means words today (task.Import path)) ⊎ ((today : ℕ) × Means words today (task.Match path))
IsSource words source.Input = MeansSheet words ⊎ MeansStream words

-- the words say to serve clients of this port
abbrev pub IsServedPort : List Text → ℕ → Type 0
IsServedPort words port = (today : ℕ) × (count : ℕ) × Means words today (task.Serve port count)

-- the words name a book at this path
abbrev pub IsBookPath : List Text → Text → Type 0
IsBookPath words path = db_of words ≡ Some path

-- what is reported about the outcome of the words: nothing if all was done or something was refused
abbrev pub IsTold : List Text → Outcome → Option Notice → Type 0
IsTold words outcome.Done told = told ≡ None
IsTold words outcome.Refused told = told ≡ None
IsTold words outcome.CommandLine told =
    (advice : Advice) × IsAdvice words advice × (told ≡ Some (notice.CommandLine advice))
IsTold words outcome.FileFault told =
    (s : Option InputSource) × IfSome s (IsSource words) × (told ≡ Some (notice.FileFault s))
IsTold words outcome.OutputFault told = told ≡ Some notice.OutputFault
IsTold words outcome.StoreFault told =
    (path : Option (Bor (List ℕ))) × IfSome path (λ p. IsBookPath words p.now) × (told ≡ Some (notice.StoreFault path))
IsTold words outcome.MemoryFault told = told ≡ Some notice.MemoryFault
IsTold words outcome.NetworkFault told =
    (port : Option ℕ) × IfSome port (IsServedPort words) × (told ≡ Some (notice.NetworkFault port))
