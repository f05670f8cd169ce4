-- How a run of the program ends for its caller, and its exit status.
use Rattle.std.specs.Prelude.{◌≡◌, ◌⊎◌, ℕ, List, [], Option, Some, None, Result, Ok, Err, ⊤}
use Rattle.std.specs.Borrow.{Bor}
use Rattle.std.specs.Io.KnownBytes.{Appends}
use Rattle.clap.specs.Words.{Text}
use Rattle.firm_rows.specs.Firm.{Firm}
use Rattle.trust_base.specs.declared.refusal.StoreFault.{StoreFault}
use Rattle.trust_base.specs.declared.refusal.StoreFault.TheVariants as faults
use Rattle.desk_trail.specs.KeptTrails.{KeepsTrail}
use Rattle.command_line.specs.Program.{Means}
use Rattle.cashier.specs.Check.{CheckEnds}
use Rattle.cashier.specs.Matching.{MatchEnds}
use Rattle.cashier.specs.Report.{PrintsReport}
use Rattle.portal_http.specs.Clients.{clients_of}
use Rattle.portal_http.specs.Output.{Output}
use Rattle.cashier.specs.Serving.{PortEnds}
use Rattle.cashier.specs.Sheet.{SheetEnds}
use Rattle.cashier.specs.Statement.{StatementEnds}
use Rattle.cashier.specs.Stream.{StreamEnds}
use Rattle.cashier.specs.Views.{File, Files, Known}
use Rattle.command_line.specs.declared.command.ReportCommand.{ReportCommand}
use Rattle.command_line.specs.declared.command.Task.TheVariants as task
use Rattle.cashier.specs.declared.outcome.Outcome.{Outcome}
use Rattle.cashier.specs.declared.outcome.Outcome.TheVariants as outcome
use Rattle.std.specs.declared.io.ErrorKind.{ErrorKind}
use Rattle.std.specs.declared.io.ErrorKind.TheVariants as kind
use Rattle.cashier.specs.declared.sheet.SheetEnd.{SheetEnd}
use Rattle.cashier.specs.declared.sheet.SheetEnd.TheVariants as sheet
use Rattle.portal_http.specs.declared.stream.StreamEnd.{StreamEnd}
use Rattle.portal_http.specs.declared.stream.StreamEnd.TheVariants as stream

-- 0 for done, 1 for something refused, 2 for the command line, 3 for a fault
abbrev pub exit_status : Outcome → ℕ
exit_status outcome.Done = 0
exit_status outcome.Refused = 1
exit_status outcome.CommandLine = 2
exit_status outcome.FileFault = 3
exit_status outcome.OutputFault = 3
exit_status outcome.StoreFault = 3
exit_status outcome.MemoryFault = 3
exit_status outcome.NetworkFault = 3

-- the outcome after an error in reading the words
abbrev pub words_outcome : ErrorKind → Outcome
words_outcome kind.OutOfMemory = outcome.MemoryFault
words_outcome _ = outcome.CommandLine

-- the outcome if the store does not open the book
abbrev pub store_outcome : StoreFault → Outcome
store_outcome faults.Store = outcome.StoreFault
store_outcome faults.Memory = outcome.MemoryFault

-- the outcome of a run after its book was put back, or could not be; an earlier fault takes precedence
abbrev pub put_outcome : Outcome → Result Unit StoreFault → Outcome
put_outcome ended (Ok done) = ended
put_outcome outcome.Done (Err fault) = store_outcome fault
put_outcome outcome.Refused (Err fault) = store_outcome fault
put_outcome outcome.CommandLine (Err fault) = outcome.CommandLine
put_outcome outcome.FileFault (Err fault) = outcome.FileFault
put_outcome outcome.OutputFault (Err fault) = outcome.OutputFault
put_outcome outcome.StoreFault (Err fault) = outcome.StoreFault
put_outcome outcome.MemoryFault (Err fault) = outcome.MemoryFault
put_outcome outcome.NetworkFault (Err fault) = outcome.NetworkFault

-- the outcome for the end of a sheet
abbrev pub sheet_outcome : SheetEnd → Outcome
sheet_outcome sheet.Done = outcome.Done
sheet_outcome sheet.Refused = outcome.Refused
sheet_outcome sheet.ReadFault = outcome.FileFault
sheet_outcome sheet.WriteFault = outcome.OutputFault
sheet_outcome sheet.Store = outcome.StoreFault
sheet_outcome sheet.NoMemory = outcome.MemoryFault

-- the outcome for the end of a stream, whatever the replies to its messages were
abbrev pub stream_outcome : StreamEnd → Outcome
stream_outcome stream.Ended = outcome.Done
stream_outcome stream.BadFraming = outcome.Refused
stream_outcome stream.Limit = outcome.Refused
stream_outcome stream.ReadFault = outcome.FileFault
stream_outcome stream.WriteFault = outcome.OutputFault
stream_outcome stream.NoMemory = outcome.MemoryFault

-- the words were understood
abbrev pub HasBegun : Outcome → Type 0
HasBegun outcome.Done = ⊤
HasBegun outcome.Refused = ⊤
HasBegun outcome.CommandLine = ⊥
HasBegun outcome.FileFault = ⊤
HasBegun outcome.OutputFault = ⊤
HasBegun outcome.StoreFault = ⊤
HasBegun outcome.MemoryFault = ⊥
HasBegun outcome.NetworkFault = ⊤

-- the file was not opened, as its folder allows, and nothing was done
pub record IsUnopened (file : File) (output : Output) (told : Outcome) (before after : Firm) : Type 0 where
  pub opened : file.opens None
  pub outcome : told ≡ outcome.FileFault
  pub written : Appends output.before output.after []
  pub firm : after ≡ before

-- the statement in a file was imported with a length that its folder may report, and that ended with this outcome
pub record IsImported (day : ℕ) (file : File) (output : Output) (told : Outcome) (before after : Firm)
    : Type 0 where
  pub size : Option ℕ
  pub opened : file.opens (Some size)
  pub ends : StatementEnds day size file.bytes output told before after

-- how a file that should be imported ends
abbrev pub FileEnds : ℕ → File → Output → Outcome → Firm → Firm → Type 0
FileEnds day file output told before after =
    IsImported day file output told before after ⊎ IsUnopened file output told before after

-- the words say to run a sheet on a day, and it ended with this outcome; whatever its bytes were, the trail is kept
pub record RanSheet (words : List Text) (input : Option (List ℕ)) (output : Output) (told : Outcome)
    (before after : Firm) : Type 0 where
  pub today : ℕ
  pub means : Means words today task.Sheet
  pub end : SheetEnd
  pub outcome : sheet_outcome end ≡ told
  pub ends : SheetEnds today input output end before after
  pub trail : KeepsTrail before after

-- the words say to import the statement at a path on a day, and that ended with this outcome
pub record RanImport (words : List Text) (files : Files) (output : Output) (told : Outcome) (before after : Firm)
    : Type 0 where
  pub today : ℕ
  pub path : Bor (List ℕ)
  pub means : Means words today (task.Import path)
  pub ends : FileEnds today (files path.now) output told before after

-- the statement in a file was matched against the firm with a length that its folder may report, and that ended with
-- this outcome
pub record IsMatchedFile (day : ℕ) (file : File) (output : Output) (told : Outcome) (before after : Firm)
    : Type 0 where
  pub size : Option ℕ
  pub opened : file.opens (Some size)
  pub ends : MatchEnds day size file.bytes output told before after

-- how a file that should be matched ends
abbrev pub MatchFileEnds : ℕ → File → Output → Outcome → Firm → Firm → Type 0
MatchFileEnds day file output told before after =
    IsMatchedFile day file output told before after ⊎ IsUnopened file output told before after

-- the words say to match the statement at a path on a day, and that ended with this outcome
pub record RanMatch (words : List Text) (files : Files) (output : Output) (told : Outcome) (before after : Firm)
    : Type 0 where
  pub today : ℕ
  pub path : Bor (List ℕ)
  pub means : Means words today (task.Match path)
  pub ends : MatchFileEnds today (files path.now) output told before after

-- a stream was served on a day, and that ended with this outcome
pub record IsServed (day : ℕ) (input : Option (List ℕ)) (output : Output) (told : Outcome) (before after : Firm)
    : Type 0 where
  pub end : StreamEnd
  pub outcome : stream_outcome end ≡ told
  pub ends : StreamEnds day input output end before after

-- the words say to serve standard input on a day, and that ended with this outcome
pub record RanStream (words : List Text) (input : Option (List ℕ)) (output : Output) (told : Outcome)
    (before after : Firm) : Type 0 where
  pub today : ℕ
  pub means : Means words today task.Stream
  pub ends : IsServed today input output told before after

-- the words say to serve clients of a port on a day, and that ended with this outcome
pub record RanServe {W : Type 0} (words : List Text) (known : Known W) (output : Output) (told : Outcome)
    (before after : Firm) : Type 0 where
  pub today : ℕ
  pub port : ℕ
  pub count : ℕ
  pub means : Means words today (task.Serve port count)
  pub ends : PortEnds today (clients_of count known.contents (known.ports port).comes) (known.ports port).refuses
      output told before after

-- the words say to print a report on a day, and that ended with this outcome
pub record RanReport (words : List Text) (output : Output) (told : Outcome) (before after : Firm) : Type 0 where
  pub today : ℕ
  pub command : ReportCommand
  pub means : Means words today (task.Report command)
  pub prints : PrintsReport today command output told before after

-- the words say to check the book, and that ended with this outcome
pub record RanCheck (words : List Text) (output : Output) (told : Outcome) (before after : Firm) : Type 0 where
  pub today : ℕ
  pub means : Means words today task.Check
  pub ends : CheckEnds output told before after

-- memory ran out before anything was run
pub record RanNothing (output : Output) (told : Outcome) (before after : Firm) : Type 0 where
  pub outcome : told ≡ outcome.MemoryFault
  pub written : Appends output.before output.after []
  pub firm : after ≡ before

-- how a run of the words ends: a sheet or a stream on standard input, files at paths, and clients of ports, given what
-- is known of them, a report or a check; what was written by then; and the firm before and after
abbrev pub Ran : {W : Type 0} → List Text → Known W → Output → Outcome → Firm → Firm → Type 0
Ran words known output told before after =
    RanSheet words known.input output told before after
    ⊎ (RanImport words known.files output told before after
    ⊎ (RanMatch words known.files output told before after
    ⊎ (RanStream words known.input output told before after
    ⊎ (RanServe words known output told before after
    ⊎ (RanReport words output told before after
    ⊎ (RanCheck words output told before after ⊎ RanNothing output told before after))))))
