-- What a crash leaves after a run of the program.
use Rattle.std.specs.Prelude.{◌≡◌, ◌⊎◌, ℕ, List, Option, None, option_map}
use Rattle.std.specs.Borrow.{Bor}
use Rattle.clap.specs.Words.{Text}
use Rattle.trust_store.specs.Seen.{Seen}
use Rattle.statement_csv.specs.Items.{items}
use Rattle.trust_desk.specs.Crashes.{AreNoFaultsButLast, IsAfterFirst, MayLeave}
use Rattle.portal_http.specs.Clients.{Clients, clients_of}
use Rattle.portal_http.specs.Output.{Output}
use Rattle.portal_http.specs.Served.{Served}
use Rattle.portal_http.specs.ServedAll.{AreServedInTurn}
use Rattle.portal_http.specs.declared.server.ClientEnd.{ClientEnd}
use Rattle.portal_http.specs.declared.stream.StreamEnd.{StreamEnd}
use Rattle.command_line.specs.Program.{Means, MeansCheck, MeansServe, MeansStream}
use Rattle.command_line.specs.declared.command.ReportCommand.{ReportCommand}
use Rattle.command_line.specs.declared.command.Task.TheVariants as task
use Rattle.cashier.specs.Calls.{LeavesSame, LeavesTrail}
use Rattle.cashier.specs.Outcome.{sheet_outcome, stream_outcome}
use Rattle.cashier.specs.Sheet.{SheetIsKept}
use Rattle.cashier.specs.Statement.{EndsByNoFault}
use Rattle.cashier.specs.Views.{File, Files, Known}
use Rattle.cashier.specs.declared.outcome.Outcome.{Outcome}
use Rattle.cashier.specs.declared.outcome.Outcome.TheVariants as outcome
use Rattle.cashier.specs.declared.sheet.SheetEnd.{SheetEnd}

-- a sheet was run: the lines that were written as accepted are of records that a crash leaves done; whatever its bytes
-- were, the trail is kept in what a crash leaves
pub record LeavesSheet (words : List Text) (input : Option (List ℕ)) (output : Output) (told : Outcome)
    (old new : Seen) : Type 0 where
  pub today : ℕ
  pub means : Means words today task.Sheet
  pub end : SheetEnd
  pub outcome : sheet_outcome end ≡ told
  pub lines : SheetIsKept today input output end old new
  pub trail : LeavesTrail old new

-- a statement of these bytes, if they are known, was imported: a crash leaves its first items applied, or what it
-- might have left before
abbrev pub LeavesFirst : ℕ → Option (List ℕ) → Outcome → Seen → Seen → Type 0
LeavesFirst day bytes told old new =
    MayLeave (EndsByNoFault told) (IsAfterFirst day old.firm (option_map items bytes)) old.firm new.firm old new

-- the statement in a file was so imported, or the file was not opened
abbrev pub LeavesItems : {B : Type 0} → (B → Seen) → ℕ → File → Outcome → B → B → Type 0
LeavesItems seen day file told old new =
    LeavesFirst day file.bytes told (seen old) (seen new) ⊎ (file.opens None × (new ≡ old))

pub record LeavesStatement {B : Type 0} (seen : B → Seen) (words : List Text) (files : Files) (told : Outcome)
    (old new : B) : Type 0 where
  pub today : ℕ
  pub path : Bor (List ℕ)
  pub means : Means words today (task.Import path)
  pub items : LeavesItems seen today (files path.now) told old new

-- a statement was matched against the book: a crash leaves what it might have left before, or these rows unchanged
pub record LeavesMatch (words : List Text) (old new : Seen) : Type 0 where
  pub today : ℕ
  pub path : Bor (List ℕ)
  pub means : Means words today (task.Match path)
  pub rows : LeavesSame old new

-- a stream was served: its answers, and what a crash leaves of its messages, in which the trail is kept if no reply but
-- the last told of a fault
abbrev pub LeavesMessages : ℕ → Option (List ℕ) → Output → Outcome → Seen → Seen → Type 0
LeavesMessages day input output told old new =
    (end : StreamEnd) × (stream_outcome end ≡ told) × (served : Served day input output.before old end output.after new)
    × (AreNoFaultsButLast served.replies → LeavesTrail old new)

pub record LeavesStream (words : List Text) (input : Option (List ℕ)) (output : Output) (told : Outcome)
    (old new : Seen) : Type 0 where
  pub today : ℕ
  pub means : Means words today task.Stream
  pub messages : LeavesMessages today input output told old new

-- clients of a port were served in turn, or none if it was not available: for each its answers, and what a crash
-- leaves of its messages
abbrev pub LeavesClients : {B W : Type 0} → (B → Seen) → ℕ → Clients W → B → B → Type 0
LeavesClients seen day clients old new =
    (ends : List ClientEnd) × AreServedInTurn seen clients.contents day clients.comes old ends new

pub record LeavesPort {B W : Type 0} (seen : B → Seen) (words : List Text) (known : Known W) (old new : B)
    : Type 0 where
  pub today : ℕ
  pub port : ℕ
  pub count : ℕ
  pub means : Means words today (task.Serve port count)
  pub clients : LeavesClients seen today (clients_of count known.contents (known.ports port).comes) old new

-- a report was printed: a crash leaves what it might have left before, or these rows unchanged
pub record LeavesReport (words : List Text) (old new : Seen) : Type 0 where
  pub today : ℕ
  pub command : ReportCommand
  pub means : Means words today (task.Report command)
  pub rows : LeavesSame old new

-- the book was checked: if its store is still clean, as it is if all was sound, a crash leaves what it might have
-- left before, or these rows unchanged
pub record LeavesCheck (words : List Text) (told : Outcome) (old new : Seen) : Type 0 where
  pub today : ℕ
  pub means : Means words today task.Check
  pub serves : told ≡ outcome.Done → new.clean
  pub rows : new.clean → LeavesSame old new

-- what a crash leaves of the book after words were run over it; if nothing was run, the book is unchanged
abbrev pub LeavesRun : {B W : Type 0} → (B → Seen) → List Text → Known W → Output → Outcome → B → B → Type 0
LeavesRun seen words known output told old new =
    LeavesSheet words known.input output told (seen old) (seen new)
    ⊎ (LeavesStatement seen words known.files told old new
    ⊎ (LeavesMatch words (seen old) (seen new)
    ⊎ (LeavesStream words known.input output told (seen old) (seen new)
    ⊎ (LeavesPort seen words known old new
    ⊎ (LeavesReport words (seen old) (seen new) ⊎ (LeavesCheck words told (seen old) (seen new) ⊎ (new ≡ old)))))))

-- the words mean what goes on after a fault: a stream, clients of a port, or a check
abbrev pub MeansGoingOn : List Text → Type 0
MeansGoingOn words = MeansStream words ⊎ (MeansServe words ⊎ MeansCheck words)
