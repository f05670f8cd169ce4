-- The result of a run of the program over a book.
use Rattle.std.specs.Prelude.{◌≡◌, ◌≢◌, ◌⊎◌, ℕ, List, Some, None, Result}
use Rattle.clap.specs.Words.{Text}
use Rattle.firm_rows.specs.Firm.{Firm, empty_firm}
use Rattle.firm_rows.specs.FirmSound.{FirmSound}
use Rattle.trust_base.specs.declared.refusal.StoreFault.{StoreFault}
use Rattle.book_reports.specs.Checking.{AreReads}
use Rattle.portal_http.specs.Output.{Output}
use Rattle.command_line.specs.Program.{Means, MeansCheck, MeansNothing, db_of}
use Rattle.command_line.specs.declared.command.Task.{Task}
use Rattle.desk_trail.specs.KeptTrails.{KeepsTrail}
use Rattle.cashier.specs.Calls.{CountsStoreIn, LeavesTrail}
use Rattle.trust_desk.specs.Calls.{KeepsBook}
use Rattle.cashier.specs.Check.{IsCheckTrue}
use Rattle.cashier.specs.Crashes.{LeavesRun, MeansGoingOn}
use Rattle.cashier.specs.Outcome.{HasBegun, Ran, put_outcome, store_outcome}
use Rattle.cashier.specs.Views.{Books, Known}
use Rattle.cashier.specs.declared.outcome.Outcome.{Outcome}
use Rattle.cashier.specs.declared.outcome.Outcome.TheVariants as outcome

-- a run over a new, empty book in memory, which is dropped at the end: the firm that was left is sound; `Runs` is how
-- the run ends, given the firm before and after
pub record RanInMemory (Runs : Firm → Firm → Type 0) : Type 0 where
  pub after : Firm
  pub sound : FirmSound after
  pub ran : Runs empty_firm after

-- no book was available, and nothing was done
pub record HadNoBook (untouched : Type 0) (told : Outcome) : Type 0 where
  pub fault : StoreFault
  pub outcome : told ≡ store_outcome fault
  pub nothing : untouched

-- a run over the book that was found at a path: the book is clean, and the run over it ended this way; then the book
-- that the run left was read, if at all, and put back, or could not be, with this result. No book was opened before it:
-- opening takes the stores, and a run has them once. The claims about the firm hold if the book's store is clean after
-- the run, and if it stood for a sound firm when it was found; the claims about a crash hold even if a fault has shut
-- the store. The trail is kept by the run, and in what a crash leaves of one that ends at its first fault. A check that
-- ended well found the rows of a sound firm, whatever rows were found that can be read; one that names a row which
-- can't be read met a book that refused it
pub record RanAtPath {B W : Type 0} (books : Books B) (path : Text) (words : List Text) (known : Known W)
    (output : Output) (told : Outcome) : Type 0 where
  pub before : B
  pub found : (books.seen before).sure → books.finds path before
  pub serves : (books.seen before).sure → (books.seen before).clean
  pub after : B
  pub ended : Outcome
  pub kept : KeepsBook (CountsStoreIn words ended) (books.seen before) (books.seen after)
  pub sound : (books.seen after).clean → (books.seen before).stands → FirmSound (books.seen after).firm
  pub trail : (books.seen after).clean → (books.seen before).stands
      → KeepsTrail (books.seen before).firm (books.seen after).firm
  pub ran : (books.seen after).clean → (books.seen before).stands
      → Ran words known output ended (books.seen before).firm (books.seen after).firm
  pub crash : (books.seen after).sure → (books.seen before).stands
      → LeavesRun books.seen words known output ended before after
  pub stopped : (books.seen after).sure → (books.seen before).stands
      → LeavesTrail (books.seen before) (books.seen after) ⊎ MeansGoingOn words
  pub checked : (books.seen after).clean → (books.seen before).readable → MeansCheck words
      → IsCheckTrue (books.seen before) (books.seen after) output ended
  -- the book after it was read once more for what a person is told; this is the one that was put back
  pub shown : B
  pub read : AreReads (books.seen after) (books.seen shown)
  pub put : Result Unit StoreFault
  pub left : books.puts shown put
  pub outcome : told ≡ put_outcome ended put

-- a run of words: it ended at the command line only if they mean nothing; if anything was begun, they mean it; for any
-- other end, how the sheet, the file, the stream, the port or the report ended, and the firm. It is over a book in
-- memory if `--db` names no path, and otherwise over one of these books that may be found at the path, if it was
-- available, which was then put back
pub record HasRun {B W : Type 0} (books : Books B) (untouched : Type 0) (words : List Text) (known : Known W)
    (output : Output) (told : Outcome) : Type 0 where
  pub line : told ≡ outcome.CommandLine → MeansNothing words
  pub meant : HasBegun told → (today : ℕ) × (task : Task) × Means words today task
  pub in_memory : db_of words ≡ None → told ≢ outcome.CommandLine → RanInMemory (Ran words known output told)
  pub at_path : (path : Text) → db_of words ≡ Some path → told ≢ outcome.CommandLine
      → RanAtPath books path words known output told ⊎ HadNoBook untouched told
