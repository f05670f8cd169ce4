-- What was accepted before a stop is spent after it: the rows that are found are those that were left.
use Rattle.std.proofs.Common.{◌++◌, List, [], ◌∷◌, subst}
use Rattle.std.proofs.Math.Logic.{∥∥₁_map}
use Rattle.sqlite_disk.specs.declared.Disk as disk
use Rattle.sqlite.specs.Files.{over_files}
use Rattle.firm_rows.specs.Firm.{Firm}
use Rattle.desk_laws.specs.OnceOnly.{DayRun, RunsOn}
use Rattle.desk_laws.proofs.Once.{line-once-only, once-only}
use Rattle.sql_book.specs.Books.{firm_of}
use Rattle.system_store.specs.Runs.{BookOf}
use Rattle.system_store.specs.SentAgain.{AsksAreSpentAfterStops, IsRunAfterStop, LinesAreOverAfterStops}
use Rattle.system_store.proofs.Runs.{stopped_found}

-- runs and then more of them
runs-then : (firm mid new : Firm) (past later : List DayRun) → RunsOn firm past mid → RunsOn mid later new → RunsOn firm (past ++ later) new
runs-then firm mid new [] later ran more = subst (λ (f : Firm). RunsOn f later new) ran more
runs-then firm mid new (r ∷ past) later (now, one, ran) more = (now, one, runs-then now mid new past later ran more)

module _ {D E : Type 0} (g : disk.Ghosts D) (h : disk.Ghosts E) where
  -- the runs of both, one after the other
  runs-over : (firm new : Firm) (before : BookOf g) (next : BookOf h) (past later : List DayRun) → RunsOn firm past (firm_of over_files before) → IsRunAfterStop g h before next
      → RunsOn (firm_of over_files next) later new → ∥ RunsOn firm (past ++ later) new ∥₁
  runs-over firm new before next past later ran stop more =
      ∥∥₁_map (stopped_found g h before stop.image next stop.numbered stop.left stop.lasts stop.found) (λ is.
      runs-then firm (firm_of over_files before) new past later ran (subst (λ (f : Firm). RunsOn f later new) (stop.acknowledged (firm_of over_files next) is.firm) more))

  pub asks-spent : AsksAreSpentAfterStops g h
  asks-spent m a again firm new before next past later makes accepted ran stop more same =
      ∥∥₁_map (runs-over _ new before next past later ran stop more) (λ runs. once-only m a again firm new (past ++ later) makes accepted runs same)

  pub lines-over : LinesAreOverAfterStops g h
  lines-over l again day again_on firm new rest front before next past later applied comes ran stop more =
      ∥∥₁_map (runs-over _ new before next past later ran stop more) (λ runs. line-once-only l again day again_on firm new rest front (past ++ later) applied comes runs)
