-- Asks and bank lines that were accepted before a stop and are sent again after it.
use Rattle.std.specs.Prelude.{◌≡◌, ◌∷◌, ℕ, List, IsSome, None, IsTrue}
use Rattle.sqlite_disk.specs.declared.Disk as disk
use Rattle.sqlite_wal.specs.Recovery.{Image}
use Rattle.sqlite_store.specs.FileStore.{state, view}
use Rattle.sqlite.specs.Files.{over_files}
use Rattle.trust_matter.specs.declared.bank_line.BankLine.{BankLine}
use Rattle.trust_matter.specs.Facts.{Asked}
use Rattle.trust_matter.specs.Conditions.{number_made}
use Rattle.trust_matter.specs.Step.{refusal}
use Rattle.firm_rows.specs.Firm.{Firm, of}
use Rattle.trust_store.specs.Crashes.{LeavesAlone}
use Rattle.statement_csv.specs.declared.item.Item.{Item}
use Rattle.statement_csv.specs.declared.item.Item.TheVariants as item
use Rattle.trust_desk.specs.FirmStep.{after_ask}
use Rattle.trust_desk.specs.ItemStep.{after_items, counted_of}
use Rattle.desk_laws.specs.OnceOnly.{ComesAgain, DayRun, IsAskSpent, IsLineOver, RunsOn}
use Rattle.trust_desk.specs.declared.importing.Counted.TheVariants as counted
use Rattle.sql_book.specs.Books.{firm_of, IsLasting, MayLeave}
use Rattle.system_store.specs.Runs.{BookOf, IsFoundIn}

module _ {D E : Type 0} (g : disk.Ghosts D) (h : disk.Ghosts E) where
  -- a run was broken off, and the next one found a book in what was left of its files; everything run before had been
  -- acknowledged, so a crash left exactly its rows
  pub record IsRunAfterStop (before : BookOf g) (next : BookOf h) : Type 0 where
    pub image : Image
    pub numbered : IsTrue (view before.conn.store).is_numbered
    pub left : (state before.conn.store).may_leave image
    pub lasts : IsLasting over_files before
    pub acknowledged : LeavesAlone (firm_of over_files before) (MayLeave over_files before)
    pub found : IsFoundIn image next

  -- an ask that makes an entry and was accepted before a stop changes nothing if it is sent again after it, whatever
  -- ran in between, and is a repeat as long as its matter is not purged
  abbrev pub AsksAreSpentAfterStops : Type 0
  AsksAreSpentAfterStops =
      (m : ℕ) (a again : Asked) (firm new : Firm) (before : BookOf g) (next : BookOf h) (past later : List DayRun)
      → IsSome (number_made a.ask) → refusal (of m firm) a ≡ None
      → RunsOn (after_ask m a firm) past (firm_of over_files before) → IsRunAfterStop before next
      → RunsOn (firm_of over_files next) later new → again.ask ≡ a.ask
      → ∥ IsAskSpent m again new ∥₁

  -- the same holds for a bank line that names an entry and was applied
  abbrev pub LinesAreOverAfterStops : Type 0
  LinesAreOverAfterStops =
      (l again : BankLine) (day again_on : ℕ) (firm new : Firm) (rest front : List Item) (before : BookOf g)
      (next : BookOf h) (past later : List DayRun)
      → counted_of day firm (item.OfMatter l) ≡ counted.Applied → ComesAgain l again
      → RunsOn (after_items day firm (item.OfMatter l ∷ rest)) past (firm_of over_files before)
      → IsRunAfterStop before next → RunsOn (firm_of over_files next) later new
      → ∥ IsLineOver again_on (after_items again_on new front) again ∥₁
