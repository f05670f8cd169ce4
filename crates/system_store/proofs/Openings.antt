-- A book that was had from a connection.
use Rattle.std.proofs.Common.{◌≡◌, ◌⊎◌, inr, IfOk, IsTrue, Result, ap, sym, subst, ◌∙◌}
use Rattle.std.proofs.lemmas.Result.{IfOk-weaker}
use Rattle.sqlite_disk.specs.declared.Disk as disk
use Rattle.sqlite_disk.specs.declared.Files.{Files}
use Rattle.sqlite_wal.specs.Reads.{AreClean}
use Rattle.sqlite_wal.specs.Recovery.{Image}
use Rattle.sqlite_store.specs.declared.store.FileStore.{FileStore}
use Rattle.sqlite_trees.specs.declared.store.Store.{Ghosts}
use Rattle.sqlite.specs.Closing.{IsCopied}
use Rattle.sqlite.specs.Effect.{Database, IsDatabase}
use Rattle.sqlite.specs.Files.{IsOpened, file_state, over_files}
use Rattle.sqlite.specs.Held.{Held, state}
use Rattle.sqlite.specs.Start.{FindsIn}
use Rattle.sqlite.specs.State.{HasCleanDisk}
use Rattle.sql_tables.specs.Reading.{IsKept}
use Rattle.sql_making.specs.Books.{no_schema}
use Rattle.sql_book.specs.Books.{HeldBook, IsServing, IsSure}
use Rattle.sql_book.specs.Opening.{IsMade, IsTaken}
use Rattle.system_store.specs.Runs.{BookOf, IsFoundIn, IsHad, IsPutBack, IsSettled}

-- a book that was made behind a taking that found none was made where there was no table
pub made_behind : {S : Type 0} (g : Ghosts S) (first mid : Held S) (b : HeldBook S)
    → (IsSure g b → IsMade g b) → (state g mid).now.schema ≡ no_schema → (IsSure g b → IsTrue (state g mid).is_open) → (IsSure g b → HasCleanDisk (state g mid))
    → (HasCleanDisk (state g mid) → IsTrue (state g mid).is_open → IsKept (state g first) (state g mid))
    → IsSure g b → IsTaken g first b ⊎ (((state g first).now.schema ≡ no_schema) × IsMade g b)
made_behind g first mid b made empty was_open clean kept sure =
    inr (ap (λ (d : Database). d.schema) (sym (kept (clean sure) (was_open sure)).now) ∙ empty, made sure)

-- a book that was had from a connection to files was found in what they held
pub found_in : {D : Type 0} {g : disk.Ghosts D} (image : Image) (conn : Held (FileStore D g)) (b : BookOf g)
    → (IsSure over_files b → IsTaken over_files conn b ⊎ (((file_state conn).now.schema ≡ no_schema) × IsMade over_files b))
    → (IsSure over_files b → HasCleanDisk (file_state conn)) → (HasCleanDisk (file_state conn) → IsOpened conn) → (HasCleanDisk (file_state conn) → FindsIn image (file_state conn))
    → IsSure over_files b → IsFoundIn image b
found_in image conn b book clean opened found sure =
    record { conn = conn; opened = opened (clean sure); found = found (clean sure); book = book sure }

module _ {D E : Type 0} {g : disk.Ghosts D} (image : Image) (answer : Result (BookOf g) E) where
  -- a book that was had, clause by clause
  pub had_found : IfOk answer (IsHad image) → IfOk answer (λ (b : BookOf g). IsSure over_files b → IsFoundIn image b)
  had_found had = IfOk-weaker answer _ _ (λ (b : BookOf g) (it : IsHad image b). it.found) had

  pub had_serving : IfOk answer (IsHad image) → IfOk answer (λ (b : BookOf g). IsSure over_files b → IsServing over_files b)
  had_serving had = IfOk-weaker answer _ _ (λ (b : BookOf g) (it : IsHad image b). it.serves) had

-- what is said of a connection in two parts
pub is_settled : {D : Type 0} {g : disk.Ghosts D} {conn : Held (FileStore D g)} → (IsTrue (file_state conn).is_open → (file_state conn).now ≡ (file_state conn).committed)
    → (IsTrue (file_state conn).is_open → IsDatabase (file_state conn).now) → IsSettled conn
is_settled settled listed = record { settled = settled; listed = listed }

-- the files of a connection are those of the book that held it
pub put_back : {D : Type 0} {g : disk.Ghosts D} (b : BookOf g) (conn : Held (FileStore D g)) (files : Files D) → conn ≡ b.conn → (AreClean g files.log files.db → IsCopied conn files)
    → IsSettled conn → IsPutBack b
put_back {D} {g} b conn files same copied settled = record {
  files = files;
  copied = λ clean. subst (λ (c : Held (FileStore D g)). IsCopied c files) same (copied clean);
  seen = subst (λ (c : Held (FileStore D g)). IsSettled c) same settled;
}
