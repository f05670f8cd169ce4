-- The book of a run over files, what is left of it there, and the book of the next run.
use Rattle.std.specs.Prelude.{◌≡◌, ◌⊎◌, [], IsTrue}
use Rattle.sqlite_disk.specs.declared.Disk as disk
use Rattle.sqlite_disk.specs.declared.Files.{Files}
use Rattle.sqlite_wal.specs.Files.{outcomes}
use Rattle.sqlite_wal.specs.Reads.{AreClean}
use Rattle.sqlite_wal.specs.Recovery.{Image}
use Rattle.sqlite_trees.specs.Tree.{Trees}
use Rattle.sqlite_store.specs.FileStore.{state, view}
use Rattle.sqlite_store.specs.declared.store.FileStore.{FileStore}
use Rattle.sqlite.specs.Closing.{IsCopied}
use Rattle.sqlite.specs.Effect.{Database, IsDatabase}
use Rattle.sqlite.specs.Files.{IsOpened, file_state, image_of, over_files}
use Rattle.sqlite.specs.Held.{Held}
use Rattle.sqlite.specs.Start.{FindsIn}
use Rattle.trust_store.specs.Crashes.{LeavesAlone}
use Rattle.sql_schema.specs.declared.layout.Layout.{Layout}
use Rattle.sql_making.specs.Books.{no_schema}
use Rattle.sql_book.specs.Bare.{firm_bare}
use Rattle.sql_book.specs.Books.{HeldBook, firm_of, IsServing, IsStanding, IsSure, IsLasting, MayLeave}
use Rattle.sql_book.specs.Opening.{IsMade, IsTaken}
use Rattle.sql_book.specs.Stops.{IsNext, IsOldStanding, IsBareStanding, IsLeftInTaking, IsOfFirm}
use Rattle.sql_book.specs.Then.{firm_then}

-- the contents of two files of which nothing is known: those that the kit's `Unknown` stands for
abbrev pub unknown_files : Image
unknown_files = record { log = []; db = [] }

-- a book of two files
abbrev pub BookOf : {D : Type 0} → disk.Ghosts D → Type 0
BookOf {D} g = HeldBook (FileStore D g)

-- the book was taken from files with these contents, or made there if they held no table
pub record IsFoundIn {D : Type 0} {g : disk.Ghosts D} (image : Image) (b : BookOf g) : Type 0 where
  pub conn : Held (FileStore D g)
  pub opened : IsOpened conn
  pub found : FindsIn image (file_state conn)
  pub book : IsTaken over_files conn b ⊎ (((file_state conn).now.schema ≡ no_schema) × IsMade over_files b)

-- a book was had of files with these contents: once it is sure, it was found in them, and it serves
pub record IsHad {D : Type 0} {g : disk.Ghosts D} (image : Image) (b : BookOf g) : Type 0 where
  pub found : IsSure over_files b → IsFoundIn image b
  pub serves : IsSure over_files b → IsServing over_files b

-- what an open connection sees was committed, in a database that lists what it holds
pub record IsSettled {D : Type 0} {g : disk.Ghosts D} (conn : Held (FileStore D g)) : Type 0 where
  pub settled : IsTrue (file_state conn).is_open → (file_state conn).now ≡ (file_state conn).committed
  pub listed : IsTrue (file_state conn).is_open → IsDatabase (file_state conn).now

-- The book was given back to its files. What it saw was committed, in a database that lists what it holds. It is in
-- the database file, with its log and alone, both as the file reads now and after a crash.
pub record IsPutBack {D : Type 0} {g : disk.Ghosts D} (b : BookOf g) : Type 0 where
  pub files : Files D
  pub copied : AreClean g files.log files.db → IsCopied b.conn files
  pub seen : IsSettled b.conn

-- the contents of two files as they read now, or after a crash
abbrev pub IsLeftIn : {D : Type 0} → disk.Ghosts D → Files D → Image → Type 0
IsLeftIn g files image = (image ≡ image_of g files) ⊎ outcomes g files.log files.db image

-- the book of a run stands, lasts, and has the rows of the earlier one
pub record HasSameRows {D E : Type 0} {g : disk.Ghosts D} {h : disk.Ghosts E} (before : BookOf g) (next : BookOf h)
    : Type 0 where
  pub rows : firm_of over_files next ≡ firm_of over_files before
  pub stands : IsStanding over_files next
  pub settled : LeavesAlone (firm_of over_files next) (MayLeave over_files next)
  pub lasts : IsLasting over_files next

module _ {D E : Type 0} (g : disk.Ghosts D) (h : disk.Ghosts E) where
  -- a book that stood and was given back is found by the next run over its files, with the same rows
  abbrev pub PutBooksAreFound : Type 0
  PutBooksAreFound =
      (before : BookOf g) (put : IsPutBack before) (image : Image) (next : BookOf h)
      → AreClean g put.files.log put.files.db → IsLeftIn g put.files image → IsStanding over_files before
      → IsFoundIn image next → ∥ HasSameRows before next ∥₁

  -- a book that lasts is found by the next run over what a stop left of its files
  abbrev pub StoppedBooksAreFound : Type 0
  StoppedBooksAreFound =
      (before : BookOf g) (image : Image) (next : BookOf h) → IsTrue (view before.conn.store).is_numbered
      → (state before.conn.store).may_leave image → IsLasting over_files before
      → IsFoundIn image next → ∥ IsNext over_files over_files before next ∥₁

  -- if a run stops while it takes a version 1 database, the next run over what is left of its files finds a book that
  -- stands for the same firm
  abbrev pub StoppedMovesAreFound : Type 0
  StoppedMovesAreFound =
      (db : Database) (before : Held (FileStore D g)) (image : Image) (next : BookOf h)
      → IsTrue (view before.store).is_numbered → (state before.store).may_leave image → IsOldStanding db
      → ((trees : Trees) → (file_state before).may_leave trees → IsLeftInTaking db trees)
      → IsFoundIn image next → ∥ IsOfFirm over_files (firm_then db.trees) next ∥₁

  -- if a run stops while it takes a book of this version without the trail, the next run over what is left of its files
  -- finds a book that stands for the same firm
  abbrev pub StoppedExtensionsAreFound : Type 0
  StoppedExtensionsAreFound =
      (l : Layout) (db : Database) (before : Held (FileStore D g)) (image : Image) (next : BookOf h)
      → IsTrue (view before.store).is_numbered → (state before.store).may_leave image → IsBareStanding l db
      → ((trees : Trees) → (file_state before).may_leave trees → IsLeftInTaking db trees)
      → IsFoundIn image next → ∥ IsOfFirm over_files (firm_bare l db.trees) next ∥₁
