-- What a stop leaves of a book, and the book that the next run takes from that.
use Rattle.std.specs.Prelude.{◌≡◌, ◌⊎◌}
use Rattle.sqlite_trees.specs.Tree.{Trees}
use Rattle.sqlite_trees.specs.declared.store.Store.{Ghosts}
use Rattle.sqlite.specs.Effect.{Database, IsDatabase}
use Rattle.sqlite.specs.Held.{Held, state}
use Rattle.sqlite.specs.State.{IsLive, Opens}
use Rattle.firm_rows.specs.Firm.{Firm, empty_firm}
use Rattle.trust_store.specs.Crashes.{LeavesAlone}
use Rattle.sql_schema.specs.declared.layout.Layout.{Layout}
use Rattle.sql_schema.specs.declared.layout.Layout.TheVariants.{Made}
use Rattle.sql_rows.specs.Standing.{StandsSound, firm_in}
use Rattle.sql_making.specs.Bare.{IsBareBook}
use Rattle.sql_making.specs.Books.{IsBook, AreNewBook}
use Rattle.sql_making.specs.Then.{IsOldBook}
use Rattle.sql_book.specs.Bare.{firm_bare, BareStandsSound}
use Rattle.sql_book.specs.Then.{firm_then, StoodSound}
use Rattle.sql_book.specs.Books.{HeldBook, at, firm_of, IsStanding, IsLasting, MayLeave}
use Rattle.sql_book.specs.Opening.{AreTaken, IsTaken}

-- a connection was just opened over these trees: it sees what was committed, in a database that lists what it holds
pub record IsOpenedOver {S : Type 0} (g : Ghosts S) (trees : Trees) (conn : Held S) : Type 0 where
  pub opens : Opens (state g conn)
  pub live : IsLive (state g conn)
  pub found : (state g conn).committed.trees ≡ trees

module _ {S T : Type 0} (g : Ghosts S) (h : Ghosts T) where
  -- a connection holds a book that stands for the rows of a sound firm, and a crash of the earlier book might have
  -- left these rows
  pub record HoldsLeft (before : HeldBook S) (conn : Held T) : Type 0 where
    pub book : IsBook before.layout (state h conn).now
    pub stands : StandsSound before.layout (state h conn).now
    pub firm : MayLeave g before (firm_in before.layout (state h conn).now.trees)

  -- the book of the next run: it stands for the rows of a sound firm that a crash of the earlier book might have
  -- left; a crash now leaves only these rows, and whatever it leaves lasts
  pub record IsNext (before : HeldBook S) (next : HeldBook T) : Type 0 where
    pub stands : IsStanding h next
    pub firm : MayLeave g before (firm_of h next)
    pub settled : LeavesAlone (firm_of h next) (MayLeave h next)
    pub lasts : IsLasting h next

  -- whatever a stop leaves of a book that lasts is a book that can be taken
  abbrev pub StopsLeaveBooks : Type 0
  StopsLeaveBooks =
      (before : HeldBook S) (trees : Trees) (conn : Held T) → IsLasting g before → (at g before).may_leave trees
      → IsOpenedOver h trees conn → HoldsLeft before conn

  -- the book that is then taken is that of the next run
  abbrev pub StopsAreTaken : Type 0
  StopsAreTaken =
      (before : HeldBook S) (conn : Held T) (next : HeldBook T) → HoldsLeft before conn → IsTaken h conn next
      → IsNext before next

-- a connection holds a book that stands for the firm without rows
pub record HoldsNewBook {T : Type 0} (h : Ghosts T) (conn : Held T) : Type 0 where
  pub book : IsBook Made (state h conn).now
  pub stands : StandsSound Made (state h conn).now
  pub empty : firm_in Made (state h conn).now.trees ≡ empty_firm

-- whatever a stop leaves of a book being made is what was there before, or a book that can be taken
abbrev pub StopsInMakingLeaveBooks : {T : Type 0} → Ghosts T → Type 0
StopsInMakingLeaveBooks {T} h =
    (trees : Trees) (conn : Held T) → AreNewBook trees → IsOpenedOver h trees conn → HoldsNewBook h conn

-- a database holds a version 1 book, lists what it holds, and its tables stand for the rows of a sound firm
pub record IsOldStanding (db : Database) : Type 0 where
  pub book : IsOldBook db
  pub listed : IsDatabase db
  pub stood : StoodSound db

-- a database holds a book of this version without the trail, lists what it holds, and its tables stand for the rows of
-- a sound firm
pub record IsBareStanding (l : Layout) (db : Database) : Type 0 where
  pub book : IsBareBook l db
  pub listed : IsDatabase db
  pub stands : BareStandsSound l db

-- what a stop leaves of a database while its book is taken, as `adopt` says of a crash: unchanged, moved, or with the
-- trail
abbrev pub IsLeftInTaking : Database → Trees → Type 0
IsLeftInTaking db trees = (trees ≡ db.trees) ⊎ AreTaken db trees

module _ {T : Type 0} (h : Ghosts T) (firm : Firm) where
  -- a connection holds a version 1 book that stands for the rows of this firm, which is sound
  pub record HoldsOldFirm (conn : Held T) : Type 0 where
    pub book : IsOldBook (state h conn).now
    pub stood : StoodSound (state h conn).now
    pub same : firm_then (state h conn).now.trees ≡ firm

  -- the same, but a book of this version without the trail, in some layout
  pub record HoldsBareFirm (conn : Held T) : Type 0 where
    pub layout : Layout
    pub book : IsBareBook layout (state h conn).now
    pub stands : BareStandsSound layout (state h conn).now
    pub same : firm_bare layout (state h conn).now.trees ≡ firm

  -- the same, but a book of this version in some layout
  pub record HoldsFirm (conn : Held T) : Type 0 where
    pub layout : Layout
    pub book : IsBook layout (state h conn).now
    pub stands : StandsSound layout (state h conn).now
    pub same : firm_in layout (state h conn).now.trees ≡ firm

  -- a book stands for the rows of this firm, which is sound; a crash now leaves only these, and whatever it leaves
  -- lasts
  pub record IsOfFirm (book : HeldBook T) : Type 0 where
    pub stands : IsStanding h book
    pub same : firm_of h book ≡ firm
    pub settled : LeavesAlone firm (MayLeave h book)
    pub lasts : IsLasting h book

  -- the book taken from a connection that holds one of either version, with the trail or without, stands for the same
  -- firm
  abbrev pub BooksAreTaken : Type 0
  BooksAreTaken =
      (conn : Held T) (next : HeldBook T) → HoldsOldFirm conn ⊎ (HoldsBareFirm conn ⊎ HoldsFirm conn)
      → IsTaken h conn next → IsOfFirm next

-- whatever a stop leaves of a version 1 book while it is being taken is that book, or one of this version for the
-- same firm, and it can be taken
abbrev pub StopsInMovingLeaveBooks : {T : Type 0} → Ghosts T → Type 0
StopsInMovingLeaveBooks {T} h =
    (db : Database) (trees : Trees) (conn : Held T) → IsOldStanding db → IsLeftInTaking db trees
    → IsOpenedOver h trees conn
    → HoldsOldFirm h (firm_then db.trees) conn ⊎ HoldsFirm h (firm_then db.trees) conn

-- whatever a stop leaves of a book without the trail while it is being taken is that book, or one with the trail for
-- the same firm, and it can be taken
abbrev pub StopsInExtendingLeaveBooks : {T : Type 0} → Ghosts T → Type 0
StopsInExtendingLeaveBooks {T} h =
    (l : Layout) (db : Database) (trees : Trees) (conn : Held T) → IsBareStanding l db → IsLeftInTaking db trees
    → IsOpenedOver h trees conn
    → HoldsBareFirm h (firm_bare l db.trees) conn ⊎ HoldsFirm h (firm_bare l db.trees) conn
