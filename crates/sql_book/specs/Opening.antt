-- A book that was just made in an empty database, and one that was taken from a database that holds it.
use Rattle.std.specs.Prelude.{◌≡◌, ◌⊎◌}
use Rattle.sqlite_trees.specs.Tree.{Trees}
use Rattle.sqlite_trees.specs.declared.store.Store.{Ghosts}
use Rattle.sqlite.specs.Effect.{Database}
use Rattle.sqlite.specs.Held.{Held, state}
use Rattle.firm_rows.specs.Firm.{empty_firm}
use Rattle.trust_store.specs.Crashes.{LeavesAlone}
use Rattle.sql_schema.specs.declared.layout.Layout.{Layout}
use Rattle.sql_schema.specs.declared.layout.Layout.TheVariants.{Moved}
use Rattle.sql_tables.specs.Reading.{IsKept}
use Rattle.sql_rows.specs.Standing.{StandsSound, firm_in}
use Rattle.sql_making.specs.Books.{IsBook}
use Rattle.sql_making.specs.Bare.{IsBareBook, IsExtended, AreExtended}
use Rattle.sql_making.specs.Then.{IsOldBook, IsMoved, AreMoved, Stood}
use Rattle.sql_book.specs.Bare.{firm_bare, BareStandsSound}
use Rattle.sql_book.specs.Then.{firm_then, StoodSound}
use Rattle.sql_book.specs.Books.{HeldBook, at, firm_of, IsServing, IsStanding, IsLasting, MayLeave}

-- the book serves and stands for the firm without rows; a crash leaves that firm, and whatever it leaves lasts
pub record IsMade {S : Type 0} (g : Ghosts S) (b : HeldBook S) : Type 0 where
  pub serves : IsServing g b
  pub book : IsBook b.layout (at g b).now
  pub stands : IsStanding g b
  pub lasts : IsLasting g b
  pub empty : firm_of g b ≡ empty_firm
  pub settled : LeavesAlone empty_firm (MayLeave g b)

-- the connection has a book of this version, in its layout, and it is unchanged; its tables stand for the rows of a
-- sound firm if they did before, which is not checked, and then whatever a crash leaves lasts
pub record IsKeptBook {S : Type 0} (g : Ghosts S) (conn : Held S) (b : HeldBook S) : Type 0 where
  pub book : IsBook b.layout (state g conn).now
  pub kept : IsKept (state g conn) (at g b)
  pub firm : firm_of g b ≡ firm_in b.layout (state g conn).now.trees
  pub stands : StandsSound b.layout (state g conn).now → IsStanding g b
  pub lasts : StandsSound b.layout (state g conn).now → IsLasting g b

-- the rows of a version 1 book were moved into tables of this version, which stand for the same firm; if that firm
-- was sound, which is not checked, whatever a crash leaves lasts
pub record IsMovedBook {S : Type 0} (g : Ghosts S) (conn : Held S) (b : HeldBook S) : Type 0 where
  pub layout : b.layout ≡ Moved
  pub book : IsOldBook (state g conn).now
  pub moved : IsMoved (state g conn).now (at g b).now
  pub firm : Stood (state g conn).now → firm_of g b ≡ firm_then (state g conn).now.trees
  pub stands : StoodSound (state g conn).now → IsStanding g b
  pub lasts : StoodSound (state g conn).now → IsLasting g b

-- the trail was added, empty, to a book of this version that had none; its tables stand for the same firm, which has no
-- acts; if that firm was sound, which is not checked, whatever a crash leaves lasts
pub record IsExtendedBook {S : Type 0} (g : Ghosts S) (conn : Held S) (b : HeldBook S) : Type 0 where
  pub book : IsBareBook b.layout (state g conn).now
  pub extended : IsExtended b.layout (state g conn).now (at g b).now
  pub firm : firm_of g b ≡ firm_bare b.layout (state g conn).now.trees
  pub stands : BareStandsSound b.layout (state g conn).now → IsStanding g b
  pub lasts : BareStandsSound b.layout (state g conn).now → IsLasting g b

-- the book serves and is of this version: it was found as it is, moved from version 1, or given a trail; and a crash
-- leaves its firm
pub record IsTaken {S : Type 0} (g : Ghosts S) (conn : Held S) (b : HeldBook S) : Type 0 where
  pub serves : IsServing g b
  pub book : IsBook b.layout (at g b).now
  pub found : IsKeptBook g conn b ⊎ (IsMovedBook g conn b ⊎ IsExtendedBook g conn b)
  pub settled : LeavesAlone (firm_of g b) (MayLeave g b)

-- what a crash may leave of a database while its book is taken, beside what it might have left before: a version 1 book
-- that was moved, or one without the trail that was given it
abbrev pub AreTaken : Database → Trees → Type 0
AreTaken db trees = (IsOldBook db × AreMoved db trees) ⊎ ((l : Layout) × IsBareBook l db × AreExtended l db trees)
