-- What the scripts that make a book's tables make of a database.
use Rattle.std.specs.Prelude.{◌≡◌}
use Rattle.sqlite_trees.specs.Tree.{Trees}
use Rattle.sqlite.specs.Effect.{Database}
use Rattle.sql_making.specs.declared.scripts.Script.{Script}
use Rattle.sql_making.specs.declared.scripts.Script.TheVariants.{Create, Move, Extend}
use Rattle.sql_making.specs.Books.{no_schema, IsNewBook, AreNewBook}
use Rattle.sql_schema.specs.declared.layout.Layout.{Layout}
use Rattle.sql_making.specs.Bare.{IsBareBook, IsExtended, AreExtended}
use Rattle.sql_making.specs.Then.{IsOldBook, IsMoved, AreMoved}

abbrev pub Makes : Script → Database → Database → Type 0
Makes Create old new = old.schema ≡ no_schema → IsNewBook new
Makes Move old new = IsOldBook old → IsMoved old new
Makes Extend old new = (l : Layout) → IsBareBook l old → IsExtended l old new

-- the same for the trees alone, since what a crash may leave is given as trees
abbrev pub MayMake : Script → Database → Trees → Type 0
MayMake Create old trees = old.schema ≡ no_schema → AreNewBook trees
MayMake Move old trees = IsOldBook old → AreMoved old trees
MayMake Extend old trees = (l : Layout) → IsBareBook l old → AreExtended l old trees
