-- A database of version 1 whose tables stand for the rows of a sound firm.
use Rattle.sqlite_trees.specs.Tree.{Trees}
use Rattle.sqlite.specs.Effect.{Database}
use Rattle.firm_rows.specs.Firm.{Firm}
use Rattle.sql_making.specs.Then.{Stood, lists_then}
use Rattle.sql_rows.specs.Meaning.{AreSound, firm_from}

-- the firm whose rows the tables of version 1 stand for
abbrev pub firm_then : Trees → Firm
firm_then db = firm_from (lists_then db)

-- the tables of version 1 stand, and stand for the rows of a sound firm
pub record StoodSound (db : Database) : Type 0 where
  pub tables : Stood db
  pub rows : AreSound (lists_then db.trees)
