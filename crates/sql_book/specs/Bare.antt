-- A book of this version without the trail whose tables stand for the rows of a sound firm.
use Rattle.std.specs.Prelude.{◌≡◌}
use Rattle.sqlite_trees.specs.Tree.{Trees}
use Rattle.sqlite.specs.Effect.{Database}
use Rattle.firm_rows.specs.Firm.{Firm}
use Rattle.sql_schema.specs.declared.layout.Layout.{Layout}
use Rattle.sql_schema.specs.Schema.{matter_tree, seat_tree, entry_tree, journal_tree, firm_line_tree, exception_tree, balance_tree}
use Rattle.sql_schema.specs.Bare.{bare_schema}
use Rattle.sql_tables.specs.Standing.{HeadsHold, SeatsHold, EntriesHold, MovementsHold, FirmLinesHold, ExceptionsHold, BalancesHold}
use Rattle.sql_making.specs.Bare.{bare_lists}
use Rattle.sql_rows.specs.Meaning.{AreSound, firm_from}

-- the firm whose rows its tables stand for; it has neither acts nor dismissals
abbrev pub firm_bare : Layout → Trees → Firm
firm_bare l db = firm_from (bare_lists l db)

-- the schema is that of a book without the trail, and each table holds rows with the kinds of its columns, in rowid
-- order
pub record BareStands (l : Layout) (db : Database) : Type 0 where
  pub schema : db.schema ≡ bare_schema l
  pub heads : HeadsHold (db.trees (matter_tree l))
  pub seats : SeatsHold (db.trees (seat_tree l))
  pub entries : EntriesHold (db.trees (entry_tree l))
  pub movements : MovementsHold (db.trees (journal_tree l))
  pub firm_lines : FirmLinesHold (db.trees (firm_line_tree l))
  pub exceptions : ExceptionsHold (db.trees (exception_tree l))
  pub balances : BalancesHold (db.trees (balance_tree l))

-- these tables stand, and stand for the rows of a sound firm
pub record BareStandsSound (l : Layout) (db : Database) : Type 0 where
  pub tables : BareStands l db
  pub rows : AreSound (bare_lists l db.trees)
