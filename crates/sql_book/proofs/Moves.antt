-- Tables that were moved stand for the firm for which the tables of version 1 stood, and tables with an added trail for
-- the one for which the others stood.
use Rattle.sql_book.proofs.Names.{◌≡◌, List, [], ◌∷◌, map, length, refl, sym, ap, subst, arith, Row, Database, Layout, Moved, Stood, IsMoved, IsExtended, AreSound, firm_from, Stands, StandsSound, firm_in, firm_then, StoodSound, firm_bare, BareStands, BareStandsSound}
use Rattle.sql_schema.specs.Schema.{act_tree}
use Rattle.sql_making.proofs.Extended.{alike}
use Rattle.sql_tables.specs.Lists.{Lists}
use Rattle.sql_tables.specs.Rows.{act_in}
use Rattle.sql_tables.specs.Standing.{HeadsHold, SeatsHold, EntriesHold, MovementsHold, FirmLinesHold, ExceptionsHold, BalancesHold, ActsHold}

pub moved_stands : (db next : Database) → IsMoved db next → StoodSound db → StandsSound Moved next
moved_stands db next m s = let it = m.same s.tables in record { tables = it.stands; rows = subst AreSound (sym it.lists) s.rows }

pub moved_firm : (db next : Database) → IsMoved db next → Stood db → firm_in Moved next.trees ≡ firm_then db.trees
moved_firm db next m s = ap firm_from (m.same s).lists

-- the same in a layout that is told to be that of moved tables
pub moved_in : (l : Layout) (db next : Database) → l ≡ Moved → IsMoved db next → StoodSound db → StandsSound l next
moved_in l db next is m s = subst (λ k. StandsSound k next) (sym is) (moved_stands db next m s)

pub firm_moved_in : (l : Layout) (db next : Database) → l ≡ Moved → IsMoved db next → Stood db → firm_in l next.trees ≡ firm_then db.trees
firm_moved_in l db next is m s = subst (λ k. firm_in k next.trees ≡ firm_then db.trees) (sym is) (moved_firm db next m s)

-- a trail without acts
no_acts : (rows : List Row) → map act_in rows ≡ [] → ActsHold rows
no_acts [] none = record { stored = refl; rise = tt }
no_acts (r ∷ rows) none = absurd (omega (arith, ap length none))

extended_tables : (l : Layout) (db next : Database) → IsExtended l db next → BareStands l db → Stands l next
extended_tables l db next e s =
    let same = alike l db.trees next.trees e.rows in
    record {
      schema = e.book.schema;
      version = e.book.version;
      heads = subst HeadsHold (sym same.heads) s.heads;
      seats = subst SeatsHold (sym same.seats) s.seats;
      entries = subst EntriesHold (sym same.entries) s.entries;
      movements = subst MovementsHold (sym same.movements) s.movements;
      firm_lines = subst FirmLinesHold (sym same.firm_lines) s.firm_lines;
      exceptions = subst ExceptionsHold (sym same.exceptions) s.exceptions;
      balances = subst BalancesHold (sym same.balances) s.balances;
      acts = no_acts (next.trees (act_tree l)) (ap (λ (a : Lists). a.acts) e.lists);
    }

pub extended_stands : (l : Layout) (db next : Database) → IsExtended l db next → BareStandsSound l db → StandsSound l next
extended_stands l db next e s = record { tables = extended_tables l db next e s.tables; rows = subst AreSound (sym e.lists) s.rows }

pub extended_firm : (l : Layout) (db next : Database) → IsExtended l db next → firm_in l next.trees ≡ firm_bare l db.trees
extended_firm l db next e = ap firm_from e.lists
