-- The trees of a database fix its schema.
use Rattle.sql_book.proofs.Names.{◌≡◌, Trees, Schema, Database, IsDatabase, arith, ints, nat_tests}
use Rattle.sqlite_trees.specs.Objects.{catalog_tree}
use Rattle.sqlite_catalog.specs.Listing.{IsSound}
use Rattle.sqlite_catalog.proofs.ReadLemmas.{lists_once}

-- the list of objects, which is one of the trees, lists one schema at most
pub one_schema : (s t : Schema) (db : Trees) → IsSound s db → IsSound t db → s ≡ t
one_schema s t db one other = lists_once (db catalog_tree) s t one.lists other.lists

-- so databases of the same trees are the same
pub one_database : (a b : Database) → IsDatabase a → IsDatabase b → a.trees ≡ b.trees → a ≡ b
one_database a b one other same = grind (arith, ints, nat_tests, one_schema)
