-- The queries that an UPDATE and a DELETE run: they select the rows of a table that pass some tests.
use Rattle.std.specs.Prelude.{ℕ, false, [], ◌∷◌, List, None, pos, negsuc}
use Rattle.sqlite_value.specs.declared.value.Value.TheVariants.{Int}
use Rattle.sqlite_sql.specs.Query.{Query, inner, end}
use Rattle.sqlite_sql.specs.Term.{Term, col, lit}

-- the rowid of each selected row, with the row that replaces it
abbrev pub changing : ℕ → List Term → List Term → Query
changing tree tests cells = record {
  from = inner tree end;
  filter = tests;
  group = None;
  project = col 1 0 ∷ cells;
  distinct = false;
  collations = [];
  order = [];
  limit = lit (Int (negsuc 0));
  offset = lit (Int (pos 0));
}

-- the rowids of the selected rows alone
abbrev pub picked : ℕ → List Term → Query
picked tree tests = changing tree tests []
