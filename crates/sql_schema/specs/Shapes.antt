-- The parts of a schema that the shapes in the code describe.
use Rattle.std.specs.Prelude.{Bool, true, [], ◌∷◌, List, map, if◌then◌else◌}
use Rattle.sqlite_value.specs.declared.value.Value.TheVariants.{Null}
use Rattle.sqlite_value.specs.declared.keys.Collation.TheVariants.{Binary}
use Rattle.sqlite_value.specs.Keys.{plain}
use Rattle.sqlite_schema.specs.declared.schema.Column.{Column}
use Rattle.sqlite_schema.specs.declared.schema.Table.{Table}
use Rattle.sqlite_schema.specs.declared.schema.Index.{Index}
use Rattle.sqlite_schema.specs.declared.schema.Schema.{Schema}
use Rattle.sql_schema.specs.declared.shapes.ColumnShape.{ColumnShape}
use Rattle.sql_schema.specs.declared.shapes.TableShape.{TableShape}
use Rattle.sql_schema.specs.declared.shapes.IndexShape.{IndexShape}
use Rattle.sql_schema.specs.Schema.{reference_to}

abbrev pub column_of : ColumnShape → Column
column_of s = record {
  name = s.name.now;
  kind = s.kind;
  is_strict = s.is_strict;
  not_null = s.not_null;
  default = Null;
  collation = Binary;
}

-- a list of the item if the condition holds, or an empty list
abbrev pub one_if : {T : Type 0} → Bool → T → List T
one_if b x = if b then x ∷ [] else []

abbrev pub table_of : TableShape → Table
table_of s = record {
  name = s.name.now;
  tree = s.tree;
  columns = map column_of s.columns.now;
  key = s.key;
  primary = s.primary.now;
  uniques = one_if s.is_indexed s.primary.now;
  orders = one_if s.is_indexed plain;
  checks = [];
  references = one_if s.has_parent (reference_to s.parent.now);
  computed = [];
  stamps = record { places = []; terms = []; formats = [] };
  is_counted = s.is_counted;
}

-- the automatic index of a primary key of several columns
abbrev pub index_of : IndexShape → Index
index_of s = record {
  name = s.name.now;
  tree = s.tree;
  table = s.table;
  columns = s.columns.now;
  order = plain;
  is_unique = true;
}

-- the schema of tables and indexes of these shapes, and nothing else
abbrev pub schema_of : List TableShape → List IndexShape → Schema
schema_of tables indexes = record { tables = map table_of tables; indexes = map index_of indexes; views = [] }
