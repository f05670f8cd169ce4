-- When the tables stand for records, and what an SQL statement changes.
use Rattle.std.specs.Prelude.{◌≡◌, ◌≢◌, ℕ, ℤ, List, [], ◌∷◌, ◌++◌, map}
use Rattle.std.specs.List.{AllByRecursion}
use Rattle.sqlite_value.specs.declared.value.Value.{Value}
use Rattle.sqlite_value.specs.declared.value.Value.TheVariants.{Int}
use Rattle.sqlite_value.specs.Order.{Row, column}
use Rattle.sqlite_trees.specs.Tree.{Trees}
use Rattle.sqlite_keyed.specs.Keyed.{IsKeyedBy}
use Rattle.sqlite.specs.Effect.{Database, IsDatabase}
use Rattle.sql_schema.specs.declared.layout.Layout.{Layout}
use Rattle.sql_schema.specs.Schema.{book_schema, version_now, book_tree, matter_tree, seat_tree, entry_tree, journal_tree, sequence_tree, firm_line_tree, exception_tree, balance_tree, act_tree}
use Rattle.sql_tables.specs.Rows.{Head, head_row, head_in, Seat, seat_row, seat_in, Entry, entry_row, entry_in, Movement, movement_row, movement_in, FirmLine, firm_line_row, firm_line_in, Exception, exception_row, exception_in, Balance, balance_row, balance_in, Act, act_row, act_in}

-- the rows are exactly those of some records, in rowid order
pub record Holds {X : Type 0} (to_row : X → Row) (of_row : Row → X) (key : X → ℤ) (rows : List Row) : Type 0 where
  pub stored : rows ≡ map to_row (map of_row rows)
  pub rise : IsKeyedBy key (map of_row rows)

abbrev pub HeadsHold : List Row → Type 0
HeadsHold = Holds head_row head_in (λ (x : Head). x.no)

abbrev pub SeatsHold : List Row → Type 0
SeatsHold = Holds seat_row seat_in (λ (x : Seat). x.id)

abbrev pub EntriesHold : List Row → Type 0
EntriesHold = Holds entry_row entry_in (λ (x : Entry). x.id)

abbrev pub MovementsHold : List Row → Type 0
MovementsHold = Holds movement_row movement_in (λ (x : Movement). x.seq)

abbrev pub FirmLinesHold : List Row → Type 0
FirmLinesHold = Holds firm_line_row firm_line_in (λ (x : FirmLine). x.seq)

abbrev pub ExceptionsHold : List Row → Type 0
ExceptionsHold = Holds exception_row exception_in (λ (x : Exception). x.id)

abbrev pub BalancesHold : List Row → Type 0
BalancesHold = Holds balance_row balance_in (λ (x : Balance). x.id)

abbrev pub ActsHold : List Row → Type 0
ActsHold = Holds act_row act_in (λ (x : Act). x.seq)

-- the version in each row of the table `book`
abbrev pub versions_in : Layout → Trees → List Value
versions_in l db = map (λ (r : Row). column r 1) (db (book_tree l))

-- the schema is a book's in this layout, the table `book` has one row, with this version, and each other table holds
-- rows with the kinds of its columns, in rowid order
pub record Stands (l : Layout) (db : Database) : Type 0 where
  pub schema : db.schema ≡ book_schema l
  pub version : versions_in l db.trees ≡ Int version_now ∷ []
  pub heads : HeadsHold (db.trees (matter_tree l))
  pub seats : SeatsHold (db.trees (seat_tree l))
  pub entries : EntriesHold (db.trees (entry_tree l))
  pub movements : MovementsHold (db.trees (journal_tree l))
  pub firm_lines : FirmLinesHold (db.trees (firm_line_tree l))
  pub exceptions : ExceptionsHold (db.trees (exception_tree l))
  pub balances : BalancesHold (db.trees (balance_tree l))
  pub acts : ActsHold (db.trees (act_tree l))

-- every other table is unchanged, except the database's own table of counts
abbrev pub KeepsOthers : Layout → ℕ → Database → Database → Type 0
KeepsOthers l tree db next =
    AllByRecursion (λ t. t.tree ≢ tree → t.tree ≢ sequence_tree l → next.trees t.tree ≡ db.trees t.tree)
    (book_schema l).tables

-- one table now holds these records, nothing else changed, and the database lists what it holds
pub record Changed {X : Type 0} (l : Layout) (tree : ℕ) (to_row : X → Row) (now : List X)
    (db next : Database) : Type 0 where
  pub schema : next.schema ≡ book_schema l
  pub rows : next.trees tree ≡ map to_row now
  pub others : KeepsOthers l tree db next
  pub listed : IsDatabase next

-- one table holds one more record, under a rowid above all others, and nothing else changed
pub record Counted {X : Type 0} (l : Layout) (tree : ℕ) (to_row : X → Row) (key : X → ℤ) (was : List X)
    (new : ℤ → X) (db next : Database) : Type 0 where
  pub seq : ℤ
  pub changed : Changed l tree to_row (was ++ new seq ∷ []) db next
  pub rise : IsKeyedBy key (was ++ new seq ∷ [])
