-- The rows of all tables of a database that rows were moved in. Written by tools/moving-tables.
use Rattle.std.proofs.Common.{◌≡◌, ℕ, List}
use Rattle.sqlite_value.specs.Order.{Row}
use Rattle.sqlite_trees.specs.Tree.{Trees}
use Rattle.sqlite.specs.Effect.{Database}
use Rattle.sql_tables.proofs.Others.{with_rows, one_kept}
use Rattle.sql_making.proofs.Changes.{IsElsewhere}

pub record TableRows : Type 0 where
  pub book : List Row
  pub old_heads : List Row
  pub old_seats : List Row
  pub old_entries : List Row
  pub movements : List Row
  pub counts : List Row
  pub firm_lines : List Row
  pub exceptions : List Row
  pub balances : List Row
  pub heads : List Row
  pub seats : List Row
  pub entries : List Row
  pub acts : List Row

abbrev pub table_rows : Trees → TableRows
table_rows db = record {
  book = db 0;
  old_heads = db 1;
  old_seats = db 2;
  old_entries = db 4;
  movements = db 6;
  counts = db 7;
  firm_lines = db 8;
  exceptions = db 9;
  balances = db 11;
  heads = db 13;
  seats = db 14;
  entries = db 16;
  acts = db 18;
}

pub others_kept : (tree : ℕ) (old new : Database) → IsElsewhere tree old new
    → table_rows new.trees ≡ table_rows (with_rows old.trees tree (new.trees tree))
others_kept tree old new it =
    let at = λ (t : ℕ). one_kept t tree old.trees new.trees in
    let o = it.others in λ i. record {
      book = at 0 o.0 i;
      old_heads = at 1 o.1.0 i;
      old_seats = at 2 o.1.1.0 i;
      old_entries = at 4 o.1.1.1.0 i;
      movements = at 6 o.1.1.1.1.0 i;
      counts = at 7 o.1.1.1.1.1.0 i;
      firm_lines = at 8 o.1.1.1.1.1.1.0 i;
      exceptions = at 9 o.1.1.1.1.1.1.1.0 i;
      balances = at 11 o.1.1.1.1.1.1.1.1.0 i;
      heads = at 13 o.1.1.1.1.1.1.1.1.1.0 i;
      seats = at 14 o.1.1.1.1.1.1.1.1.1.1.0 i;
      entries = at 16 o.1.1.1.1.1.1.1.1.1.1.1.0 i;
      acts = at 18 o.1.1.1.1.1.1.1.1.1.1.1.1.0 i;
    }
