-- The entries of all matters after one is put in, and after those of a matter are gone.
use Rattle.sql_rows.proofs.Names.{◌≡◌, ℕ, ℤ, pos, false, List, [], map, sym, ap, subst, int_eq, AllByRecursion, IsKeyedBy, delete_where, sort_by, entry_columns, entry_cmp, is_entry, is_entry_of, put_entry, IsWrittenEntry, kept_from}
use Rattle.matter_rows.specs.declared.entry.Entry as matter
use Rattle.sql_tables.specs.Rows.{Entry}
use Rattle.sql_rows.proofs.Back.{entry_back}
use Rattle.sql_rows.proofs.EntryOrder.{entry_key, kept_of, new_row, put_last}
use Rattle.sql_rows.proofs.KeyedRows.{filter-delete_where, off_first}
use Rattle.sql_rows.proofs.Placed.{EntriesPlaced, placed_added, placed_left, placed_then}

-- the columns of an entry are what would be written
pub columns_written : (m n left : ℕ) (e : matter.Entry) → IsWrittenEntry (entry_columns m n left e)
columns_written m n left e = ap (entry_columns m n left) (sym (entry_back e))

module _ (m : ℕ) (es : List Entry) (written : AllByRecursion IsWrittenEntry es) where
  abbrev number : Entry → ℤ
  number e = e.matter

  -- one of the matter is put in
  pub placed_put : (e : Entry) → e.matter ≡ pos m → IsWrittenEntry e → IsKeyedBy entry_key es
      → EntriesPlaced m es (put_entry e es)
  placed_put e own is up =
      let rest = placed_left number entry_cmp IsWrittenEntry m es written (is_entry e)
      (λ x off. off_first _ _ (subst (λ k. int_eq x.matter k ≡ false) (sym own) off)) in
      subst (EntriesPlaced m es) (sym (put_last e es up))
      (placed_then number entry_cmp IsWrittenEntry m es (delete_where (is_entry e) es) _ rest
      (placed_added number entry_cmp IsWrittenEntry m (delete_where (is_entry e) es) rest.written (new_row e es) own is))

  -- all of the matter are taken out
  pub placed_gone : EntriesPlaced m es (delete_where (is_entry_of (pos m)) es)
  placed_gone = placed_left number entry_cmp IsWrittenEntry m es written (is_entry_of (pos m)) (λ x off. off)

-- so nothing is kept of it
pub kept_gone : (m : ℤ) (es : List Entry) → kept_of m (delete_where (is_entry_of m) es) ≡ []
kept_gone m es = ap (λ l. map kept_from (sort_by entry_cmp l)) (filter-delete_where (is_entry_of m) es)
