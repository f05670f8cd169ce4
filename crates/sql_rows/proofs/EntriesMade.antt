-- What the steps of a written entry make of the tables.
use Rattle.sql_rows.proofs.Names.{◌≡◌, ℕ, pos, List, Option, refl, sym, ap, subst, ◌∙◌, AllByRecursion, IsKeyedBy, Left, TotalsAfter, Numbered, entry_put, kept_as, other_written, AreNumbered, entry_columns, Lists, IsWrittenEntry, kept_from, AreMade, entry_steps, left_steps, arith, ints, nat_tests}
use Rattle.sql_tables.specs.Rows as table
use Rattle.sql_rows.proofs.Back.{entries_back}
use Rattle.sql_rows.proofs.EntryFits.{FitsKept}
use Rattle.sql_rows.proofs.EntryLeft.{left_put, own_left, placed_left_put}
use Rattle.sql_rows.proofs.EntryOrder.{entry_key, have_numbers, kept_of, kept_put, written_number}
use Rattle.sql_rows.proofs.EntryWritten.{columns_written, placed_put}
use Rattle.sql_rows.proofs.Placed.{EntriesPlaced, placed_then}

-- the entries alone are others: of the matter the entry is in its place, with what is left of the one that it names;
-- those of others stay; all are written ones, of matters with a head
pub record IsEntryPut (m : ℕ) (x : Numbered) (v : TotalsAfter) (a b : Lists) : Type 0 where
  pub same : b ≡ record a { entries = b.entries }
  pub own : kept_of (pos m) b.entries ≡ other_written (entry_put (kept_of (pos m) a.entries) (kept_as x v)) v.other
  pub placed : EntriesPlaced m a.entries b.entries

-- What the steps of an entry make.

left_made : (m : ℕ) (o : Option Left) (a b : Lists) → AreMade (left_steps m o) a b
    → b ≡ record a { entries = left_put m o a.entries }
left_made m o a b made = grind (arith, ints, nat_tests)

module _ (m : ℕ) (x : Numbered) (v : TotalsAfter) (a b : Lists) (up : IsKeyedBy entry_key a.entries)
    (written : AllByRecursion IsWrittenEntry a.entries) (fits : FitsKept (kept_of (pos m) a.entries) x v) where
  abbrev row : table.Entry
  row = entry_columns m x.number v.left x.entry

  abbrev es : List table.Entry
  es = a.entries

  abbrev once : List table.Entry
  once = table.put_entry row es

  row_written : IsWrittenEntry row
  row_written = columns_written m x.number v.left x.entry

  row_kept : kept_from row ≡ kept_as x v
  row_kept = entries_back m x.number v.left x.entry

  once_placed : EntriesPlaced m es once
  once_placed = placed_put m es written row refl row_written up

  own_once : kept_of (pos m) once ≡ entry_put (kept_of (pos m) es) (kept_as x v)
  own_once =
      let after = subst (λ k. AreNumbered 1 (entry_put (kept_of (pos m) es) k)) (sym row_kept) fits.after in
      kept_put (pos m) row es refl (written_number row row_written) up (have_numbers es written) fits.before after
      ∙ ap (entry_put (kept_of (pos m) es)) row_kept

  own_both : kept_of (pos m) (left_put m v.other once)
      ≡ other_written (entry_put (kept_of (pos m) es) (kept_as x v)) v.other
  own_both = grind (arith, ints, nat_tests, own_left, once, once_placed, own_once, other_written)

  -- they put it, with what is left of the one that it names
  pub entry_made : AreMade (entry_steps m x v) a b → IsEntryPut m x v a b
  entry_made made =
      grind (arith, ints, nat_tests, once, left_made, own_both, es, placed_then, once_placed, placed_left_put)
