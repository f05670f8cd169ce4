-- The entry of a number among the rows of its table.
use Rattle.sql_reads.proofs.Names.{◌≡◌, ℕ, ℤ, pos, List, [], ◌∷◌, map, filter, find, option_map, Some, None, slice_get, sym, ap, subst, ◌∙◌, Int, Row, Database, State, Shown, Layout, Lists, lists_in, entries_in, numbered_shown, is_entry_at, Stands, StandsSound, answers, entry_read_asks, entry_read_answer, Kept, kept_in, kept_from, part_at, kept_at}
use Rattle.sql_tables.specs.Texts.{entry_read_text}
use Rattle.sql_rows.proofs.EntryFind as entries
use Rattle.sql_rows.proofs.EntryOrder.{have_numbers}
use Rattle.sql_reads.proofs.Firsts.{none_first, some_first}
use Rattle.sql_reads.proofs.Parts.{parts_whole}

module _ (l : Layout) (was : Database) (stands : StandsSound l was) (old new : State) (same : old.now ≡ was) (m k : ℕ)
    (z n : ℤ) (own : z ≡ pos m) (at : n ≡ pos k) (rows : List Row)
    (shown : Shown entry_read_text (Int z ∷ Int n ∷ []) old new rows) where
  abbrev a : Lists
  a = lists_in l was.trees

  is : rows ≡ map numbered_shown (filter (is_entry_at (pos m) (pos k)) a.entries)
  is =
      let still = subst (Stands l) (sym same) stands.tables in
      entry_read_answer l old.now z n still rows
      (answers (entry_read_asks l) (Int z ∷ Int n ∷ []) old new still.schema rows shown)
      ∙ (λ i. map numbered_shown (filter (is_entry_at (own i) (at i)) (entries_in l (same i).trees)))

  -- the entry that a matter keeps under a number is that of the row of the number
  found : kept_in (part_at m a).kept k ≡ option_map kept_from (find (is_entry_at (pos m) (pos k)) a.entries)
  found =
      entries.kept_is_found (pos m) k a.entries (have_numbers a.entries stands.rows.meant.written.entries)
      (parts_whole m a stands.rows).numbered

  pub no_entry : slice_get rows 0 ≡ None → kept_in (part_at m a).kept k ≡ None
  no_entry none = found ∙ ap (option_map kept_from) (none_first numbered_shown (is_entry_at (pos m) (pos k)) a.entries rows is none)

  pub first_entry : (r : Row) → slice_get rows 0 ≡ Some r → (e : Kept) → e ≡ kept_at m r
      → kept_in (part_at m a).kept k ≡ Some e
  first_entry r there e shows =
      let one = some_first numbered_shown (is_entry_at (pos m) (pos k)) a.entries rows is r there in
      found ∙ ap (option_map kept_from) one.found_one ∙ ap Some (sym (shows ∙ ap (kept_at m) one.shows))
