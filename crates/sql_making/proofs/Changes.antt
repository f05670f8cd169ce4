-- What a statement of the batch that copies, empties or sets makes of one table. The schema is that of this version
-- then.
use Rattle.sql_making.proofs.Names.{◌≡◌, ◌≢◌, ℕ, ℤ, ◌<ℤ◌, true, false, not, List, [], ◌∷◌, ◌++◌, map, filter, slice_get, Option, Some, Ok, refl, sym, ap, ap₂, subst, subst₂, ◌∙◌, append-nil, AllByRecursion, IsPermutation-map, Null, Int, Row, Trees, rowid, put_row, Query, IsAnswer, Output, output, overlay, Table, Enforced, Program, Insert, Delete, Chosen, ids_of, cast_row, edit_of, taken_by, with_rowid, numbered, without_all, put_all, IsKeyedBy, map-map, map_same, at_end, last_table, matches_are, Database, Written, Edited, stamped, count_of, rowids_for, Counts, Task, State, ExecutesIn, one_step, Moved, book_schema, no_lets, goes_last, row_put, rows_gone, idle, went, same_value, inserts, deletes, removed}
use Rattle.std.specs.List.Sorted.{IsPermutation}
use Rattle.std.proofs.lemmas.List.{append_assoc}
use Rattle.sqlite_schema.specs.declared.command.Source.TheVariants as source
use Rattle.sql_tables.specs.Picking.{picked}
use Rattle.sql_tables.proofs.Calls.{IsCommand}
use Rattle.sql_making.proofs.Creates.{runs_in_batch}

-- the schema stays, and so do the rows of every other table
pub record IsElsewhere (tree : ℕ) (old new : Database) : Type 0 where
  pub schema : new.schema ≡ book_schema Moved
  pub others : AllByRecursion (λ t. t.tree ≢ tree → new.trees t.tree ≡ old.trees t.tree) (book_schema Moved).tables

pub elsewhere : (tree : ℕ) (old new : Database) (trees : Trees) → new ≡ record { schema = book_schema Moved; trees = trees }
    → AllByRecursion (λ t. t.tree ≢ tree → trees t.tree ≡ old.trees t.tree) (book_schema Moved).tables → IsElsewhere tree old new
elsewhere tree old new trees is others = subst (IsElsewhere tree old) (sym is) (record { schema = refl; others = others })

-- an empty table has these records after the statement, where another holds them
abbrev pub Fills : {X : Type 0} → (X → ℤ) → (X → Row) → (X → Row) → ℕ → ℕ → Trees → Trees → Type 0
Fills {X} key from_row to_row from tree db next = (xs : List X) → db from ≡ map from_row xs → IsKeyedBy key xs → db tree ≡ [] → next tree ≡ map to_row xs

-- a table has no row after the statement, where it held records in order
abbrev pub Clears : {X : Type 0} → (X → ℤ) → (X → Row) → ℕ → Trees → Trees → Type 0
Clears {X} key to_row tree db next = (xs : List X) → db tree ≡ map to_row xs → IsKeyedBy key xs → next tree ≡ []

-- ---- lists in order

at_middle : {X : Type 0} (P : X → Type 0) (acc : List X) (x : X) (xs : List X) → AllByRecursion P (acc ++ x ∷ xs) → P x
at_middle P [] x xs h = h.0
at_middle P (a ∷ acc) x xs h = at_middle P acc x xs h.1

module _ {X : Type 0} (key : X → ℤ) where
  below : (acc : List X) (x : X) (xs : List X) → IsKeyedBy key (acc ++ x ∷ xs) → AllByRecursion (λ y. key y <ℤ key x) acc
  below [] x xs h = tt
  below (a ∷ acc) x xs h = (at_middle (λ y. key a <ℤ key y) acc x xs h.0, below acc x xs h.1)

  module _ (to_row : X → Row) (keyed : (x : X) → rowid (to_row x) ≡ Int (key x)) where
    -- rows in order go in behind those that are there
    all_put : (acc xs : List X) → IsKeyedBy key (acc ++ xs) → put_all (map to_row acc) (map to_row xs) ≡ map to_row (acc ++ xs)
    all_put acc [] h = ap (map to_row) (sym (append-nil acc))
    all_put acc (x ∷ xs) h =
        let joined = append_assoc acc (x ∷ []) xs in
        ap (λ l. put_all l (map to_row xs)) (row_put key to_row keyed x acc ∙ ap (map to_row) (goes_last key acc x (below acc x xs h)))
        ∙ all_put (acc ++ x ∷ []) xs (subst (IsKeyedBy key) (sym joined) h) ∙ ap (map to_row) joined

    own_id : (base : List Row) (x : X) → with_rowid Chosen base (to_row x) ≡ to_row x
    own_id base x = rw (keyed x) refl

    all_numbered : (xs : List X) (base : List Row) → numbered Chosen base (map to_row xs) ≡ map to_row xs
    all_numbered [] base = refl
    all_numbered (x ∷ xs) base = ap₂ ◌∷◌ (own_id base x) (all_numbered xs (put_row (with_rowid Chosen base (to_row x)) base))

-- ---- INSERT .. SELECT

-- a table that is not counted has no count to follow
uncounts : (it : Task) (db next : Trees) (counter : Option Row) (top : ℤ) → it.table.is_counted ≡ false → Counts it db counter top (Ok next) → next ≡ db
uncounts it db next counter top uncounted h = same_value (rw uncounted at h)

module _ (at : ℕ) (table : Table) (place : slice_get (book_schema Moved).tables at ≡ Some table) (no_clock : stamped table [] ≡ []) (uncounted : table.is_counted ≡ false)
    (q : Query) (part : List ℕ) (told : IsCommand (book_schema Moved) part (Insert at (source.Query (record { lets = []; body = q }))))
    (old new : State) (count : ℕ) (has : old.now.schema ≡ book_schema Moved) (h : ExecutesIn true part [] old new (Ok count)) where
  abbrev base : List Row
  base = old.now.trees table.tree

  chosen : (top : ℤ) → rowids_for table top ≡ Chosen
  chosen top = rw uncounted

  copies : IsElsewhere table.tree old.now new.now
      × ((rows : List Row) × IsAnswer q (overlay old.now.trees []) [] rows
      × (new.now.trees table.tree ≡ put_all base (numbered Chosen base (map (cast_row table) rows))))
  copies =
      let w = runs_in_batch part old new (book_schema Moved) has (Insert at (source.Query (record { lets = []; body = q }))) told.is told.plain count h in
      let did = inserts old new (book_schema Moved) has at table place [] _ count _ w in
      let db = old.now.trees in
      let given = went did.1 in
      let counter = went given.2 in
      let mid = went counter.2 in
      let last = went mid.2 in
      let put : Edited (book_schema Moved) Enforced db (edit_of db table [] Chosen 0 given.0) (Ok mid.0) = subst (λ r. Edited (book_schema Moved) Enforced db (edit_of db table [] r 0 given.0) (Ok mid.0)) (chosen (count_of counter.0)) mid.1 in
      let edit = edit_of db table [] Chosen 0 given.0 in
      let applied = one_step (book_schema Moved) Enforced db mid.0 edit (idle Moved table.tree (taken_by db edit) edit.news) put in
      let kept : last.0 ≡ mid.0 = uncounts (record { limit = old.step_limit; keys = Enforced; schema = book_schema Moved; table = table; params = [] }) mid.0 last.0 counter.0 _ uncounted last.1 in
      let trees : did.0.trees ≡ mid.0 = ap (λ (x : Written). x.trees) (same_value last.2) ∙ kept in
      let now : new.now ≡ record { schema = book_schema Moved; trees = mid.0 } = did.2 ∙ ap (λ (t : Trees). record { schema = book_schema Moved; trees = t }) trees in (
        elsewhere table.tree old.now new.now mid.0 now applied.tables,
        (given.0, subst (λ p. IsAnswer q (overlay db []) p given.0) no_clock (given.1.answer Null), ap (λ (d : Database). d.trees table.tree) now ∙ applied.rows),
      )

  -- rows in order, as the query shows them, go into an empty table as they are
  pub fills : {X : Type 0} (key : X → ℤ) (from_row to_row : X → Row) (from : ℕ) → ((x : X) → rowid (to_row x) ≡ Int (key x))
      → ((x : X) → cast_row table (to_row x) ≡ to_row x)
      → ((xs : List X) → old.now.trees from ≡ map from_row xs → IsKeyedBy key xs → (rows : List Row)
      → IsAnswer q (overlay old.now.trees []) [] rows → rows ≡ map to_row xs)
      → IsElsewhere table.tree old.now new.now × Fills key from_row to_row from table.tree old.now.trees new.now.trees
  fills key from_row to_row from keyed kept shown = (
    copies.0,
    λ xs stored rise empty.
        let it = copies.1 in
        it.2 ∙ ap (λ l. put_all base (numbered Chosen base (map (cast_row table) l))) (shown xs stored rise it.0 it.1)
        ∙ ap (λ l. put_all base (numbered Chosen base l)) (map-map (cast_row table) to_row xs ∙ map_same _ to_row kept xs)
        ∙ ap (put_all base) (all_numbered key to_row keyed xs base)
        ∙ ap (λ l. put_all l (map to_row xs)) empty ∙ all_put key to_row keyed [] xs rise,
  )

-- ---- DELETE of every row

none_left : {X : Type 0} (xs : List X) → filter (λ _. not true) xs ≡ []
none_left [] = refl
none_left (x ∷ xs) = none_left xs

module _ (at : ℕ) (table : Table) (place : slice_get (book_schema Moved).tables at ≡ Some table) (no_terms : table.stamps.terms ≡ []) (no_formats : table.stamps.formats ≡ []) (part : List ℕ)
    (told : IsCommand (book_schema Moved) part (Delete at (record { lets = []; body = picked table.tree [] }))) (old new : State) (count : ℕ) (has : old.now.schema ≡ book_schema Moved) (h : ExecutesIn true part [] old new (Ok count)) where
  empties : IsElsewhere table.tree old.now new.now
      × ((rows : List Row) × IsAnswer (picked table.tree []) (overlay old.now.trees []) [] rows
      × (new.now.trees table.tree ≡ without_all (old.now.trees table.tree) (ids_of rows)))
  empties =
      let q : Program = record { lets = []; body = picked table.tree [] } in
      let w = runs_in_batch part old new (book_schema Moved) has (Delete at q) told.is told.plain count h in
      let did = deletes old new (book_schema Moved) has at table place [] _ count q w in
      let gone = removed old.step_limit (book_schema Moved) table [] no_terms no_formats old.now.trees q did.0 (λ olds. idle Moved table.tree olds []) did.1 in (
        elsewhere table.tree old.now new.now did.0.trees did.2 gone.2.tables,
        (gone.0, gone.1.answer Null, ap (λ (d : Database). d.trees table.tree) did.2 ∙ gone.2.rows),
      )

  module _ {X : Type 0} (key : X → ℤ) (to_row : X → Row) (keyed : (x : X) → rowid (to_row x) ≡ Int (key x)) (xs : List X) (rise : IsKeyedBy key xs) (stored : old.now.trees table.tree ≡ map to_row xs) where
    shown : (rows : List Row) → IsAnswer (picked table.tree []) (overlay old.now.trees []) [] rows → IsPermutation (map (λ x. Int (key x) ∷ []) (filter (λ _. true) xs)) rows
    shown rows answer =
        let q = picked table.tree [] in
        let db = old.now.trees in
        let from = last_table (overlay db []) table.tree to_row key xs (no_lets db table.tree ∙ stored) rise (at_end (overlay db [])) in
        let found = matches_are q (overlay db []) [] from (λ _. true) (λ x. refl) in
        let kept : answer.kept ≡ map (λ (x : X). output q ([] ∷ to_row x ∷ [])) (filter (λ _. true) xs) = answer.distinct ∙ ap (map (output q)) (answer.grouped ∙ found) ∙ map-map (output q) _ _ in
        let same = IsPermutation-map (λ (o : Output). o.1) _ _ answer.same in
        subst₂ IsPermutation (ap (map (λ (o : Output). o.1)) kept ∙ map-map (λ (o : Output). o.1) _ _ ∙ map_same _ (λ x. Int (key x) ∷ []) (λ x. ap (λ v. v ∷ []) (keyed x)) _) (sym answer.shown) same

  pub clears : {X : Type 0} (key : X → ℤ) (to_row : X → Row) → ((x : X) → rowid (to_row x) ≡ Int (key x))
      → IsElsewhere table.tree old.now new.now × Clears key to_row table.tree old.now.trees new.now.trees
  clears key to_row keyed = (
    empties.0,
    λ xs stored rise.
        let it = empties.1 in
        it.2 ∙ ap (λ rows. without_all rows (ids_of it.0)) stored
        ∙ rows_gone key to_row keyed (λ _. true) xs rise it.0 (shown key to_row keyed xs rise stored it.0 it.1)
        ∙ ap (map to_row) (none_left xs),
  )
