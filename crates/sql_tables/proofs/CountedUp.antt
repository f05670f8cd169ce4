-- INSERT of one row into a table with AUTOINCREMENT.
use Rattle.sql_tables.proofs.Names.{◌≡◌, ◌≢◌, ℕ, ℤ, ◌/◌, Bool, true, false, cond, List, [], ◌∷◌, length, Option, Some, None, Ok, refl, sym, subst, subst₂, ◌∙◌, is_lt, MatchBool, AllByRecursion, Row, Trees, put_row, Term, Schema, Table, Enforced, Values, Above, cast_row, works, Edit, edit_of, with_rowid, taken_by, Applies, value_rows, Written, Task, Inserts, Edited, Gives, Counts, CountsIn, count_of, rowids_for, sequence, stamped, one_step, Has, all_has, arith, ints, nat_tests}
use Rattle.std.proofs.Common.{int_cmp}
use Rattle.sql_tables.proofs.Writes.{went, same_value}

module _ (limit : Option ℕ) (schema : Schema) (table counters : Table) (params : Row) (counted : table.is_counted ≡ true) (listed : sequence schema ≡ Some counters)
    (quiet : (tree : ℕ) (olds : List Row) (new : Row) → works schema Enforced 0 tree olds (new ∷ []) ≡ []) where
  abbrev it : Task
  it = record { limit = limit; keys = Enforced; schema = schema; table = table; params = params }

  edits : (db next : Trees) (t : Table) (gone : List ℤ) (new : Row) → Edited schema Enforced db (record { table = t; gone = gone; news = new ∷ [] }) (Ok next)
      → Applies schema Enforced db (record { table = t; gone = gone; news = new ∷ [] }) next
  edits db next t gone new h = let e : Edit = record { table = t; gone = gone; news = new ∷ [] } in one_step schema Enforced db next e (quiet t.tree (taken_by db e) new) h

  abbrev pub Elsewhere : Trees → Trees → Type 0
  Elsewhere db next = AllByRecursion (λ t. t.tree ≢ counters.tree → next t.tree ≡ db t.tree) schema.tables

  here : (db : Trees) (ts : List Table) → AllByRecursion (λ t. t.tree ≢ counters.tree → db t.tree ≡ db t.tree) ts
  here db [] = tt
  here db (t ∷ ts) = (λ _. refl, here db ts)

  -- the count changes sqlite_sequence alone
  counts_in : (db next : Trees) (counter : Option Row) (top : ℤ) → CountsIn it db counter top (Some counters) (Ok next) → Elsewhere db next
  counts_in db next None top h = (edits db next counters _ _ h).tables
  counts_in db next (Some counter) top h = (edits db next counters _ _ h).tables

  counts : (db next : Trees) (counter : Option Row) (top : ℤ) → Counts it db counter top (Ok next) → Elsewhere db next
  counts db next counter top h = at (cond table.is_counted (is_lt (int_cmp (count_of counter) top)) false) h
    where
      at : (b : Bool) → MatchBool b (CountsIn it db counter top (sequence schema) (Ok next)) (Gives db (Ok next)) → Elsewhere db next
      at true k = counts_in db next counter top (subst (λ o. CountsIn it db counter top o (Ok next)) listed k)
      at false k = subst (Elsewhere db) (sym (same_value k)) (here db schema.tables)

  -- the tables after the row went in under this rowid
  pub record Inserted (db next : Trees) (new : Row) : Type 0 where
    pub rows : table.tree ≢ counters.tree → next table.tree ≡ put_row new (db table.tree)
    pub others : AllByRecursion (λ t. t.tree ≢ table.tree → t.tree ≢ counters.tree → next t.tree ≡ db t.tree) schema.tables

  joined : (db mid next : Trees) (ts : List Table) → AllByRecursion (λ t. t.tree ≢ counters.tree → next t.tree ≡ mid t.tree) ts → AllByRecursion (λ t. t.tree ≢ table.tree → mid t.tree ≡ db t.tree) ts
      → AllByRecursion (λ t. t.tree ≢ table.tree → t.tree ≢ counters.tree → next t.tree ≡ db t.tree) ts
  joined db mid next [] p q = tt
  joined db mid next (t ∷ ts) p q = (λ other apart. p.0 apart ∙ q.0 other, joined db mid next ts p.1 q.1)

  above : (top : ℤ) → rowids_for table top ≡ Above top
  above top = rw counted

  pub inserted : (terms : List Term) (width : ℕ) (source : Row) → value_rows (stamped table params) width (length terms / width) terms ≡ source ∷ [] → Has schema.tables table
      → (db : Trees) (w : Written) → Inserts it (Values terms width) db (Ok w) → (top : ℤ) × Inserted db w.trees (with_rowid (Above top) (db table.tree) (cast_row table source))
  inserted terms width source one is db w h =
      let given = went h in
      let counter = went given.2 in
      let mid = went counter.2 in
      let last = went mid.2 in
      let top = count_of counter.0 in
      let rows : given.0 ≡ source ∷ [] = given.1.1 ∙ one in
      let put : Edited schema Enforced db (edit_of db table [] (Above top) 0 (source ∷ [])) (Ok mid.0) =
      subst₂ (λ r l. Edited schema Enforced db (edit_of db table [] r 0 l) (Ok mid.0)) (above top) rows mid.1 in
      let went_in = edits db mid.0 table [] (with_rowid (Above top) (db table.tree) (cast_row table source)) put in
      let after = counts mid.0 last.0 counter.0 _ last.1 in
      grind (arith, ints, nat_tests, same_value, with_rowid, cast_row, all_has, joined)
