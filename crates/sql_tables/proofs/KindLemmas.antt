-- What a statement of each kind makes of the list that its table holds.
use Rattle.sql_tables.proofs.Names.{all_of, all_weaker, refl, flat_map, filter_map, parent_key, Work, work_by, deed_of, pairs, Holds, call_of, IsKeyedBy-delete_where, IsKeyedBy-update_where, IsKeyedBy-insert_by, ◌≡◌, ◌≢◌, ℕ, ℤ, pos, ◌<ℤ◌, ◌/◌, Bool, true, false, cond, List, [], ◌∷◌, ◌++◌, map, filter, length, drop, slice_get, None, Ok, Some, sym, ap, ap₂, subst, subst₂, ◌∙◌, arith, AllByRecursion, list_all, list_any, IsPermutation, ints, IsPermutation-map, Null, Int, Row, Trees, rowid, put_row, Term, col, eval_all, holds, IsAnswer, Output, output, overlay, Table, Program, Enforced, Ignore, Replace, Values, Insert, InsertOr, Update, Delete, Chosen, Above, Given, works, ids_of, cast_row, at_least, are_fresh, edit_of, next_rowid, numbered, put_all, with_rowid, without_all, AreConflicts, conflicts, Has, is_present, passes_checks, IsKeyedBy, insert_by, next_key, update_where, delete_where, map-map, map_same, at_end, last_table, matches_are, Database, IsDatabase, value_rows, sequence, stamped, mended, State, Executes, runs_as, Layout, book_schema, sequence_table, sequence_tree, changing, picked, Changed, Counted}
use Rattle.std.proofs.lemmas.Bool.Decides.{nat_tests}
use Rattle.sqlite_schema.specs.declared.schema.Reference.{Reference}
use Rattle.sql_tables.specs.declared.statements.SqlStatement.{SqlStatement}
use Rattle.sql_tables.proofs.Writes.{inserts, inserts_or, updates, updated, deletes, removed, replaced, inserted, ignored, Ignored}
use Rattle.sql_tables.proofs.CountedUp as up
use Rattle.sql_tables.proofs.Calls.{no_lets, IsCommand}
use Rattle.sql_tables.proofs.Kept.{conflicts_gone, none_found, some_found, row_put, rows_changed, rows_gone}
use Rattle.sql_tables.proofs.Casts.{are_fit, row_kept, next_is, below_next, goes_last, rise_last}

-- no key acts, since each reference is refused and not followed

abbrev works_if : (l : Layout) (tree : ℕ) (olds news : List Row) → Bool → List Work
works_if l tree olds news b =
    flat_map (λ (child : Table). filter_map (λ (ref : Reference). work_by 0 tree (pairs olds news) child ref (deed_of Enforced b (cond b ref.on_delete ref.on_update)) (parent_key (book_schema l).tables ref)) child.references) (book_schema l).tables

pub idle : (l : Layout) (tree : ℕ) (olds news : List Row) → works (book_schema l) Enforced 0 tree olds news ≡ []
idle l tree olds news = grind (arith, ints, nat_tests, length, works_if)

still_low : (top a b : ℤ) → a <ℤ b → a <ℤ at_least (Above top) b
still_low top a b h = grind (arith, ints, nat_tests)

-- what an UPDATE or a DELETE shows of the rows that pass
shown_rows : {X : Type 0} (to_row : X → Row) (key : X → ℤ) (keyed : (x : X) → rowid (to_row x) ≡ Int (key x)) (tree : ℕ) (tests cells : List Term) (params : Row) (p : X → Bool)
    (passes : (x : X) → list_all (holds (params ∷ to_row x ∷ [])) tests ≡ p x) (show : X → Row) (shows : (x : X) → eval_all (col 1 0 ∷ cells) (params ∷ to_row x ∷ []) ≡ show x) (db : Trees) (xs : List X)
    → db tree ≡ map to_row xs → IsKeyedBy key xs → (rows : List Row) → IsAnswer (changing tree tests cells) (overlay db []) params rows → IsPermutation (map show (filter p xs)) rows
shown_rows {X} to_row key keyed tree tests cells params p passes show shows db xs stored rise rows answer =
    let q = changing tree tests cells in
    let source = last_table (overlay db []) tree to_row key xs (no_lets db tree ∙ stored) rise (at_end (overlay db [])) in
    let found = matches_are q (overlay db []) params source p passes in
    let kept : answer.kept ≡ map (λ (x : X). output q (params ∷ to_row x ∷ [])) (filter p xs) =
    answer.distinct ∙ ap (map (output q)) (answer.grouped ∙ found) ∙ map-map (output q) _ _ in
    let shown = IsPermutation-map (λ (o : Output). o.1) _ _ answer.same in
    subst₂ IsPermutation (ap (map (λ (o : Output). o.1)) kept ∙ map-map (λ (o : Output). o.1) _ _ ∙ map_same _ show shows _) (sym answer.shown) shown

-- a statement that ran on the tables of a book
pub record Ran (l : Layout) (s : SqlStatement) (old new : State) : Type 0 where
  pub schema : old.now.schema ≡ book_schema l
  pub count : ℕ
  pub done : Executes (call_of s).text (call_of s).params old new (Ok count)

-- a table now holds these records in the order of their rowids
pub record Put {X : Type 0} (l : Layout) (tree : ℕ) (to_row : X → Row) (key : X → ℤ) (now : List X)
    (db next : Database) : Type 0 where
  pub changed : Changed l tree to_row now db next
  pub rise : IsKeyedBy key now

module _ {l : Layout} {s : SqlStatement} {old new : State} (r : Ran l s old new) (at : ℕ) {table : Table}
    (place : slice_get (book_schema l).tables at ≡ Some table) {X : Type 0} {to_row : X → Row} {of_row : Row → X}
    {key : X → ℤ} (held : Holds to_row of_row key (old.now.trees table.tree))
    (keyed : (x : X) → rowid (to_row x) ≡ Int (key x)) (no_clock : table.stamps.terms ≡ [])
    (no_formats : table.stamps.formats ≡ []) where
  abbrev pub text : List ℕ
  text = (call_of s).text

  abbrev pub params : Row
  params = (call_of s).params

  abbrev pub base : List Row
  base = old.now.trees table.tree

  abbrev pub xs : List X
  xs = map of_row base

  put : (now : List X) (trees : Trees) → IsDatabase new.now → new.now ≡ record { schema = book_schema l; trees = trees }
      → trees table.tree ≡ map to_row now → AllByRecursion (λ t. t.tree ≢ table.tree → trees t.tree ≡ old.now.trees t.tree) (book_schema l).tables
      → IsKeyedBy key now → Put l table.tree to_row key now old.now new.now
  put now trees sound is rows others rise = grind (arith, ints, nat_tests, all_weaker, sequence_tree, book_schema)

  pub deleted : (tests : List Term) → IsCommand (book_schema l) text (Delete at (record { lets = []; body = picked table.tree tests }))
      → (p : X → Bool) → ((x : X) → list_all (holds (params ∷ to_row x ∷ [])) tests ≡ p x)
      → Put l table.tree to_row key (delete_where p xs) old.now new.now
  deleted tests told p passes =
      let q : Program = record { lets = []; body = picked table.tree tests } in
      let does = runs_as text params old new (book_schema l) r.schema (Delete at q) told.is told.plain r.count r.done in
      let did = deletes old new (book_schema l) r.schema at table place params _ r.count q does in
      let gone = removed old.step_limit (book_schema l) table params no_clock no_formats old.now.trees q did.0 (λ olds. idle l table.tree olds []) did.1 in
      let are = shown_rows to_row key keyed table.tree tests [] params p passes (λ x. Int (key x) ∷ []) (λ x. ap (λ v. v ∷ []) (keyed x)) old.now.trees xs held.stored held.rise gone.0 (gone.1.answer Null) in
      put (delete_where p xs) did.0.trees does.sound did.2
      (gone.2.rows ∙ ap (λ rows. without_all rows (ids_of gone.0)) held.stored ∙ rows_gone key to_row keyed p xs held.rise gone.0 are) gone.2.tables
      (IsKeyedBy-delete_where key p xs held.rise)

  -- the rows that pass are changed
  pub set : (tests cells : List Term) → IsCommand (book_schema l) text (Update at (record { lets = []; body = changing table.tree tests cells }))
      → (p : X → Bool) → ((x : X) → list_all (holds (params ∷ to_row x ∷ [])) tests ≡ p x) → (f : X → X) → ((x : X) → key (f x) ≡ key x)
      → ((x : X) → eval_all (col 1 0 ∷ cells) (params ∷ to_row x ∷ []) ≡ Int (key x) ∷ to_row (f x)) → ((x : X) → cast_row table (to_row x) ≡ to_row x)
      → Put l table.tree to_row key (update_where p f xs) old.now new.now
  set tests cells told p passes f keeps shows again =
      let db = old.now.trees in
      let q : Program = record { lets = []; body = changing table.tree tests cells } in
      let does = runs_as text params old new (book_schema l) r.schema (Update at q) told.is told.plain r.count r.done in
      let did = updates old new (book_schema l) r.schema at table place params _ r.count q does in
      let done = updated old.step_limit (book_schema l) table params no_clock no_formats db q did.0 (λ rows answers olds. idle l table.tree olds (edit_of db table (ids_of rows) Given 1 rows).news) did.1 in
      let are = shown_rows to_row key keyed table.tree tests cells params p passes (λ x. Int (key x) ∷ to_row (f x)) shows db xs held.stored held.rise done.0 (done.1.answer Null) in
      let news = λ (base : List Row). numbered Given (without_all base (ids_of done.0)) (map (λ (s : Row). cast_row table (drop 1 s)) done.0) in
      put (update_where p f xs) did.0.trees does.sound did.2
      (done.2.rows ∙ ap (λ rows. put_all (without_all rows (ids_of done.0)) (news rows)) held.stored
      ∙ rows_changed key to_row keyed p f keeps (cast_row table) (λ x. again (f x)) xs held.rise done.0 are
      (subst (λ rows. are_fresh (without_all rows (ids_of done.0)) (news rows) ≡ true) held.stored done.2.fresh)) done.2.tables
      (IsKeyedBy-update_where key p f keeps xs held.rise)

  -- the row goes in, and those that conflict with it go
  pub replaces : (terms : List Term) (width : ℕ) → IsCommand (book_schema l) text (InsertOr at Replace (Values terms width) []) → table.is_counted ≡ false
      → (source : Row) → value_rows (stamped table params) width (length terms / width) terms ≡ source ∷ []
      → (n : X) → with_rowid Chosen base (cast_row table (mended Replace table source)) ≡ to_row n → cast_row table (to_row n) ≡ to_row n
      → (p : X → Bool) → AllByRecursion (λ x. conflicts None (book_schema l).indexes table (to_row n) (to_row x) ≡ p x) xs
      → Put l table.tree to_row key (insert_by key (delete_where p xs) n) old.now new.now
  replaces terms width told uncounted source sourced n new_row again p meets =
      let does = runs_as text params old new (book_schema l) r.schema _ told.is told.plain r.count r.done in
      let did = inserts_or old new (book_schema l) r.schema at table place params _ r.count Replace _ does in
      let rep = replaced old.step_limit (book_schema l) table params no_clock no_formats terms width source uncounted sourced old.now.trees did.0 (λ olds. idle l table.tree olds []) (λ new olds. idle l table.tree olds (new ∷ [])) did.1 in
      let are : AreConflicts None (book_schema l).indexes table (map to_row xs) (to_row n) rep.found =
      subst₂ (λ rows r. AreConflicts None (book_schema l).indexes table rows r rep.found) held.stored new_row rep.conflicts in
      let gone = conflicts_gone key to_row keyed (book_schema l).indexes table (to_row n) p xs held.rise meets rep.found are in
      put (insert_by key (delete_where p xs) n) did.0.trees does.sound did.2
      (rep.rows ∙ ap (λ r. put_row (cast_row table r) (without_all base (ids_of rep.found))) new_row
      ∙ ap₂ put_row again (ap (λ rows. without_all rows (ids_of rep.found)) held.stored ∙ gone)
      ∙ row_put key to_row keyed n (delete_where p xs)) rep.others
      (IsKeyedBy-insert_by key (delete_where p xs) n (IsKeyedBy-delete_where key p xs held.rise))

  -- the row goes in behind the others
  module _ (made : ℤ → X) (cells : Row) (made_row : (k : ℤ) → to_row (made k) ≡ Int k ∷ cells) (made_key : (k : ℤ) → key (made k) ≡ k)
      (fits : are_fit table.columns cells ≡ true) where
    abbrev pub last : X
    last = made (next_key key xs)

    kept : cast_row table (Null ∷ cells) ≡ Null ∷ cells
    kept = row_kept table Null cells refl fits

    low : AllByRecursion (λ x. key x <ℤ key last) xs
    low = all_weaker (λ x. key x <ℤ next_key key xs) (λ x. key x <ℤ key last) (λ x h. subst (λ k. key x <ℤ k) (sym (made_key (next_key key xs))) h) xs (below_next key xs held.rise)

    rise : IsKeyedBy key (xs ++ last ∷ [])
    rise = rise_last key xs last held.rise low

    pub last_row : with_rowid Chosen base (cast_row table (Null ∷ cells)) ≡ to_row last
    last_row =
        ap (with_rowid Chosen base) kept ∙ ap (λ rows. Int (next_rowid rows) ∷ cells) held.stored
        ∙ ap (λ k. Int k ∷ cells) (next_is key to_row keyed xs (pos 1)) ∙ sym (made_row (next_key key xs))

    put_last : (row : Row) → row ≡ to_row last → put_row row base ≡ map to_row (xs ++ last ∷ [])
    put_last row is = ap₂ put_row is held.stored ∙ row_put key to_row keyed last xs ∙ ap (map to_row) (goes_last key xs last low)

    module _ (terms : List Term) (width : ℕ) where
      pub adds : IsCommand (book_schema l) text (Insert at (Values terms width)) → table.is_counted ≡ false
          → value_rows (stamped table params) width (length terms / width) terms ≡ (Null ∷ cells) ∷ [] → Put l table.tree to_row key (xs ++ last ∷ []) old.now new.now
      adds told uncounted sourced =
          let does = runs_as text params old new (book_schema l) r.schema _ told.is told.plain r.count r.done in
          let did = inserts old new (book_schema l) r.schema at table place params _ r.count _ does in
          let done = inserted old.step_limit (book_schema l) table params no_clock no_formats terms width (Null ∷ cells) uncounted sourced old.now.trees did.0 (λ new olds. idle l table.tree olds (new ∷ [])) did.1 in
          put (xs ++ last ∷ []) did.0.trees does.sound did.2 (done.rows ∙ put_last _ last_row) done.others rise

      -- or nothing happens, where such a row is there
      pub adds_or_not : IsCommand (book_schema l) text (InsertOr at Ignore (Values terms width) []) → table.is_counted ≡ false
          → value_rows (stamped table params) width (length terms / width) terms ≡ (Null ∷ cells) ∷ []
          → is_present table (to_row last) ≡ true → passes_checks table (to_row last) ≡ true → cast_row table (to_row last) ≡ to_row last
          → (p : X → Bool) → AllByRecursion (λ x. conflicts None (book_schema l).indexes table (to_row last) (to_row x) ≡ p x) xs
          → Put l table.tree to_row key (cond (list_any p xs) xs (xs ++ last ∷ [])) old.now new.now
      adds_or_not told uncounted sourced present fine again p meets =
          let does = runs_as text params old new (book_schema l) r.schema _ told.is told.plain r.count r.done in
          let did = inserts_or old new (book_schema l) r.schema at table place params _ r.count Ignore _ does in
          let tried = ignored old.step_limit (book_schema l) table params no_clock no_formats terms width (Null ∷ cells) uncounted sourced old.now.trees did.0
          (ap (is_present table) last_row ∙ present) (ap (passes_checks table) last_row ∙ fine) (λ new olds. idle l table.tree olds (new ∷ [])) did.1 in
          let are : AreConflicts None (book_schema l).indexes table (map to_row xs) (to_row last) tried.0 =
          subst₂ (λ rows r. AreConflicts None (book_schema l).indexes table rows r tried.0) held.stored last_row tried.1 in
          go did.0.trees does.sound did.2 tried.0 are tried.2
        where
          go : (trees : Trees) → IsDatabase new.now → new.now ≡ record { schema = book_schema l; trees = trees } → (found : List Row) → AreConflicts None (book_schema l).indexes table (map to_row xs) (to_row last) found
              → Ignored old.step_limit (book_schema l) table params no_clock no_formats found old.now.trees trees (with_rowid Chosen base (cast_row table (Null ∷ cells)))
              → Put l table.tree to_row key (cond (list_any p xs) xs (xs ++ last ∷ [])) old.now new.now
          go trees sound is [] are done =
              let none : list_any p xs ≡ false = none_found to_row (book_schema l).indexes table (to_row last) p xs meets are in
              subst (λ b. Put l table.tree to_row key (cond b xs (xs ++ last ∷ [])) old.now new.now) (sym none)
              (put (xs ++ last ∷ []) trees sound is (done.rows ∙ put_last _ (ap (cast_row table) last_row ∙ again)) done.others rise)
          go trees sound is (x ∷ more) are same =
              let some : list_any p xs ≡ true = some_found to_row (book_schema l).indexes table (to_row last) p xs meets x more are in
              subst (λ b. Put l table.tree to_row key (cond b xs (xs ++ last ∷ [])) old.now new.now) (sym some)
              (put xs trees sound is (ap (λ (t : Trees). t table.tree) same ∙ held.stored)
              (all_of (λ t. t.tree ≢ table.tree → trees t.tree ≡ old.now.trees t.tree) (λ t _. ap (λ (f : Trees). f t.tree) same) (book_schema l).tables) held.rise)

      -- the table counts it up
      pub counts : IsCommand (book_schema l) text (Insert at (Values terms width)) → table.is_counted ≡ true → sequence (book_schema l) ≡ Some (sequence_table l)
          → value_rows (stamped table params) width (length terms / width) terms ≡ (Null ∷ cells) ∷ []
          → Has (book_schema l).tables table → table.tree ≢ sequence_tree l → Counted l table.tree to_row key xs made old.now new.now
      counts told counted listed sourced has apart =
          let does = runs_as text params old new (book_schema l) r.schema _ told.is told.plain r.count r.done in
          let did = inserts old new (book_schema l) r.schema at table place params _ r.count _ does in
          let done = up.inserted old.step_limit (book_schema l) table (sequence_table l) params counted listed (λ tree olds new. idle l tree olds (new ∷ [])) terms width (Null ∷ cells) sourced has old.now.trees did.0 did.1 in
          let seq = at_least (Above done.0) (next_key key xs) in
          let n = made seq in
          let new_row : with_rowid (Above done.0) base (cast_row table (Null ∷ cells)) ≡ to_row n =
          ap (with_rowid (Above done.0) base) kept
          ∙ ap (λ rows. Int (at_least (Above done.0) (next_rowid rows)) ∷ cells) held.stored ∙ ap (λ k. Int (at_least (Above done.0) k) ∷ cells) (next_is key to_row keyed xs (pos 1)) ∙ sym (made_row seq) in
          let below = all_weaker (λ x. key x <ℤ next_key key xs) (λ x. key x <ℤ key n) (λ x h. subst (λ k. key x <ℤ k) (sym (made_key seq)) (still_low done.0 (key x) (next_key key xs) h)) xs (below_next key xs held.rise) in
          record {
            seq = seq;
            changed = record {
              schema = ap (λ (d : Database). d.schema) did.2;
              rows = ap (λ (d : Database). d.trees table.tree) did.2 ∙ done.1.rows apart ∙ ap₂ put_row new_row held.stored ∙ row_put key to_row keyed n xs ∙ ap (map to_row) (goes_last key xs n below);
              others = all_weaker (λ t. t.tree ≢ table.tree → t.tree ≢ sequence_tree l → did.0.trees t.tree ≡ old.now.trees t.tree) (λ t. t.tree ≢ table.tree → t.tree ≢ sequence_tree l → new.now.trees t.tree ≡ old.now.trees t.tree)
                  (λ t same other away. ap (λ (d : Database). d.trees t.tree) did.2 ∙ same other away) (book_schema l).tables done.1.others;
              listed = does.sound;
            };
            rise = rise_last key xs n held.rise below;
          }
