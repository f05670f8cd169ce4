-- What a statement that writes makes of the trees, over any schema.
use Rattle.sql_tables.proofs.Names.{◌≡◌, ◌≢◌, ◌⊎◌, inl, inr, ℕ, ℤ, ◌/◌, true, false, List, [], ◌∷◌, length, slice_get, Option, Some, None, Result, Ok, Err, refl, sym, ap, subst, subst₂, ◌∙◌, AllByRecursion, Row, Trees, rowid, put_row, Term, Schema, Table, Enforced, Program, Command, Insert, InsertOr, Update, Delete, Ignore, Replace, is_present, IsJudged, passes_checks, Values, Chosen, Given, cast_row, ids_of, works, AreConflicts, edit_of, without_all, with_rowid, taken_by, is_chosen, Applies, Answers, value_rows, Written, Task, stamped, mended, Inserts, InsertsOr, Deletes, Updates, Tries, TriesEach, Judged, Clears, Puts, Edited, count_of, nothing, Counts, rowids_for, State, mode_of, Writes, one_step, arith, ints, nat_tests}
use Rattle.sqlite_schema.specs.declared.command.Conflict.{Conflict}
use Rattle.sqlite_rules.specs.declared.error.Refusal.{Refusal}
use Rattle.sqlite_schema.specs.declared.command.Source.{Source}
use Rattle.sqlite.specs.Does.{Tally, OnRows, AtPlace}

pub went : {B E R : Type 0} {b : B} {Stops : E → Type 0} → ((stop : E) × Stops stop × (Ok b ≡ Err stop)) ⊎ R → R
went stop = grind (arith, ints, nat_tests)

pub same_value : {B E : Type 0} {a b : B} → ◌≡◌ {A = Result B E} (Ok a) (Ok b) → a ≡ b
same_value e = cc

module _ (old new : State) (schema : Schema) (has : old.now.schema ≡ schema) (at : ℕ) (table : Table) (place : slice_get schema.tables at ≡ Some table) (params : Row) (text : List ℕ) (count : ℕ) where
  abbrev pub task : Task
  task = record { limit = old.step_limit; keys = Enforced; schema = schema; table = table; params = params }

  -- the statement wrote these rows, and the schema is as it was
  abbrev pub HasWritten : Command → Type 0
  HasWritten command = (w : Written) × Rattle.sqlite.specs.Does.WritesRows task old.now.trees command (Ok w) × (new.now ≡ record { schema = schema; trees = w.trees })

  on_rows : (command : Command) (tally : Tally) → OnRows task (mode_of old) None command old.now.trees (Ok (tally, new.now)) → HasWritten command
  on_rows command tally h = grind (arith, ints, nat_tests, went, same_value)

  at_place : (command : Command) (tally : Tally)
      → AtPlace (λ t. OnRows (record { limit = old.step_limit; keys = Enforced; schema = schema; table = t; params = params }) (mode_of old) None command old.now.trees) (slice_get schema.tables at) (Ok (tally, new.now))
      → HasWritten command
  at_place command tally h = grind (arith, ints, nat_tests, on_rows, mode_of)

  pub inserts : (from : Source) → Writes old new None (Insert at from) text params count → HasWritten (Insert at from)
  inserts from w = at_place (Insert at from) w.tally (subst (λ s. Rattle.sqlite.specs.Does.Does old.step_limit (mode_of old) params (record old.now { schema = s }) text None (Insert at from) (Ok (w.tally, new.now))) has w.changed)

  pub inserts_or : (way : Conflict) (from : Source) → Writes old new None (InsertOr at way from []) text params count → HasWritten (InsertOr at way from [])
  inserts_or way from w = at_place (InsertOr at way from []) w.tally (subst (λ s. Rattle.sqlite.specs.Does.Does old.step_limit (mode_of old) params (record old.now { schema = s }) text None (InsertOr at way from []) (Ok (w.tally, new.now))) has w.changed)

  pub deletes : (q : Program) → Writes old new None (Delete at q) text params count → HasWritten (Delete at q)
  deletes q w = at_place (Delete at q) w.tally (subst (λ s. Rattle.sqlite.specs.Does.Does old.step_limit (mode_of old) params (record old.now { schema = s }) text None (Delete at q) (Ok (w.tally, new.now))) has w.changed)

  pub updates : (q : Program) → Writes old new None (Update at q) text params count → HasWritten (Update at q)
  updates q w = at_place (Update at q) w.tally (subst (λ s. Rattle.sqlite.specs.Does.Does old.step_limit (mode_of old) params (record old.now { schema = s }) text None (Update at q) (Ok (w.tally, new.now))) has w.changed)

module _ (limit : Option ℕ) (schema : Schema) (table : Table) (params : Row) (no_clock : table.stamps.terms ≡ []) (no_formats : table.stamps.formats ≡ []) where
  abbrev it : Task
  it = record { limit = limit; keys = Enforced; schema = schema; table = table; params = params }

  abbrev pub IsIdle : List Row → Type 0
  IsIdle news = (olds : List Row) → works schema Enforced 0 table.tree olds news ≡ []

  edits : (db next : Trees) (gone : List ℤ) (news : List Row) → IsIdle news → Edited schema Enforced db (record { table = table; gone = gone; news = news }) (Ok next)
      → Applies schema Enforced db (record { table = table; gone = gone; news = news }) next
  edits db next gone news idle h = one_step schema Enforced db next (record { table = table; gone = gone; news = news }) (idle (taken_by db (record { table = table; gone = gone; news = news }))) h

  pub removed : (db : Trees) (q : Program) (w : Written) → IsIdle [] → Deletes it q db (Ok w)
      → (rows : List Row) × Answers (record { schema = schema; trees = db }) q params rows × Applies schema Enforced db (edit_of db table (ids_of rows) Given 0 []) w.trees
  removed db q w idle h =
      let found = went h in
      let next = went found.2 in
      (found.0, found.1, subst (Applies schema Enforced db (edit_of db table (ids_of found.0) Given 0 [])) (ap (λ (x : Written). x.trees) (sym (same_value next.2))) (edits db next.0 (ids_of found.0) [] idle next.1))

  -- UPDATE takes out the rows of its query, and puts in what it shows behind their rowids
  pub updated : (db : Trees) (q : Program) (w : Written) → ((rows : List Row) → Answers (record { schema = schema; trees = db }) q params rows → IsIdle (edit_of db table (ids_of rows) Given 1 rows).news) → Updates it q params db (Ok w)
      → (rows : List Row) × Answers (record { schema = schema; trees = db }) q params rows × Applies schema Enforced db (edit_of db table (ids_of rows) Given 1 rows) w.trees
  updated db q w idle h =
      let found = went h in
      let next = went found.2 in
      let edit = edit_of db table (ids_of found.0) Given 1 found.0 in
      (found.0, found.1, subst (Applies schema Enforced db edit) (ap (λ (x : Written). x.trees) (sym (same_value next.2))) (edits db next.0 edit.gone edit.news (idle found.0 found.1) next.1))

  -- a row is put where its rowid is free
  puts : (new : Row) (db : Trees) (w : Written) → IsIdle (cast_row table new ∷ []) → is_chosen Given (rowid (cast_row table new)) ≡ false → Puts it new db (Ok w)
      → Applies schema Enforced db (record { table = table; gone = []; news = cast_row table new ∷ [] }) w.trees
  puts new db w idle given h =
      let next = went h in
      subst (Applies schema Enforced db (record { table = table; gone = []; news = cast_row table new ∷ [] })) (ap (λ (x : Written). x.trees) (sym (same_value next.2)))
      (edits db next.0 [] (cast_row table new ∷ []) idle next.1)

  -- the rows of a table after INSERT OR REPLACE of one row
  pub record Replaces (db next : Trees) (new : Row) : Type 0 where
    pub found : List Row
    pub conflicts : AreConflicts None schema.indexes table (db table.tree) new found
    pub rows : next table.tree ≡ put_row (cast_row table new) (without_all (db table.tree) (ids_of found))
    pub others : AllByRecursion (λ t. t.tree ≢ table.tree → next t.tree ≡ db t.tree) schema.tables

  joined : (db mid next : Trees) (ts : List Table) → AllByRecursion (λ t. t.tree ≢ table.tree → next t.tree ≡ mid t.tree) ts → AllByRecursion (λ t. t.tree ≢ table.tree → mid t.tree ≡ db t.tree) ts
      → AllByRecursion (λ t. t.tree ≢ table.tree → next t.tree ≡ db t.tree) ts
  joined db mid next [] p q = tt
  joined db mid next (t ∷ ts) p q = (λ other. p.0 other ∙ q.0 other, joined db mid next ts p.1 q.1)

  clears : (new : Row) (db : Trees) (w : Written) (found : List Row) → AreConflicts None schema.indexes table (db table.tree) new found
      → IsIdle [] → IsIdle (cast_row table new ∷ []) → Clears it Replace new db found (Ok w) → Replaces db w.trees new
  clears new db w [] are none some h =
      let put = puts new db w some refl h in
      record { found = []; conflicts = are; rows = put.rows; others = put.tables }
  clears new db w (x ∷ more) are none some h =
      let mid = went h in
      let gone = edits db mid.0 (ids_of (x ∷ more)) [] none mid.1 in
      let put = puts new mid.0 w some refl mid.2 in
      record { found = x ∷ more; conflicts = are; rows = put.rows ∙ ap (put_row (cast_row table new)) gone.rows; others = joined db mid.0 w.trees schema.tables put.tables gone.tables }

  tries : (new : Row) (db : Trees) (w : Written) → IsIdle [] → IsIdle (cast_row table new ∷ []) → Tries it Replace [] new db (Ok w) → Replaces db w.trees new
  tries new db w none some (inl big) = absurd (let e = big.1 in cc)
  tries new db w none some (inr (None, fine, found)) = clears new db w found.0 found.1 none some found.2
  tries new db w none some (inr (Some why, bad, refused)) = absurd (let e = refused in cc)

  uncounts : (db next : Trees) (counter : Option Row) (top : ℤ) → table.is_counted ≡ false → Counts it db counter top (Ok next) → next ≡ db
  uncounts db next counter top plain h = same_value (rw plain at h)

  chosen : (top : ℤ) → table.is_counted ≡ false → rowids_for table top ≡ Chosen
  chosen top plain = rw plain

  pub replaced : (terms : List Term) (width : ℕ) (source : Row) → table.is_counted ≡ false → value_rows (stamped table params) width (length terms / width) terms ≡ source ∷ []
      → (db : Trees) (w : Written) → IsIdle [] → ((new : Row) → IsIdle (new ∷ [])) → InsertsOr it Replace [] (Values terms width) db (Ok w)
      → Replaces db w.trees (with_rowid Chosen (db table.tree) (cast_row table (mended Replace table source)))
  replaced terms width source uncounted one db w none some h =
      let given = went h in
      let counted = went given.2 in
      let tried = went counted.2 in
      let last = went tried.2 in
      let rows : given.0 ≡ source ∷ [] = given.1.1 ∙ one in
      let each : TriesEach it Replace [] (source ∷ []) (count_of counted.0) (nothing db) (Ok tried.0) = subst (λ l. TriesEach it Replace [] l (count_of counted.0) (nothing db) (Ok tried.0)) rows tried.1 in
      let first = went each in
      let same : tried.0.0.trees ≡ first.0.trees = ap (λ (p : Written × ℤ). p.0.trees) (same_value first.2) in
      let kept : last.0 ≡ tried.0.0.trees = uncounts _ _ counted.0 tried.0.1 uncounted last.1 in
      let trees : w.trees ≡ first.0.trees = ap (λ (x : Written). x.trees) (same_value last.2) ∙ kept ∙ same in
      let new = with_rowid Chosen (db table.tree) (cast_row table (mended Replace table source)) in
      let did : Tries it Replace [] new db (Ok first.0) = subst (λ r. Tries it Replace [] (with_rowid r (db table.tree) (cast_row table (mended Replace table source))) db (Ok first.0)) (chosen (count_of counted.0) uncounted) first.1 in
      subst (λ t. Replaces db t new) (sym trees) (tries new db first.0 none (some (cast_row table new)) did)

  -- the rows of a table after INSERT of one row
  pub record Inserts1 (db next : Trees) (new : Row) : Type 0 where
    pub rows : next table.tree ≡ put_row new (db table.tree)
    pub others : AllByRecursion (λ t. t.tree ≢ table.tree → next t.tree ≡ db t.tree) schema.tables

  pub inserted : (terms : List Term) (width : ℕ) (source : Row) → table.is_counted ≡ false → value_rows (stamped table params) width (length terms / width) terms ≡ source ∷ []
      → (db : Trees) (w : Written) → ((new : Row) → IsIdle (new ∷ [])) → Inserts it (Values terms width) db (Ok w)
      → Inserts1 db w.trees (with_rowid Chosen (db table.tree) (cast_row table source))
  inserted terms width source uncounted one db w some h =
      let given = went h in
      let counter = went given.2 in
      let mid = went counter.2 in
      let last = went mid.2 in
      let rows : given.0 ≡ source ∷ [] = given.1.1 ∙ one in
      let new = with_rowid Chosen (db table.tree) (cast_row table source) in
      let put : Edited schema Enforced db (edit_of db table [] Chosen 0 (source ∷ [])) (Ok mid.0) =
      subst₂ (λ r l. Edited schema Enforced db (edit_of db table [] r 0 l) (Ok mid.0)) (chosen (count_of counter.0) uncounted) rows mid.1 in
      let went_in = edits db mid.0 [] (new ∷ []) (some new) put in
      let kept : last.0 ≡ mid.0 = uncounts _ _ counter.0 _ uncounted last.1 in
      let trees : w.trees ≡ mid.0 = ap (λ (x : Written). x.trees) (same_value last.2) ∙ kept in
      subst (λ t. Inserts1 db t new) (sym trees) (record { rows = went_in.rows; others = went_in.tables })

  -- the rows of a table after INSERT OR IGNORE of one row
  abbrev pub Ignored : List Row → Trees → Trees → Row → Type 0
  Ignored [] db next new = Inserts1 db next (cast_row table new)
  Ignored (x ∷ more) db next new = next ≡ db

  clears_or_not : (new : Row) (db : Trees) (w : Written) (found : List Row) → IsIdle (cast_row table new ∷ []) → Clears it Ignore new db found (Ok w) → Ignored found db w.trees new
  clears_or_not new db w [] some h = let put = puts new db w some refl h in record { rows = put.rows; others = put.tables }
  clears_or_not new db w (x ∷ more) some h = ap (λ (x : Written). x.trees) (same_value h)

  abbrev pub Ignores : Trees → Trees → Row → Type 0
  Ignores db next new = (found : List Row) × AreConflicts None schema.indexes table (db table.tree) new found × Ignored found db next new

  judged : (new : Row) (db : Trees) (w : Written) (verdict : Option Refusal) → is_present table new ≡ true → passes_checks table new ≡ true → IsIdle (cast_row table new ∷ [])
      → IsJudged table new verdict → Judged it Ignore [] new db verdict (Ok w) → Ignores db w.trees new
  judged new db w verdict present fine some is h = grind (arith, ints, nat_tests, clears_or_not)

  tries_or_not : (new : Row) (db : Trees) (w : Written) → is_present table new ≡ true → passes_checks table new ≡ true → IsIdle (cast_row table new ∷ []) → Tries it Ignore [] new db (Ok w)
      → Ignores db w.trees new
  tries_or_not new db w present fine some x6 = grind (arith, ints, nat_tests, judged)

  pub ignored : (terms : List Term) (width : ℕ) (source : Row) → table.is_counted ≡ false → value_rows (stamped table params) width (length terms / width) terms ≡ source ∷ []
      → (db : Trees) (w : Written) → (let new = with_rowid Chosen (db table.tree) (cast_row table source) in
      is_present table new ≡ true → passes_checks table new ≡ true → ((new : Row) → IsIdle (new ∷ [])) → InsertsOr it Ignore [] (Values terms width) db (Ok w) → Ignores db w.trees new)
  ignored terms width source uncounted one db w present fine some h =
      let given = went h in
      let counted = went given.2 in
      let tried = went counted.2 in
      let last = went tried.2 in
      let rows : given.0 ≡ source ∷ [] = given.1.1 ∙ one in
      let each : TriesEach it Ignore [] (source ∷ []) (count_of counted.0) (nothing db) (Ok tried.0) = subst (λ l. TriesEach it Ignore [] l (count_of counted.0) (nothing db) (Ok tried.0)) rows tried.1 in
      let first = went each in
      let same : tried.0.0.trees ≡ first.0.trees = ap (λ (p : Written × ℤ). p.0.trees) (same_value first.2) in
      let kept : last.0 ≡ tried.0.0.trees = uncounts _ _ counted.0 tried.0.1 uncounted last.1 in
      let trees : w.trees ≡ first.0.trees = ap (λ (x : Written). x.trees) (same_value last.2) ∙ kept ∙ same in
      let new = with_rowid Chosen (db table.tree) (cast_row table source) in
      let did : Tries it Ignore [] new db (Ok first.0) = subst (λ r. Tries it Ignore [] (with_rowid r (db table.tree) (cast_row table source)) db (Ok first.0)) (chosen (count_of counted.0) uncounted) first.1 in
      subst (λ t. Ignores db t new) (sym trees) (tries_or_not new db first.0 present fine (some (cast_row table new)) did)
