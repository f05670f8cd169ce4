-- What the last statement of the text makes of the tables.
use Rattle.sql_making.proofs.Names.{◌≡◌, ◌≢◌, ℕ, pos, true, List, [], ◌∷◌, drop, None, Ok, refl, ap, subst, ◌∙◌, arith, AllByRecursion, Null, Int, Row, Trees, lit, Table, Command, Insert, Chosen, Edit, edit_of, edited, taken_by, Enforced, everything, Database, understood, Tally, Does, Written, Edited, State, ExecutesIn, mode_of, statement_of, one_step, Made, book_schema, book_table, version_now, version_part, IsBlank, IsNewBook, went, same_value, cast_int, cast_null, ints, nat_tests}
use Rattle.sqlite_schema.specs.declared.command.Source.TheVariants.{Values}
use Rattle.sqlite_rules.specs.Action.{works}
use Rattle.sql_tables.proofs.Calls.{IsCommand}
use Rattle.sql_making.proofs.Creates.{runs_in_batch}

abbrev command : Command
command = Insert 0 (Values (lit Null ∷ lit (Int version_now) ∷ []) 2)

version_means : IsCommand (book_schema Made) version_part command
unfolding understood everything
version_means = record { is = refl; plain = (refl, refl) }

abbrev source : Row
source = Null ∷ Int version_now ∷ []

abbrev edit_in : Trees → Edit
edit_in db = edit_of db (book_table Made) [] Chosen 0 (source ∷ [])

-- no foreign key acts
quiet : (db : Trees) → works (book_schema Made) Enforced 0 (book_table Made).tree (taken_by db (edit_in db)) (edit_in db).news ≡ []
quiet db = refl

-- the other tables are as they were, without rows
still : (old new : Trees) (n : ℕ) (ts : List Table) → AllByRecursion (λ t. t.tree ≢ n → new t.tree ≡ old t.tree) ts → AllByRecursion (λ t. t.tree ≢ n) ts → AllByRecursion (λ t. old t.tree ≡ []) ts
    → AllByRecursion (λ t. new t.tree ≡ []) ts
still old new n [] keeps apart none = tt
still old new n (t ∷ ts) keeps apart none = (keeps.0 apart.0 ∙ none.0, still old new n ts keeps.1 apart.1 none.1)

pub adds_version : (old new : State) (count : ℕ) → old.now.schema ≡ (book_schema Made) → IsBlank old.now → ExecutesIn true version_part [] old new (Ok count) → IsNewBook new.now
adds_version old new count has blank h =
    let db = old.now.trees in
    let empty : AllByRecursion (λ t. db t.tree ≡ []) (book_schema Made).tables = subst (λ s. AllByRecursion (λ (t : Table). db t.tree ≡ []) s.tables) has blank in
    let w = runs_in_batch version_part old new (book_schema Made) has command version_means.is version_means.plain count h in
    let text = statement_of version_part (understood (book_schema Made) version_part) in
    let done = went (subst (λ s. Does old.step_limit (mode_of old) [] (record old.now { schema = s }) text None command (Ok (w.tally, new.now))) has w.changed) in
    let now = ap (λ (p : Tally × Database). p.1) (same_value (went (went done.2).2).2) in
    let given = went done.1 in
    let written = went (went given.2).2 in
    let counted = went written.2 in
    let trees : done.0.trees ≡ written.0 = ap (λ (it : Written). it.trees) (same_value counted.2) ∙ same_value counted.1 in
    let put : Edited (book_schema Made) Enforced db (edit_in db) (Ok written.0) = subst (λ l. Edited (book_schema Made) Enforced db (edit_of db (book_table Made) [] Chosen 0 l) (Ok written.0)) given.1.1 written.1 in
    let applied = one_step (book_schema Made) Enforced db written.0 (edit_in db) (quiet db) put in
    let rows : edited db (edit_in db) ≡ (Int (pos 1) ∷ Int version_now ∷ []) ∷ [] = rw (empty.0, cast_null, cast_int version_now) in
    grind (arith, ints, nat_tests, still, drop, book_schema)
