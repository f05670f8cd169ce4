-- What the text that reads the versions answers under the schema of a book of either version, with the trail or without
-- it, and why it fails.
use Rattle.sql_making.proofs.Names.{◌≡◌, ◌⊎◌, inl, inr, ℕ, ◌<◌, ◌≤◌, ℤ, true, false, List, [], ◌∷◌, length, get_or, None, Option, Result, Ok, Err, IsSome, map, codes, refl, sym, ap, subst, ◌∙◌, arith, IsPermutation, flat_map_single, IsPermutation-map, IsPermutation-sym, Value, Null, Int, Row, column, Trees, col, Query, Output, output, IsAnswer, overlay, Schema, Command, Select, map-map, everything, Error, timed, Database, RefusesToRead, understood, reads_listing, IsSourceOf, State, Shown, Fails, FailsToQuery, FailsToShow, IsNotRun, IsNoStatement, IsPlain, command_of, reads_as, one_permutation, Layout, Made, Moved, old_schema, book_schema, IsSelect, HasFailed, version_text, versions_in, HasVersions, numbered_versions, ints, nat_tests}
use Rattle.sql_schema.specs.Bare.{bare_schema}
use Rattle.sqlite_value.specs.declared.keys.Collation.TheVariants.{Binary}
use Rattle.sqlite_value.specs.declared.keys.Key.{Key}
use Rattle.sqlite_sql.specs.Term.{Term, eval_all}
use Rattle.sql_tables.specs.Picking.{changing}
use Rattle.sqlite_trees.specs.declared.error.StoreError.{StoreError}
use Rattle.sqlite_trees.specs.declared.error.StoreError.TheVariants.{OutOfMemory, Io, Corrupt, Full, Broken, Unstorable}
use Rattle.sqlite_typing.specs.Types.{accepts_program}
use Rattle.sqlite_resolve.specs.declared.compiled.Compiled.{Compiled}
use Rattle.sqlite_resolve.specs.declared.error.CompileError.{CompileError}
use Rattle.sqlite.specs.declared.error.ErrorCode.TheVariants as code
use Rattle.sqlite.specs.declared.error.Error.TheVariants.{SqliteFailure}

abbrev query : Query
query = record (changing 0 [] (col 1 1 ∷ [])) { order = (col 1 0, record { collation = Binary; descending = false }) ∷ [] }

abbrev command : Command
command = Select (record { lets = []; body = query }) (codes "rowid" ∷ codes "version" ∷ [])

-- the text is one statement without parameters
abbrev IsAlone : Result Compiled CompileError → Type 0
IsAlone (Ok c) = (length version_text ≡ c.tail) × (c.names ≡ []) × (c.formats ≡ []) × (c.returning ≡ None)
IsAlone (Err e) = ⊥

-- under this schema the text is that query
record Asks (s : Schema) : Type 0 where
  is : command_of (understood s version_text) ≡ command
  plain : IsPlain (understood s version_text)
  unlisted : reads_listing s version_text ≡ false
  alone : IsAlone (understood s version_text)
  accepted : accepts_program s [] query [] ≡ true

asks_then : Asks old_schema
unfolding understood everything
asks_then = record { is = refl; plain = (refl, refl); unlisted = refl; alone = (refl, refl, refl, refl); accepted = refl }

asks_now : (l : Layout) → Asks (book_schema l)
unfolding understood everything
asks_now Made = record { is = refl; plain = (refl, refl); unlisted = refl; alone = (refl, refl, refl, refl); accepted = refl }
asks_now Moved = record { is = refl; plain = (refl, refl); unlisted = refl; alone = (refl, refl, refl, refl); accepted = refl }

asks_bare : (l : Layout) → Asks (bare_schema l)
unfolding understood everything
asks_bare Made = record { is = refl; plain = (refl, refl); unlisted = refl; alone = (refl, refl, refl, refl); accepted = refl }
asks_bare Moved = record { is = refl; plain = (refl, refl); unlisted = refl; alone = (refl, refl, refl, refl); accepted = refl }

asks : (s : Schema) → HasVersions s → Asks s
asks s (inl then) = subst Asks (sym then) asks_then
asks s (inr (inl (l, now))) = subst Asks (sym now) (asks_now l)
asks s (inr (inr (l, now))) = subst Asks (sym now) (asks_bare l)

pub version_selects : IsSelect version_text
unfolding everything
version_selects = refl

-- an answer has one row for each of the first table, in some order
pub answered : (cells : List Term) (order : List (Term × Key)) (db : Trees) (rows : List Row)
    → IsAnswer (record (changing 0 [] cells) { order = order }) (overlay db []) [] rows
    → IsPermutation (map (λ (r : Row). eval_all (col 1 0 ∷ cells) ([] ∷ r ∷ [])) (db 0)) rows
answered cells order db rows a =
    let q : Query = record (changing 0 [] cells) { order = order } in
    let env = λ (r : Row). [] ∷ r ∷ [] in
    let staged : a.staged ≡ map env (db 0) = a.grouped ∙ flat_map_single env (db 0) in
    let kept : a.kept ≡ map (λ r. output q (env r)) (db 0) = a.distinct ∙ ap (map (output q)) staged ∙ map-map (output q) env (db 0) in
    let same = IsPermutation-map (λ (o : Output). o.1) _ a.ordered (subst (λ k. IsPermutation k a.ordered) kept a.same) in
    subst (IsPermutation _) (sym a.shown) (subst (λ l. IsPermutation l (map (λ (o : Output). o.1) a.ordered)) (map-map (λ (o : Output). o.1) (λ r. output q (env r)) (db 0)) same)

pub version_shown : (old new : State) (rows : List Row) → HasVersions old.now.schema → Shown version_text [] old new rows → IsPermutation (numbered_versions old.now.trees) rows
version_shown old new rows has h =
    let a = asks old.now.schema has in
    answered (col 1 1 ∷ []) query.order old.now.trees rows ((reads_as version_text [] old new old.now.schema refl command a.is a.plain a.unlisted rows h).answer Null)

-- one row on either side is that row on the other
pub one_stored : (stored rows : List Row) (r : Row) → IsPermutation stored rows → rows ≡ r ∷ [] → stored ≡ r ∷ []
one_stored stored rows r same is = one_permutation r stored (IsPermutation-sym _ _ (subst (IsPermutation stored) is same))

pub one_read : (stored rows : List Row) (r : Row) → IsPermutation stored rows → stored ≡ r ∷ [] → rows ≡ r ∷ []
one_read stored rows r same is = one_permutation r rows (subst (λ l. IsPermutation l rows) is same)

-- the versions that are shown beside the numbers
pub versions_shown : (l : Layout) (db : Trees) → map (λ (r : Row). column r 1) (numbered_versions db) ≡ versions_in l db
versions_shown l db = map-map (λ (r : Row). column r 1) (λ (r : Row). column r 0 ∷ column r 1 ∷ []) (db 0)

-- one version has one number
pub one_numbered : (rows : List Row) (v : Value) → map (λ (r : Row). column r 1) rows ≡ v ∷ [] → (id : Value) × (map (λ (r : Row). column r 0 ∷ column r 1 ∷ []) rows ≡ (id ∷ v ∷ []) ∷ [])
one_numbered [] v h = absurd cc
one_numbered (r ∷ []) v h = (column r 0, cc)
one_numbered (r ∷ s ∷ more) v h = absurd cc

-- one row of two columns, the second of which is a number
pub one_row : (rows : List Row) (row : Row) (v : ℤ) → 1 ≤ length rows → length rows < 2 → row ≡ get_or rows 0 row → length row ≡ 2 → column row 1 ≡ Int v
    → (id : Value) × (rows ≡ (id ∷ Int v ∷ []) ∷ [])
one_row [] row v least below is two at = absurd (omega (arith, least))
one_row (r ∷ s ∷ more) row v least below is two at = absurd (omega (arith, below))
one_row (r ∷ []) [] v least below is two at = absurd (omega (arith, two))
one_row (r ∷ []) (a ∷ []) v least below is two at = absurd (omega (arith, two))
one_row (r ∷ []) (a ∷ b ∷ c ∷ more) v least below is two at = absurd (omega (arith, two))
one_row (r ∷ []) (a ∷ b ∷ []) v least below is two at = (a, sym (ap (λ x. x ∷ []) is) ∙ ap (λ x. (a ∷ x ∷ []) ∷ []) at)

-- ---- why it fails

caused : (old new : State) (cause : StoreError) (e : Error) → Fails old new ⊥ e → (e ≡ SqliteFailure code.OutOfMemory) ⊎ HasFailed old new
caused old new cause e (OutOfMemory, is, why, back, told) = inl is
caused old new cause e (Io, is, why, back, told) = inr (inl why)
caused old new cause e (Corrupt, is, why, back, told) = inr (inl why)
caused old new cause e (Full, is, why, back, told) = inr (inl why)
caused old new cause e (Broken, is, why, back, told) = inr (inr (inl why))
caused old new cause e (Unstorable, is, why, back, told) = absurd why

no_statement : (old : State) (e : Error) → Asks old.now.schema → ¬ IsNoStatement old version_text [] e
no_statement old e a x3 = grind (arith, ints, nat_tests, length)

-- the query itself is refused by a limit on steps alone
limited : (limit : Option ℕ) (db : Database) (e : Error) → Asks db.schema → RefusesToRead limit command db [] e → IsSome limit
limited limit db e a (inl kinds) = absurd (let wrong : accepts_program db.schema [] query [] ≡ false = kinds.1 in let clash = sym a.accepted ∙ wrong in cc)
limited limit db e a (inr (inl (is, inl none))) = absurd none
limited limit db e a (inr (inl (is, inr some))) = absurd some.4
limited limit db e a (inr (inr steps)) = steps.1

-- for want of memory, or since the store failed
pub query_cause : (old new : State) (e : Error) → HasVersions old.now.schema → FailsToQuery version_text [] old new e → (e ≡ SqliteFailure code.OutOfMemory) ⊎ HasFailed old new
unfolding FailsToQuery IsNotRun
query_cause old new e has (inl (inl none)) = absurd (no_statement old e (asks old.now.schema has) none.0)
query_cause old new e has (inl (inr failed)) = caused old new failed.0 e failed
query_cause old new e has (inr h) =
    let a = asks old.now.schema has in
    let it = subst IsAlone h.1.is a.alone in
    let shown = subst (FailsToShow old new version_text h.0 (timed [] h.0.formats h.1.now) e) it.3 h.2 in
    let db : shown.0 ≡ old.now = subst (λ b. IsSourceOf b old.now shown.0) a.unlisted shown.1 in
    let is : h.0.command ≡ command = ap command_of (sym h.1.is) ∙ a.is in
    grind (arith, ints, nat_tests, command, is, timed, limited)
