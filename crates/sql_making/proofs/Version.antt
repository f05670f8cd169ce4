-- What UPDATE makes of the version.
use Rattle.sql_making.proofs.Names.{col, lit, ◌≡◌, ℕ, ℤ, true, List, [], ◌∷◌, map, Ok, refl, ap, subst, ◌∙◌, arith, int_eq, IsPermutation, Value, Null, Int, Row, column, value_cmp-Int, Trees, has_rowid, without_rowid, Program, Given, ids_of, edit_of, edited, Database, IsDatabase, State, ExecutesIn, one_permutation, Moved, book_schema, book_table, version_now, cast_int, updates, updated, versions_in, version_set_part, numbered_versions, idle}
use Rattle.std.proofs.lemmas.Int.{ints}
use Rattle.sql_making.proofs.Creates.{runs_in_batch}
use Rattle.sql_making.proofs.Means.{version_set_query, version_set_means}
use Rattle.sql_making.proofs.Changes.{IsElsewhere, elsewhere}
use Rattle.sql_making.proofs.VersionRead.{answered}

-- one row, with what is seen of it
one_row : (rows : List Row) (id v : Value) → map (λ (r : Row). column r 0 ∷ column r 1 ∷ []) rows ≡ (id ∷ v ∷ []) ∷ [] → (r : Row) × (rows ≡ r ∷ []) × (column r 0 ≡ id)
one_row [] id v h = absurd cc
one_row (r ∷ []) id v h = (r, refl, cc)
one_row (r ∷ s ∷ more) id v h = absurd cc

self : (n : ℤ) → int_eq n n ≡ true
self n = grind (arith, ints)

is_gone : (id : ℤ) (r : Row) → column r 0 ≡ Int id → without_rowid id (r ∷ []) ≡ []
is_gone id r h = let same : has_rowid id r ≡ true = rw (h, value_cmp-Int) (self id) in rw same refl

-- the rows of the table after the edit, where it had one row
put_version : (db : Trees) (id : ℤ) (r : Row) → db 0 ≡ r ∷ [] → column r 0 ≡ Int id → (rows : List Row) → rows ≡ (Int id ∷ Int id ∷ Int version_now ∷ []) ∷ []
    → map (λ (r : Row). column r 1) (edited db (edit_of db (book_table Moved) (ids_of rows) Given 1 rows)) ≡ Int version_now ∷ []
put_version db id r one is rows are =
    ap (λ l. map (λ (r : Row). column r 1) (edited db (edit_of db (book_table Moved) (ids_of l) Given 1 l))) are
    ∙ rw (one, is_gone id r is, cast_int version_now) refl

pub sets_version : (old new : State) (count : ℕ) → old.now.schema ≡ book_schema Moved → ExecutesIn true version_set_part [] old new (Ok count)
    → IsElsewhere 0 old.now new.now × ((id : ℤ) (v : Value) → numbered_versions old.now.trees ≡ (Int id ∷ v ∷ []) ∷ [] → versions_in Moved new.now.trees ≡ Int version_now ∷ [])
sets_version old new count has h =
    let q : Program = record { lets = []; body = version_set_query } in
    let db = old.now.trees in
    let w = runs_in_batch version_set_part old new (book_schema Moved) has _ version_set_means.is version_set_means.plain count h in
    let did = updates old new (book_schema Moved) has 0 (book_table Moved) refl [] _ count q w in
    let set = updated old.step_limit (book_schema Moved) (book_table Moved) [] refl refl db q did.0 (λ rows answers olds. idle Moved 0 olds (edit_of db (book_table Moved) (ids_of rows) Given 1 rows).news) did.1 in (
      elsewhere 0 old.now new.now did.0.trees did.2 set.2.tables,
      λ id v told.
          let r = one_row (db 0) (Int id) v told in
          let same = answered (col 1 0 ∷ lit (Int version_now) ∷ []) [] db set.0 (set.1.answer Null) in
          let rows : set.0 ≡ (Int id ∷ Int id ∷ Int version_now ∷ []) ∷ [] = one_permutation _ set.0 (subst (λ l. IsPermutation l set.0)
          (ap (map (λ (r : Row). column r 0 ∷ column r 0 ∷ Int version_now ∷ [])) r.1 ∙ ap (λ c. (c ∷ c ∷ Int version_now ∷ []) ∷ []) r.2) same) in
          ap (λ (d : Database). map (λ (r : Row). column r 1) (d.trees 0)) did.2 ∙ ap (map (λ (r : Row). column r 1)) set.2.rows ∙ put_version db id r.0 r.1 r.2 set.0 rows,
    )

-- and the database lists what it holds
pub sets_listed : (old new : State) (count : ℕ) → old.now.schema ≡ book_schema Moved → ExecutesIn true version_set_part [] old new (Ok count) → IsDatabase new.now
sets_listed old new count has h = let w = runs_in_batch version_set_part old new (book_schema Moved) has _ version_set_means.is version_set_means.plain count h in w.sound
