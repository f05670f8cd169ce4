-- From what a call of `sqlite` says of a text to the meaning of a query that is written out.
use Rattle.sql_tables.proofs.Names.{◌≡◌, ◌⊎◌, ℕ, Bool, true, false, cond, unwrap_or, List, [], Option, Some, None, refl, ap, Result, Ok, Err, IfOk, IfErr, IsOk, OnOk, IsTrue, ◌∙◌, arith, Null, Row, Trees, Query, IsAnswer, overlay, Schema, Command, Select, understood, reads_listing, Error, State, HasCleanDisk, Survives, CommitsShowing, Shown, IsUnchanged, IsRolledBack, IsNotRun, FailsToQuery, IsKept, LeavesAll, IsSelect, survives_weaker, IsPlain, command_of, reads_as, ints, nat_tests}
use Rattle.sqlite.specs.Clock.{timed}
use Rattle.sqlite.specs.Listing.{misses_table}
use Rattle.sqlite_syntax.specs.declared.statement.Parsed.{Parsed}
use Rattle.sqlite_schema.specs.declared.command.Returning.{Returning}
use Rattle.sqlite_resolve.specs.Compile.{compiled, first, planned, with_command}
use Rattle.sqlite_resolve.specs.Lowering.{Checked, and_then}
use Rattle.sqlite_resolve.specs.declared.compiled.Compiled.{Compiled}
use Rattle.sql_schema.specs.declared.layout.Layout.{Layout}
use Rattle.sql_schema.specs.declared.layout.Layout.TheVariants.{Made, Moved}
use Rattle.sql_schema.specs.Schema.{book_schema}
use Rattle.sql_tables.specs.Reading.{selects}
use Rattle.sql_tables.proofs.Selects.{select_returns, select_commits}

-- what is proved of the text of a write, by running its meaning
pub record IsCommand (schema : Schema) (sql : List ℕ) (command : Command) : Type 0 where
  pub is : command_of (understood schema sql) ≡ command
  pub plain : IsPlain (understood schema sql)

-- what is proved of the text of a query
pub record IsQuery (schema : Schema) (sql : List ℕ) (q : Query) (names : List (List ℕ)) : Type 0 where
  pub is : command_of (understood schema sql) ≡ Select (record { lets = []; body = q }) names
  pub plain : IsPlain (understood schema sql)
  pub unlisted : reads_listing schema sql ≡ false

-- What a text means is found by one run over it: it is parsed once, and compiled in each layout.

abbrev pub Seen : Type 0
Seen = Command × (Option Returning × List (List ℕ))

abbrev pub Sight : Type 0
Sight = Option Seen

-- the command, and what it returns and formats
abbrev pub sight : Checked Compiled → Sight
sight (Ok c) = Some (c.command, (c.returning, c.formats))
sight (Err e) = None

-- the sight of a command that returns nothing and has no time in it
abbrev pub plainly : Command → Sight
plainly command = Some (command, (None, []))

abbrev pub compiled_in : Schema → Checked Parsed → Checked Compiled
compiled_in schema r = and_then r (λ p. and_then (planned schema p) (λ plan. Ok (with_command p plan)))

-- whether a parsed text begins with a SELECT, and its sight in each layout
abbrev pub looked_at : Checked Parsed → Bool × (Sight × Sight)
looked_at r = (selects r, (sight (compiled_in (book_schema Made) r), sight (compiled_in (book_schema Moved) r)))

abbrev pub seen_as : Bool → (Layout → Command) → Bool × (Sight × Sight)
seen_as is_select command = (is_select, (plainly (command Made), plainly (command Moved)))

abbrev pub asking : (Layout → Query) → List (List ℕ) → Layout → Command
asking q names l = Select (record { lets = []; body = q l }) names

one_sight : (a b : Seen) → Some a ≡ Some b → a ≡ b
one_sight a b h = cc

seen_command : (listed r : Checked Compiled) (command : Command) → sight r ≡ plainly command → command_of (cond (misses_table r) listed r) ≡ command
seen_command listed (Ok c) command h = ap (λ t. t.0) (one_sight _ _ h)
seen_command listed (Err e) command h = absurd (cc)

seen_plain : (listed r : Checked Compiled) (command : Command) → sight r ≡ plainly command → IsPlain (cond (misses_table r) listed r)
seen_plain listed (Ok c) command h = let same = one_sight _ _ h in (ap (λ t. t.1.0) same, ap (λ t. t.1.1) same)
seen_plain listed (Err e) command h = absurd (cc)

seen_unlisted : (r : Checked Compiled) (command : Command) → sight r ≡ plainly command → misses_table r ≡ false
seen_unlisted (Ok c) command h = refl
seen_unlisted (Err e) command h = absurd (cc)

module _ (sql : List ℕ) (is_select : Bool) (command : Layout → Command) (seen : looked_at (first sql) ≡ seen_as is_select command) where
  sight_is : (l : Layout) → sight (compiled (book_schema l) sql) ≡ plainly (command l)
  unfolding compiled
  sight_is Made = ap (λ s. s.1.0) seen
  sight_is Moved = ap (λ s. s.1.1) seen

  pub commands : (l : Layout) → IsCommand (book_schema l) sql (command l)
  unfolding understood
  commands l = record { is = seen_command _ _ (command l) (sight_is l); plain = seen_plain _ _ (command l) (sight_is l) }

module _ (sql : List ℕ) (q : Layout → Query) (names : List (List ℕ)) (seen : looked_at (first sql) ≡ seen_as true (asking q names)) where
  pub queries : (l : Layout) → IsQuery (book_schema l) sql (q l) names
  queries l =
      let it = commands sql true (asking q names) seen l in
      record { is = it.is; plain = it.plain; unlisted = seen_unlisted _ _ (sight_is sql true (asking q names) seen l) }

  pub begins : IsSelect sql
  begins = ap (λ s. s.0) seen

pub shown_unchanged : (sql : List ℕ) (params : Row) (old new : State) (rows : List Row) → IsSelect sql → Shown sql params old new rows → IsUnchanged old new
unfolding Shown
shown_unchanged sql params old new rows is h = grind (arith, ints, nat_tests, select_returns, timed)

module _ {schema : Schema} {sql : List ℕ} {q : Query} {names : List (List ℕ)} (it : IsQuery schema sql q names) (params : Row) (old new : State) (has : old.now.schema ≡ schema) where
  pub answers : (rows : List Row) → Shown sql params old new rows → IsAnswer q (overlay old.now.trees []) params rows
  answers rows h = (reads_as sql params old new schema has _ it.is it.plain it.unlisted rows h).answer Null

given_none : {T : Type 0} (b : Bool) (x : T) → unwrap_or (cond b None None) x ≡ x
given_none b x = grind (arith, ints, nat_tests)

-- a query with no tables of its own reads those of the database
pub no_lets : (db : Trees) (tree : ℕ) → overlay db [] tree ≡ db tree
no_lets db tree = given_none _ (db tree)

-- A query that fails leaves all as it was, or undoes a transaction.

one_of : (old new : State) (sql : List ℕ) (params : Row) (e : Error) → IsNotRun old new sql params e → IsUnchanged old new ⊎ IsRolledBack old new
unfolding IsNotRun
one_of old new sql params e x5 = grind (arith, ints, nat_tests)

pub fails_kept : (sql : List ℕ) (params : Row) (old new : State) (e : Error) → IsSelect sql → FailsToQuery sql params old new e → IsUnchanged old new ⊎ IsRolledBack old new
unfolding FailsToQuery
fails_kept sql params old new e is x6 = grind (arith, ints, nat_tests, one_of, select_returns, timed)

pub kept_unchanged : (old new : State) → IsUnchanged old new → IsKept old new
kept_unchanged old new h = record { was_open = h.0.was_open; now = h.0.now_is; committed = h.0.committed_is }

-- outside a transaction a rollback changes nothing
pub kept_undone : (old new : State) → (IsTrue old.is_open → old.now ≡ old.committed) → IsTrue new.is_open → IsRolledBack old new → IsKept old new
kept_undone old new settled still back = grind (arith, ints, nat_tests)

pub kept_either : (old new : State) → (IsTrue old.is_open → old.now ≡ old.committed) → IsTrue new.is_open → IsUnchanged old new ⊎ IsRolledBack old new → IsKept old new
kept_either old new settled still x4 = grind (arith, ints, nat_tests, kept_unchanged, kept_undone)

asked_kept : {T : Type 0} (rows_of : T → List Row) (sql : List ℕ) (params : Row) (old new : State) (r : Result T Error) → IsSelect sql → (IsTrue old.is_open → old.now ≡ old.committed) → IsTrue new.is_open
    → IfOk r (λ rows. Shown sql params old new (rows_of rows)) → IfErr r (FailsToQuery sql params old new) → IsKept old new
asked_kept rows_of sql params old new (Ok rows) is settled still shown fails = kept_unchanged old new (shown_unchanged sql params old new (rows_of rows) is shown)
asked_kept rows_of sql params old new (Err e) is settled still shown fails = kept_either old new settled still (fails_kept sql params old new e is fails)

-- a call that answers leaves the connection open
pub when_shown : {T : Type 0} (rows_of : T → List Row) (sql : List ℕ) (params : Row) (old new : State) (r : Result T Error) → IsSelect sql
    → IfOk r (λ rows. Shown sql params old new (rows_of rows)) → OnOk r (IsTrue new.is_open)
when_shown rows_of sql params old new r is shown = grind (arith, ints, nat_tests, shown_unchanged)

-- a SELECT changes nothing
pub asked_left : {T : Type 0} (rows_of : T → List Row) (sql : List ℕ) (params : Row) (old new : State) (r : Result T Error) → IsSelect sql → (IsTrue old.is_open → old.now ≡ old.committed) → Survives old new (CommitsShowing sql params old)
    → (HasCleanDisk new → IfOk r (λ rows. Shown sql params old new (rows_of rows))) → (HasCleanDisk new → IfErr r (FailsToQuery sql params old new)) → LeavesAll r old new
asked_left rows_of sql params old new r is settled survives shown fails =
    grind (arith, ints, nat_tests, asked_kept, when_shown, survives_weaker, select_commits)

-- Calls that read, one after the other.

kept_then : (a b c : State) → IsKept a b → IsKept b c → IsKept a c
kept_then a b c p q = record { was_open = p.was_open; now = q.now ∙ p.now; committed = q.committed ∙ p.committed }

-- what is told of a call that reads does not matter, but where a call answers
pub leaves_on : {T U E F : Type 0} (r : Result T E) (q : Result U F) (a b : State) → (IsOk q → IsOk r) → LeavesAll r a b → LeavesAll q a b
leaves_on r q a b told x = grind (arith, ints, nat_tests)

pub leaves_then : {T U E F : Type 0} (r : Result T E) (q : Result U F) (a b c : State) → LeavesAll r a b → LeavesAll q b c → LeavesAll q a c
leaves_then r q a b c x y = grind (arith, ints, nat_tests, kept_then)
