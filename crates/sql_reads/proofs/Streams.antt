-- What a sink was handed so far of a query.
use Rattle.sql_reads.proofs.Names.{◌≡◌, ◌⊎◌, inl, inr, ℕ, ◌+◌, ◌≤◌, List, [], length, fold, None, Some, Result, Ok, Err, OnOk, IsErr, IsTrue, length-append, sym, subst, ◌∙◌, arith, AllByRecursion, Row, Database, Held, state, State, HasCleanDisk, IsUnchanged, Fails, Survives, FailsToQuery, Shown, ShowsRows, Begins, CommitsShowing, survives_then, survives_weaker, unchanged_then, given_begin, MOST_ROWS, IsSelect, IsKept, LeavesAll, kept_unchanged, kept_either, fails_kept, IsFed, ints, nat_tests}
use Rattle.std.proofs.lemmas.List.Sums.{fold-append}
use Rattle.sqlite.specs.Store.{Ghosts}
use Rattle.sqlite.specs.Clock.{timed}
use Rattle.sqlite.specs.Listing.{understood, reads_listing, IsSourceOf}
use Rattle.sqlite.specs.declared.error.Error.{Error}
use Rattle.sqlite_resolve.specs.declared.compiled.Compiled.{Compiled}
use Rattle.sqlite_resolve.specs.declared.error.CompileError.{CompileError}
use Rattle.sqlite.specs.Given.{HasGiven, HasBegun, Advances, Returns}
use Rattle.firm_rows.proofs.Ordered.{all-append}
use Rattle.sql_tables.proofs.Selects.{ReturnsNothing, select_returns, select_commits}
use Rattle.sql_reads.proofs.Fed.{of_err}

-- A SELECT.

pub select_survives : (sql : List ℕ) (params : Row) (a b : State) → IsSelect sql → Survives a b (CommitsShowing sql params a) → Survives a b (λ _. ⊥)
select_survives sql params a b is = survives_weaker a b _ _ (λ _ db. select_commits sql params a db is)

-- its answer, from a state that shows the same
shown_from : (sql : List ℕ) (params : Row) (a b c : State) (rows : List Row) → IsSelect sql → IsUnchanged a b → Shown sql params b c rows → Shown sql params a c rows
unfolding Shown
shown_from sql params a b c rows select same h =
    let none = subst ReturnsNothing h.1.is (select_returns b.now.schema sql select) in
    let full = timed params h.0.formats h.1.now in
    let it = subst (ShowsRows b c sql h.0 full rows) none h.2 in (
      h.0,
      record { is = subst (λ (d : Database). understood d.schema sql ≡ Ok h.0) same.0.now_is h.1.is; whole = h.1.whole; given = h.1.given; now = h.1.now },
      subst (ShowsRows a c sql h.0 full rows) (sym none) (it.0, subst (λ (d : Database). IsSourceOf (reads_listing d.schema sql) d it.0) same.0.now_is it.1, it.2, unchanged_then a b c same it.3),
    )

begins_from : (sql : List ℕ) (params : Row) (a b : State) (rows : List Row) → IsUnchanged a b → Begins sql params b rows → Begins sql params a rows
unfolding Begins
begins_from sql params a b rows same h = (
  h.0,
  record { is = subst (λ (d : Database). understood d.schema sql ≡ Ok h.0) same.0.now_is h.1.is; whole = h.1.whole; given = h.1.given; now = h.1.now },
  h.2,
  h.3,
  subst (λ (d : Database). IsSourceOf (reads_listing d.schema sql) d h.3) same.0.now_is h.4,
  h.5,
)

-- What a call leaves.

left_by : {T E : Type 0} (r : Result T E) (a b : State) → Survives a b (λ _. ⊥) → (HasCleanDisk b → IsTrue b.is_open → IsKept a b) → (HasCleanDisk b → OnOk r (IsTrue b.is_open)) → LeavesAll r a b
left_by r a b survives kept serves = record { same = kept; serves = serves; was_clean = λ clean. omega (arith, clean, survives.clean); crash = λ clean. survives.crash clean }

pub left_unchanged : {T E : Type 0} (r : Result T E) (a b : State) → Survives a b (λ _. ⊥) → (HasCleanDisk b → IsUnchanged a b) → LeavesAll r a b
left_unchanged r a b survives same = grind (arith, ints, nat_tests, left_by, kept_unchanged)

pub left_refused : {T F : Type 0} (sql : List ℕ) (params : Row) (a b : State) (e : Error) (f : F) → IsSelect sql → (IsTrue a.is_open → a.now ≡ a.committed) → Survives a b (CommitsShowing sql params a)
    → (HasCleanDisk b → FailsToQuery sql params a b e) → LeavesAll {T = T} (Err f) a b
left_refused sql params a b e f is settled survives fails =
    left_by (Err f) a b (select_survives sql params a b is survives) (λ clean still. kept_either a b settled still (fails_kept sql params a b e is (fails clean))) (λ clean. tt)

module _ (a b d : State) where
  clean_then : Survives b d (λ _. ⊥) → HasCleanDisk d → HasCleanDisk b
  clean_then survives clean = omega (arith, clean, survives.clean)

  kept_then : IsKept a b → IsKept b d → IsKept a d
  kept_then p q = record { was_open = p.was_open; now = q.now ∙ p.now; committed = q.committed ∙ p.committed }

  both_survive : Survives a b (λ _. ⊥) → Survives b d (λ _. ⊥) → Survives a d (λ _. ⊥)
  both_survive first second = survives_then a b d _ _ (λ _. ⊥) (λ _ db none. none) (λ _ db none. none) first second

-- one step more
pub left_later : {T E : Type 0} (r : Result T E) (a b d : State) → Survives a b (λ _. ⊥) → (HasCleanDisk b → IsUnchanged a b)
    → Survives b d (λ _. ⊥) → (HasCleanDisk d → IsUnchanged b d) → LeavesAll r a d
left_later r a b d first same second still =
    grind (arith, ints, nat_tests, left_unchanged, both_survive, unchanged_then, clean_then)

-- a step failed
pub left_failed : {T F : Type 0} (e : Error) (f : F) (a b d : State) → (IsTrue a.is_open → a.now ≡ a.committed) → Survives a b (λ _. ⊥)
    → (HasCleanDisk b → IsUnchanged a b) → Survives b d (λ _. ⊥) → (HasCleanDisk d → Fails b d ⊥ e ⊎ IsUnchanged b d) → LeavesAll {T = T} (Err f) a d
left_failed e f a b d settled first same second fails =
    grind (arith, ints, nat_tests, left_by, both_survive, clean_then, kept_then, kept_unchanged, kept_either)

-- Rows that were given one after the other.

module _ {S : Type 0} (g : Ghosts S) {K : Type 0} (step : K → Row → K) (Fits : Row → Type 0) (sql : List ℕ) (params : Row) (first : State) (before : K) where
  -- a query stands behind these rows, and each was taken
  pub record Gave (h : Held S) (count : ℕ) (now : K) : Type 0 where
    pub rows : List Row
    pub gives : HasGiven g sql params h rows
    pub same : IsUnchanged first (state g h)
    pub folded : now ≡ fold step before rows
    pub fit : AllByRecursion Fits rows
    pub counted : length rows ≡ count

  pub one_more : (a b : Held S) (count : ℕ) (now next : K) (row : Row) → Gave a count now → Advances g a b (Some row) → IsUnchanged (state g a) (state g b) → next ≡ step now row → Fits row → Gave b (count + 1) next
  one_more a b count now next row gave on still is fit =
      grind (arith, ints, nat_tests, unchanged_then, state, fold-append, all-append, length-append)

  pub all_fed : {E : Type 0} (a : Held S) (t : Held S) (count : ℕ) (now : K) → IsSelect sql → Gave a count now → count ≤ MOST_ROWS → Advances g a t None → IsFed {E = E} step Fits sql params first (state g t) (Ok count) before now
  all_fed a t count now is gave few none = grind (arith, ints, nat_tests, shown_from, state)

  pub some_fed : {E : Type 0} (a : Held S) (t : State) (count : ℕ) (now last : K) (r : Result ℕ E) → IsErr r → Gave a count now → last ≡ now → IsFed step Fits sql params first t r before last
  some_fed a t count now last r is gave same = grind (arith, ints, nat_tests, of_err, begins_from, state, given_begin)

-- a SELECT is at its start
pub begun_select : {S : Type 0} (g : Ghosts S) (sql : List ℕ) (params : Row) (a b : Held S) → IsSelect sql → HasBegun g sql params a b → HasGiven g sql params b [] × IsUnchanged (state g a) (state g b)
begun_select g sql params a b is (inl h) = h
begun_select g sql params a b is (inr h) = absurd (never (understood a.schema sql) (select_returns a.schema sql is) h.0)
  where
    never : (r : Result Compiled CompileError) → ReturnsNothing r → ¬ Returns r
    never (Ok c) none some = absurd (let e = rw none at some in cc)
    never (Err e) none some = some
