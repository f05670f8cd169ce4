use Rattle.sql_making.proofs.Names.{◌≡◌, ◌⊎◌, inl, inr, Some, sym, subst, ◌∙◌, rules, state, book_schema, version_now, IsBook, arith, ints, nat_tests}
use Rattle.sqlite.specs.State.{HasCleanDisk, State, Survives}
use Rattle.sqlite.specs.Effect.{Database}
use Rattle.sqlite.proofs.StateLemmas.{survives_then}
use Rattle.sql_making.specs.Bare.{IsBareBook, AreExtended}
use Rattle.sql_making.specs.Scripts.{MayMake}
use Rattle.sql_making.specs.Then.{AreMoved, IsLook, IsOldBook}
use Rattle.sql_making.specs.declared.scripts.Script.TheVariants.{Extend}
use Rattle.sql_schema.specs.declared.layout.Layout.{Layout}
use Rattle.sql_schema.specs.Bare.{bare_schema}
use Rattle.sql_schema.proofs.Apart.{never_both, bare_or_now}
use Rattle.sql_making.proofs.taking.adopt.Goals as goal

-- what a crash leaves of a book without the trail, found bare and then given one: what was there, or the book with it
left_in_extending : (l : Layout) (was mid new : State) → (HasCleanDisk new → IsBareBook l was.now)
    → (HasCleanDisk new → mid.now ≡ was.now) → Survives was mid (λ _. ⊥) → Survives mid new (MayMake Extend mid.now)
    → Survives was new (λ trees. (IsOldBook was.now × AreMoved was.now trees)
    ⊎ ((l : Layout) × IsBareBook l was.now × AreExtended l was.now trees))
left_in_extending l was mid new bare same looked ran =
    survives_then was mid new _ _ _ (λ _ db none. absurd none)
    (λ clean db may. inr (l, bare clean, subst (λ (d : Database). AreExtended l d db) (same clean) (may l (subst (IsBareBook l) (sym (same clean)) (bare clean)))))
    looked ran

pub returns-in-Ok-clause-taken : goal.returns-in-Ok-clause-taken
returns-in-Ok-clause-taken g c clean =
    let l = c.in-Some-Now.layout in
    let has : c.args.conn.now.schema ≡ book_schema l = search rules in
    let left = c.in-Ok.ensures.settled l clean has in
    let told : c.in-Ok.version ≡ Some version_now = search rules in
    let book : IsBook l (state g.S.Store c.args.conn.now).now = record { schema = has; version = (c.in-Ok.ensures.is l clean has version_now).0 told } in
    (subst (IsBook l) (sym left.1.now) book, left.0, inl left.1)

pub returns-in-Ok-2-clause-refused : goal.returns-in-Ok-2-clause-refused
returns-in-Ok-2-clause-refused g c clean is =
    let has : c.args.conn.now.schema ≡ book_schema c.in-Some-Now.layout = search rules in (
      λ book. never_both c.in-Some-Now.layout (sym book.schema ∙ has),
      λ k book.
          let told : c.in-Ok.version ≡ Some version_now = (c.in-Ok.ensures.is k clean book.schema version_now).1 book.version in
          let none : ⊥ = search rules in absurd none,
      λ k bare. bare_or_now k c.in-Some-Now.layout (sym bare.schema ∙ has),
    )

pub returns-in-Err-clause-store : goal.returns-in-Err-clause-store
returns-in-Err-clause-store g c clean none told =
    let has : c.args.conn.now.schema ≡ book_schema c.in-Some-Now.layout = search rules in
    grind (arith, ints, nat_tests)

pub returns-in-Ok-run-2-clause-taken : goal.returns-in-Ok-run-2-clause-taken
returns-in-Ok-run-2-clause-taken g c clean =
    let l = c.in-Some-Bare.layout in
    let has : c.args.conn.now.schema ≡ bare_schema l = search rules in
    let is = c.is_bare_book.ensures.is l in
    let looked : HasCleanDisk (state g.S.Store c.is_bare_book.new.conn) → IsLook c.is_bare_book.result (state g.S.Store c.args.conn.now) (state g.S.Store c.is_bare_book.new.conn) = λ was. c.is_bare_book.ensures.look was (inr (inr (l, has))) in
    search rules

pub returns-in-Ok-run-2-clause-listed : goal.returns-in-Ok-run-2-clause-listed
returns-in-Ok-run-2-clause-listed g c clean =
    let l = c.in-Some-Bare.layout in
    let has : c.args.conn.now.schema ≡ bare_schema l = search rules in
    let is = c.is_bare_book.ensures.is l in
    let looked : HasCleanDisk (state g.S.Store c.is_bare_book.new.conn) → IsLook c.is_bare_book.result (state g.S.Store c.args.conn.now) (state g.S.Store c.is_bare_book.new.conn) = λ was. c.is_bare_book.ensures.look was (inr (inr (l, has))) in
    search rules

pub returns-in-Ok-run-2-clause-crash : goal.returns-in-Ok-run-2-clause-crash
returns-in-Ok-run-2-clause-crash g c =
    let l = c.in-Some-Bare.layout in
    let has : c.args.conn.now.schema ≡ bare_schema l = search rules in
    let was = state g.S.Store c.args.conn.now in
    let mid = state g.S.Store c.is_bare_book.new.conn in
    let new = state g.S.Store c.run-in-Ok-true-is_bare_book.new.conn in
    let is = c.is_bare_book.ensures.is l in
    let looked : HasCleanDisk mid → IsLook c.is_bare_book.result was mid = λ clean. c.is_bare_book.ensures.look clean (inr (inr (l, has))) in
    left_in_extending l was mid new (λ clean. search rules) (λ clean. search rules) c.is_bare_book.ensures.crash
    c.run-in-Ok-true-is_bare_book.ensures.crash

pub returns-in-Err-run-2-clause-store : goal.returns-in-Err-run-2-clause-store
returns-in-Err-run-2-clause-store g c clean none bare told =
    let l = c.in-Some-Bare.layout in
    let has : c.args.conn.now.schema ≡ bare_schema l = search rules in
    let not = bare l in
    let is = c.is_bare_book.ensures.is l in
    search rules

pub returns-in-Err-run-2-clause-crash : goal.returns-in-Err-run-2-clause-crash
returns-in-Err-run-2-clause-crash g c =
    let l = c.in-Some-Bare.layout in
    let has : c.args.conn.now.schema ≡ bare_schema l = search rules in
    let was = state g.S.Store c.args.conn.now in
    let mid = state g.S.Store c.is_bare_book.new.conn in
    let new = state g.S.Store c.run-in-Ok-true-is_bare_book.new.conn in
    let is = c.is_bare_book.ensures.is l in
    let looked : HasCleanDisk mid → IsLook c.is_bare_book.result was mid = λ clean. c.is_bare_book.ensures.look clean (inr (inr (l, has))) in
    left_in_extending l was mid new (λ clean. search rules) (λ clean. search rules) c.is_bare_book.ensures.crash
    c.run-in-Ok-true-is_bare_book.ensures.crash

pub returns-in-Err-is_bare_book-clause-store : goal.returns-in-Err-is_bare_book-clause-store
returns-in-Err-is_bare_book-clause-store g c clean none bare told =
    let l = c.in-Some-Bare.layout in
    let has : c.args.conn.now.schema ≡ bare_schema l = search rules in
    let looked = c.is_bare_book.ensures.look clean (inr (inr (l, has))) in
    search rules
