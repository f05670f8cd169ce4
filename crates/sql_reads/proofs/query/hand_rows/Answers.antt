use Rattle.sql_reads.proofs.Names.{ℕ, [], Ok, Err, Store, refl, not, rules, arith, ap, ◌∙◌, state, HasCleanDisk, survives_then, StoreFault}
use Rattle.sql_reads.proofs.Streams.{one_more, all_fed, some_fed, begun_select, select_survives, left_unchanged, left_later, left_refused, left_failed}
use Rattle.sql_reads.proofs.query.hand_rows.Goals as goal

pub returns-in-Err-clause-left : goal.returns-in-Err-clause-left
returns-in-Err-clause-left g c =
    let held = rw c.in-Err.is at c.query.follows.holds-at-none in
    let settled = c.is_autocommit-settled.ensures in
    left_refused _ _ _ _ c.in-Err.error _ c.requires.select (settled.settled (settled.value ∙ ap not c.requires.mode))
    held.survives held.err

pub rows-init : goal.rows-init
rows-init g c = record {
  same = refl;
  mode = c.in-Ok.ensures.mode c.requires.mode;
  survives = select_survives _ _ _ _ c.requires.select c.in-Ok.ensures.survives;
  gave = λ clean.
      let begun = begun_select g.S.Store _ _ c.args.conn.now _ c.requires.select (c.in-Ok.ensures.begun clean) in
      record { rows = []; gives = begun.0; same = begun.1; folded = refl; fit = tt; counted = refl };
}

pub rows-preserved : goal.rows-preserved
rows-preserved g c =
    let moved = c.next.follows.holds-at-none in
    let was = c.rows.invariant in record {
      same = moved.same_reference ∙ was.same;
      mode = moved.mode was.mode;
      survives =
          survives_then _ _ _ _ _ (λ _. ⊥) (λ _ db none. none) (λ _ db none. none) was.survives moved.survives;
      gave = λ clean.
          one_more _ _ _ _ _ _ _ _ _ _ _ _ _ (was.gave (omega (arith, clean, moved.survives.clean)))
          (rw (c.in-Ok-Some.is, c.in-Ok-Some.field-0-is) at (moved.ok clean)) (rw c.in-Ok-Some.is at (moved.same clean))
          c.in_ok-take.ensures.ok c.in_ok-take.ensures.fit;
    }

pub returns-in-Ok-None-clause-handed : goal.returns-in-Ok-None-clause-handed
returns-in-Ok-None-clause-handed g c clean =
    let moved = c.next.follows.holds-at-none in
    let late : HasCleanDisk (state g.S.Store c.next.follows.lender-at-none.conn.now) = search rules in
    let gave = c.rows.invariant.gave (omega (arith, late, moved.survives.clean)) in
    let fed = all_fed _ _ _ _ _ _ _ {E = StoreFault} _ c.next.follows.lender-at-none.conn.now _ _ c.requires.select
    gave (omega (arith, c.rows.auto)) (rw (c.in-Ok-None.is, c.in-Ok-None.field-0-is) at (moved.ok late)) in
    search rules

pub returns-in-Ok-None-clause-left : goal.returns-in-Ok-None-clause-left
returns-in-Ok-None-clause-left g c =
    let moved = c.next.follows.holds-at-none in
    let left = left_later {E = StoreFault} (Ok c.rows.count) _ _ _ c.rows.invariant.survives
    (λ clean. (c.rows.invariant.gave clean).same) moved.survives (λ clean. rw c.in-Ok-None.is at (moved.same clean)) in
    search rules

pub returns-in-Err-next-clause-handed : goal.returns-in-Err-next-clause-handed
returns-in-Err-next-clause-handed g c clean =
    let moved = c.next.follows.holds-at-none in
    let late : HasCleanDisk (state g.S.Store c.next.follows.lender-at-none.conn.now) = search rules in
    some_fed _ _ _ _ _ _ _ _ _ _ _ _ _ refl (c.rows.invariant.gave (omega (arith, late, moved.survives.clean))) refl

pub returns-in-Err-next-clause-left : goal.returns-in-Err-next-clause-left
returns-in-Err-next-clause-left g c =
    let moved = c.next.follows.holds-at-none in
    let settled = c.is_autocommit-settled.ensures in
    let left = left_failed {T = ℕ} c.in-Err-next.error c.fault_of-in-Err-next.result _ _ _
    (settled.settled (settled.value ∙ ap not c.requires.mode)) c.rows.invariant.survives
    (λ clean. (c.rows.invariant.gave clean).same) moved.survives (λ clean. rw c.in-Err-next.is at (moved.kept clean)) in
    search rules

pub returns-in_err-take-clause-handed : goal.returns-in_err-take-clause-handed
returns-in_err-take-clause-handed g c clean =
    let moved = c.next.follows.holds-at-none in
    let late : HasCleanDisk (state g.S.Store c.next.follows.lender-at-none.conn.now) = search rules in
    some_fed _ _ _ _ _ _ _ _ _ _ _ _ _ c.from_residual.ensures.0
    (c.rows.invariant.gave (omega (arith, late, moved.survives.clean))) c.in_err-take.ensures.err

pub returns-in_err-take-clause-left : goal.returns-in_err-take-clause-left
returns-in_err-take-clause-left g c =
    let moved = c.next.follows.holds-at-none in
    let left = left_later c.from_residual.result _ _ _ c.rows.invariant.survives
    (λ clean. (c.rows.invariant.gave clean).same) moved.survives (λ clean. rw c.in-Ok-Some.is at (moved.same clean)) in
    search rules

pub returns-clause-handed : goal.returns-clause-handed
returns-clause-handed g c clean =
    let late : HasCleanDisk (state g.S.Store c.rows.rows.conn.now) = search rules in
    some_fed _ _ _ _ _ _ _ _ _ _ _ _ _ refl (c.rows.invariant.gave late) refl

pub returns-clause-left : goal.returns-clause-left
returns-clause-left g c =
    let left = left_unchanged {T = ℕ} (Err Store) _ _ c.rows.invariant.survives
    (λ clean. (c.rows.invariant.gave clean).same) in
    search rules
