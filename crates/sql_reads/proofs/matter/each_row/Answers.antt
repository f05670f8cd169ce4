use Rattle.sql_reads.proofs.Names.{rules, ◌≡◌, ◌+◌, find, option_map, arith, sym, ap, subst, ◌∙◌, pos, Result, IsErr, to_z, w64, ints, state, Database, HasCleanDisk, StoreFault, LeavesAll, leaves_then, Layout, Stands, lists_in, firm_in, heads_in, is_past, StandsSound, begun, AreCounted, AreHanded, IsRowInRange, numbered_from, rows_at}
use Rattle.sql_reads.proofs.Going.{goes_from, goes_then, left_at_err}
use Rattle.sql_reads.proofs.Shown.{Next, next_of, none_of}
use Rattle.sql_reads.proofs.Walk.{at_end, at_start, matter_stopped, reached, refused, stopped}
use Rattle.sql_reads.proofs.matter.each_row.Given.{Over}
use Rattle.sql_reads.proofs.matter.each_row.Goals.{After-hand_matter}
use Rattle.sql_reads.proofs.matter.each_row.Goals as goal

pub matters-init : goal.matters-init
matters-init g c = record {
  mode = c.refuse_least.ensures.mode;
  on = goes_then _ _ _ _ _ c.in_ok-refuse_least.was (goes_from _) c.refuse_least.ensures.left;
  few = omega arith;
  reached = λ y clean stands. at_start _ _ stands.rows _ (omega (arith, ints)) _;
}

pub returns-in_err-refuse_least-clause-handed : goal.returns-in_err-refuse_least-clause-handed
returns-in_err-refuse_least-clause-handed g c l clean stands =
    refused _ _ stands.rows _ c.from_residual.ensures.0 _ _ (_, begun _ _ _)

-- No head is behind the last.

pub returns-in_default-clause-handed : goal.returns-in_default-clause-handed
returns-in_default-clause-handed g c l clean stands =
    let clean1 = c.next_head.ensures.left.was_clean clean in
    let same = c.matters.invariant.on.now clean1 in
    let none = none_of _ (sym c.in_default.is
    ∙ c.in_ok-next.ensures.found l clean (subst (Stands l) (sym same) stands.tables)
    ∙ ap (λ (db : Database). option_map numbered_from (find (is_past (to_z w64 c.matters.after-bits)) (heads_in l db.trees))) same) in
    at_end _ _ stands.rows _ _ _ _ (c.matters.invariant.reached l clean1 stands) none c.matters.invariant.few

-- The rows of the next matter were passed, or some of them.

-- the head is that of the next matter
next_in : (g : Over) (c : After-hand_matter g) (l : Layout) → HasCleanDisk (state g.S.Store c.next_head.new.conn)
    → StandsSound l (state g.S.Store c.args.conn.now).now
    → Next (is_past (to_z w64 c.matters.after-bits)) (lists_in l (state g.S.Store c.args.conn.now).now.trees).heads
    c.in-Some.next
next_in g c l clean stands =
    let same = c.matters.invariant.on.now (c.next_head.ensures.left.was_clean clean) in
    next_of _ _ _ (sym c.in-Some.is
    ∙ c.in_ok-next.ensures.found l clean (subst (Stands l) (sym same) stands.tables)
    ∙ ap (λ (db : Database). option_map numbered_from (find (is_past (to_z w64 c.matters.after-bits)) (heads_in l db.trees))) same)

rows_in : (g : Over) (c : After-hand_matter g) (l : Layout) → HasCleanDisk (state g.S.Store c.hand_matter.new.conn)
    → StandsSound l (state g.S.Store c.args.conn.now).now
    → AreCounted g.K.MatterRowSink.taken
    (rows_at (lists_in l (state g.S.Store c.args.conn.now).now.trees) c.in-Some.next)
    c.hand_matter.result c.matters.sink c.hand_matter.new.sink
rows_in g c l clean stands =
    let on = goes_then _ _ _ _ _ c.in_ok-next.was c.matters.invariant.on c.next_head.ensures.left in
    let same = on.now (c.hand_matter.ensures.left.was_clean clean) in
    subst (λ (db : Database). AreCounted g.K.MatterRowSink.taken (rows_at (lists_in l db.trees) c.in-Some.next)
    c.hand_matter.result c.matters.sink c.hand_matter.new.sink) same
    (c.hand_matter.ensures.handed l clean (subst (Stands l) (sym same) stands.tables))

-- at an error
stopped_in : (g : Over) (c : After-hand_matter g) {r : Result (Unit {0}) StoreFault} → IsErr r
    → ((l : Layout) → HasCleanDisk (state g.S.Store c.hand_matter.new.conn)
    → StandsSound l (state g.S.Store c.args.conn.now).now
    → AreHanded g.K.MatterRowSink.taken IsRowInRange (firm_in l (state g.S.Store c.args.conn.now).now.trees).rows r
    c.args.sink.now c.hand_matter.new.sink)
    × LeavesAll r (state g.S.Store c.args.conn.now) (state g.S.Store c.hand_matter.new.conn)
stopped_in g c is = (
  λ l clean stands.
      let clean1 = c.hand_matter.ensures.left.was_clean clean in
      let so_far = c.matters.invariant.reached l (c.next_head.ensures.left.was_clean clean1) stands in
      refused _ _ stands.rows _ is _ _
      (matter_stopped _ _ stands.rows _ _ _ _ so_far _ (next_in g c l clean1 stands) _ (rows_in g c l clean stands).some),
  left_at_err _ _ _ _ is
      (leaves_then _ _ _ _ _ (leaves_then _ _ _ _ _ c.matters.invariant.on.left c.next_head.ensures.left)
      c.hand_matter.ensures.left),
)

pub returns-in_err-next : goal.returns-in_err-next
returns-in_err-next g c = record {
  mode = c.next_head.ensures.mode;
  handed = λ l clean stands.
      let so_far = c.matters.invariant.reached l (c.next_head.ensures.left.was_clean clean) stands in
      refused _ _ stands.rows _ c.from_residual-in_err-next.ensures.0 _ _ (stopped _ _ stands.rows _ _ _ _ so_far);
  left =
      left_at_err _ _ _ _ c.from_residual-in_err-next.ensures.0
      (leaves_then _ _ _ _ _ c.matters.invariant.on.left c.next_head.ensures.left);
}

pub returns-in_err-rows : goal.returns-in_err-rows
returns-in_err-rows g c =
    let both = stopped_in g (goal.at.returns-in_err-rows g c).After-hand_matter
    c.from_residual-in_err-rows.ensures.0 in
    record { mode = c.hand_matter.ensures.mode; handed = both.0; left = both.1 }

pub returns-in_err-count : goal.returns-in_err-count
returns-in_err-count g c =
    let both = stopped_in g (goal.at.returns-in_err-count g c).After-hand_matter
    c.from_residual-in_err-count.ensures.0 in
    record { mode = c.hand_matter.ensures.mode; handed = both.0; left = both.1 }

pub matters-preserved : goal.matters-preserved
matters-preserved g c =
    let it = (goal.at.matters-preserved g c).After-hand_matter in
    let on = goes_then _ _ _ _ _ c.in_ok-next.was c.matters.invariant.on c.next_head.ensures.left in
    let total : c.in_ok-count.count ≡ c.matters.count + c.in_ok-rows.rows = search rules in
    let number : to_z w64 c.get-after.result ≡ pos c.in-Some.next.0 = search rules in
    record {
      mode = c.hand_matter.ensures.mode;
      on = goes_then _ _ _ _ _ c.in_ok-rows.was on c.hand_matter.ensures.left;
      few = search (rules, arith);
      reached = λ y clean stands.
          let clean1 = c.hand_matter.ensures.left.was_clean clean in
          let so_far = c.matters.invariant.reached y (c.next_head.ensures.left.was_clean clean1) stands in
          let rows = rw c.in_ok-rows.was at (rows_in g it y clean stands) in
          reached _ _ stands.rows _ _ _ _ so_far _ (next_in g it y clean1 stands) _ rows.all c.in_ok-rows.rows
          c.in_ok-count.count rows.count total _ number;
    }
