use Rattle.sql_reads.proofs.Names.{rules, ◌≡◌, ◌≤◌, pos, Ok, IsOk, is_some, option_copied, slice_get, refl, sym, ap, subst, ◌∙◌, arith, IfOk-weaker, to_z, w64, state, Part, kept_in, of, IsPartFor, lists_in, firm_in, leaves_on, part_at, entry_read_selects}
use Rattle.sql_reads.proofs.Calls.{kept_by}
use Rattle.sql_reads.proofs.EntriesRead.{first_entry, no_entry}
use Rattle.sql_reads.proofs.Going.{all_then}
use Rattle.sql_reads.proofs.NamedEntries.{IsWanted, after_turn, also_absent, also_behind, also_held, also_none, held, none_for, numbered_at, read_for}
use Rattle.sql_reads.proofs.Shown.{entry_shown}
use Rattle.sql_reads.proofs.matter.matter_for.Given.{Over}
use Rattle.sql_reads.proofs.matter.matter_for.Goals.{Joined-turn, in-0, in-1, in-2, in_default-turn}
use Rattle.sql_reads.proofs.matter.matter_for.Goals as goal

pub rows_of-requires-clause-select : goal.rows_of-requires-clause-select
rows_of-requires-clause-select g c = entry_read_selects

pub returns-in_default-clause-found : goal.returns-in_default-clause-found
returns-in_default-clause-found g c l clean stands =
    none_for c.args.matter _ stands.rows (sym c.in_default.is ∙ c.in_ok-opened.ensures.head l clean stands.tables) _ _ _
    c.unopened.ensures

pub turns-init : goal.turns-init
turns-init g c = record {
  mode = c.head_and_seats.ensures.mode;
  clean = λ clean. clean;
  left =
      leaves_on c.head_and_seats.result _ _ _ (λ _. subst IsOk (sym c.in_ok-opened.was) refl)
      c.head_and_seats.ensures.left;
  kept = λ y clean stands n. ap (λ ks. kept_in ks n) c.new-kept.ensures.items;
}

-- what is wanted at a turn
wanted : (g : Over) (c : Joined-turn g)
    → IsWanted c.args.entry c.args.other c.turns.kept.items c.turns.turn c.match-turn.wanted
wanted g c = elim c.match-turn.branch [
  | in-0 w ↦ grind arith
  | in-1 w ↦ grind arith
  | in-2 w ↦ grind arith
  | in_default-turn w ↦ grind arith
]

pub turns-preserved-in_default-wanted : goal.turns-preserved-in_default-wanted
turns-preserved-in_default-wanted g c = record {
  mode = c.turns.invariant.mode;
  clean = c.turns.invariant.clean;
  left = c.turns.invariant.left;
  kept = λ y clean stands.
      after_turn (part_at c.args.matter (lists_in y (state g.S.Store c.args.conn.now).now.trees)) _ _ _ _ _ _
      (numbered_at _ _ stands.rows) (c.turns.invariant.kept y clean stands)
      (wanted g (goal.at.turns-preserved-in_default-wanted g c).Joined-turn)
      (also_none _ _ _ c.in_default-wanted.is);
}

pub turns-preserved-then-is_some : goal.turns-preserved-then-is_some
turns-preserved-then-is_some g c = record {
  mode = c.turns.invariant.mode;
  clean = c.turns.invariant.clean;
  left = c.turns.invariant.left;
  kept = λ y clean stands.
      let so_far = c.turns.invariant.kept y clean stands in
      let some = ap (λ ks. is_some (kept_in ks c.in-Some-wanted.number)) (sym c.deref-in-turns.ensures.value)
      ∙ sym (held _ _ c.found.ensures) ∙ sym c.is_some.ensures ∙ c.if-is_some.true in
      after_turn (part_at c.args.matter (lists_in y (state g.S.Store c.args.conn.now).now.trees)) _ _ _ _ _ _
      (numbered_at _ _ stands.rows) so_far (wanted g (goal.at.turns-preserved-then-is_some g c).Joined-turn)
      (also_held _ _ _ _ c.in-Some-wanted.is _ so_far some);
}

pub turns-preserved-in_default-first : goal.turns-preserved-in_default-first
turns-preserved-in_default-first g c =
    let left = c.rows_of.ensures.left in record {
      mode = c.rows_of.ensures.mode;
      clean = λ clean. c.turns.invariant.clean (left.was_clean clean);
      left = all_then _ _ _ _ _ c.in_ok-rows.was c.turns.invariant.left left;
      kept = λ y clean stands.
          let same = (kept_by _ _ (Ok tt) tt refl c.turns.invariant.left (left.was_clean clean)).now in
          let so_far = c.turns.invariant.kept y (left.was_clean clean) stands in
          after_turn (part_at c.args.matter (lists_in y (state g.S.Store c.args.conn.now).now.trees)) _ _ _ _ _ _
          (numbered_at _ _ stands.rows) so_far (wanted g (goal.at.turns-preserved-in_default-first g c).Joined-turn)
          (also_absent _ _ _ _ c.in-Some-wanted.is _ so_far
          (no_entry y _ stands _ _ same c.args.matter c.in-Some-wanted.number _ _ (search rules) (search rules) _
          (c.in_ok-rows.ensures.shown clean)
          (sym (ap (λ l. slice_get l 0) c.deref-in-turns-2.ensures.value) ∙ sym c.first.ensures.value
          ∙ ap option_copied c.in_default-first.is)));
    }

pub turns-preserved : goal.turns-preserved
turns-preserved g c =
    let left = c.rows_of.ensures.left in record {
      mode = c.rows_of.ensures.mode;
      clean = λ clean. c.turns.invariant.clean (left.was_clean clean);
      left = all_then _ _ _ _ _ c.in_ok-rows.was c.turns.invariant.left left;
      kept = λ y clean stands.
          let same = (kept_by _ _ (Ok tt) tt refl c.turns.invariant.left (left.was_clean clean)).now in
          let also : to_z w64 c.get-in-turns-2.result ≡ pos c.args.matter = search rules in
          let none = ap (λ ks. is_some (kept_in ks c.in-Some-wanted.number)) (sym c.deref-in-turns.ensures.value)
          ∙ sym (held _ _ c.found.ensures) ∙ sym c.is_some.ensures ∙ c.if-is_some.false in
          let so_far = c.turns.invariant.kept y (left.was_clean clean) stands in
          after_turn (part_at c.args.matter (lists_in y (state g.S.Store c.args.conn.now).now.trees)) _ _ _ _ _ _
          (numbered_at _ _ stands.rows) so_far (wanted g (goal.at.turns-preserved g c).Joined-turn)
          (also_behind _ _ _ _ c.in-Some-wanted.is _ none
          (first_entry y _ stands _ _ same c.args.matter c.in-Some-wanted.number _ _ (search rules) (search rules) _
          (c.in_ok-rows.ensures.shown clean) c.in-Some-first.row.now
          (sym (ap (λ l. slice_get l 0) c.deref-in-turns-2.ensures.value) ∙ sym c.first.ensures.value
          ∙ ap option_copied c.in-Some-first.is) _
          (entry_shown c.args.matter _ c.in_ok-entry_of.field-0 _ c.in-Some-first.row.now also
          c.in_ok-entry_of.ensures.ok c.in_ok-columns.ensures.ok)) _
          c.in_ok-push.ensures.items);
    }

pub returns-clause-found : goal.returns-clause-found
returns-clause-found g c l clean stands =
    let first = c.turns.invariant.clean clean in
    let over : 4 ≤ c.turns.turn = search rules in
    let four : c.turns.turn ≡ 4 = omega arith in
    let some = sym c.in-Some.is ∙ c.in_ok-opened.ensures.head l first stands.tables in
    let part = read_for c.args.matter _ stands.rows _ some _ (c.in_ok-opened.ensures.seats l first stands.tables)
    c.args.entry c.args.other _ ((rw four at (c.turns.invariant.kept l clean)) stands) in
    IfOk-weaker c.into_matter.result _ _
    (λ p is. subst (λ (q : Part). IsPartFor (of c.args.matter (firm_in l (state g.S.Store c.args.conn.now).now.trees))
    c.args.entry c.args.other q) (sym is) part) c.into_matter.ensures
