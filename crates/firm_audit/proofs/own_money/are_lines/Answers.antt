use Rattle.firm_audit.proofs.Names.{◌≡◌, ◌↔◌, ℕ, suc, ◌+◌, ◌≤◌, List, length, drop, map, Some, sym, ◌∙◌, subst, arith, false≢true, nat_tests, length-map, slice_get, Movement, event_of, line_event, is_of_firm, firm_events}
use Rattle.firm_audit.proofs.Fronts.{next, ended, past-end, at-end, goes-on, left-out, differs}
use Rattle.firm_audit.proofs.own_money.are_lines.Goals as goal
use Rattle.firm_audit.proofs.own_money.are_lines.Goals.{then-is_own+else-not-is_line_at, else-is_own}

pub loop-movement-init : goal.loop-movement-init
loop-movement-init c = record { few = omega arith; rest = (λ h. h, λ h. h) }

pub loop-movement-preserved : goal.loop-movement-preserved
loop-movement-preserved c =
    let so = c.loop-movement.invariant in
    let place = c.loop-movement.place in
    let v = c.movement-item.result in
    let rest = drop (c.loop-movement.movement-index + 1) c.args.movements.now in
    let told = map line_event c.args.lines.now in
    let all = firm_events c.args.movements.now ≡ told in
    let along = next (λ (vs : List Movement). firm_events vs ≡ drop place told) all c.args.movements.now c.loop-movement.movement-index v c.loop-movement-test.true c.movement-item.is so.rest in
    elim c.if-is_own.branch [
      | then-is_own+else-not-is_line_at w ↦
          let after : suc place ≡ c.if-is_own.place = omega (arith, w.place-is) in
          let at : slice_get told place ≡ Some (event_of v) = w.is_line_at.ensures.0 w.if-not-is_line_at.false in
          record {
            few = omega (arith, so.few, w.place-is);
            rest = subst (λ (i : ℕ). (firm_events rest ≡ drop i told) ↔ all) after
                (goes-on (λ v. is_of_firm v.owner) v rest told place all along (sym c.is_own.ensures ∙ w.if-is_own.true) at);
          }
      | else-is_own w ↦ record {
        few = omega (arith, so.few, w.place-is);
        rest = subst (λ (i : ℕ). (firm_events rest ≡ drop i told) ↔ all) (sym w.place-is)
            (left-out (λ v. is_of_firm v.owner) v rest told place all along (sym c.is_own.ensures ∙ w.if-is_own.false));
      }
    ]

pub returns-then-not-is_line_at : goal.returns-then-not-is_line_at
returns-then-not-is_line_at c =
    let place = c.loop-movement.place in
    let v = c.movement-item.result in
    let rest = drop (c.loop-movement.movement-index + 1) c.args.movements.now in
    let told = map line_event c.args.lines.now in
    let all = firm_events c.args.movements.now ≡ told in
    let along = next (λ (vs : List Movement). firm_events vs ≡ drop place told) all c.args.movements.now c.loop-movement.movement-index v c.loop-movement-test.true c.movement-item.is c.loop-movement.invariant.rest in (
      λ h. absurd (false≢true h),
      λ q. absurd (differs (λ v. is_of_firm v.owner) v rest told place all along (sym c.is_own.ensures ∙ c.if-is_own.true)
          (λ at. false≢true (sym c.if-not-is_line_at.true ∙ c.is_line_at.ensures.1 at)) q),
    )

pub returns : goal.returns
returns c =
    let place = c.loop-movement.place in
    let lines = c.args.lines.now in
    let told = map line_event lines in
    let count : length told ≡ length lines = length-map lines line_event in
    let both = ended (λ (vs : List Movement). firm_events vs ≡ drop place told) (firm_events c.args.movements.now ≡ told) c.args.movements.now c.loop-movement.movement-index c.loop-movement-test.false c.loop-movement.invariant.rest in (
      λ long. both.0 (at-end told place (grind (arith, nat_tests, count))),
      λ q. let long : length told ≤ place = past-end told place (both.1 q) in grind (arith, nat_tests, count),
    )
