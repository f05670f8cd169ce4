use Rattle.firm_audit.proofs.Names.{◌≡◌, ◌↔◌, ℕ, suc, ◌+◌, List, drop, Some, None, refl, sym, ◌∙◌, subst, arith, false≢true, slice_get, events_of, nth_moved, as_movement, Movement, event_of, is_of_entry, events_moved}
use Rattle.firm_audit.proofs.Fronts.{next, ended, none-left, some-left, goes-on, left-out, differs}
use Rattle.firm_audit.proofs.event.is_moved.Goals as goal
use Rattle.firm_audit.proofs.event.is_moved.Goals.{then-is_of_entry+else-not-is_event, else-is_of_entry}

pub loop-movement-init : goal.loop-movement-init
loop-movement-init c = record { few = omega arith; rest = (λ h. h, λ h. h) }

pub loop-movement-preserved : goal.loop-movement-preserved
loop-movement-preserved c =
    let so = c.loop-movement.invariant in
    let place = c.loop-movement.place in
    let m = c.args.matter in
    let n = c.args.number in
    let v = c.movement-item.result in
    let rest = drop (c.loop-movement.movement-index + 1) c.args.movements.now in
    let told = events_of c.args.entry.now in
    let all = events_moved m n c.args.movements.now ≡ told in
    let along = next (λ (vs : List Movement). events_moved m n vs ≡ drop place told) all c.args.movements.now c.loop-movement.movement-index v c.loop-movement-test.true c.movement-item.is so.rest in
    elim c.if-is_of_entry.branch [
      | then-is_of_entry+else-not-is_event w ↦
          let after : suc place ≡ c.if-is_of_entry.place = omega (arith, w.place-is) in
          let at : slice_get told place ≡ Some (event_of v) = w.is_event.ensures.0 w.if-not-is_event.false in
          record {
            few = omega (arith, so.few, w.place-is);
            rest = subst (λ (i : ℕ). (events_moved m n rest ≡ drop i told) ↔ all) after
                (goes-on (λ v. is_of_entry m n v.owner) v rest told place all along (sym c.is_of_entry.ensures ∙ w.if-is_of_entry.true) at);
          }
      | else-is_of_entry w ↦ record {
        few = omega (arith, so.few, w.place-is);
        rest = subst (λ (i : ℕ). (events_moved m n rest ≡ drop i told) ↔ all) (sym w.place-is)
            (left-out (λ v. is_of_entry m n v.owner) v rest told place all along (sym c.is_of_entry.ensures ∙ w.if-is_of_entry.false));
      }
    ]

pub returns-then-not-is_event : goal.returns-then-not-is_event
returns-then-not-is_event c =
    let place = c.loop-movement.place in
    let m = c.args.matter in
    let n = c.args.number in
    let v = c.movement-item.result in
    let rest = drop (c.loop-movement.movement-index + 1) c.args.movements.now in
    let told = events_of c.args.entry.now in
    let all = events_moved m n c.args.movements.now ≡ told in
    let along = next (λ (vs : List Movement). events_moved m n vs ≡ drop place told) all c.args.movements.now c.loop-movement.movement-index v c.loop-movement-test.true c.movement-item.is c.loop-movement.invariant.rest in (
      λ h. absurd (false≢true h),
      λ q. absurd (differs (λ v. is_of_entry m n v.owner) v rest told place all along (sym c.is_of_entry.ensures ∙ c.if-is_of_entry.true)
          (λ at. false≢true (sym c.if-not-is_event.true ∙ c.is_event.ensures.1 at)) q),
    )

pub returns-in-None : goal.returns-in-None
returns-in-None c =
    let m = c.args.matter in
    let n = c.args.number in
    let place = c.loop-movement.place in
    let told = events_of c.args.entry.now in
    let none : nth_moved n place told ≡ None = sym c.in-None.ensures in
    let both = ended (λ (vs : List Movement). events_moved m n vs ≡ drop place told) (events_moved m n c.args.movements.now ≡ told) c.args.movements.now c.loop-movement.movement-index c.loop-movement-test.false c.loop-movement.invariant.rest in
    (λ _. both.0 (sym (none-left (as_movement n) told place none)), λ _. refl)

pub returns-in-Some : goal.returns-in-Some
returns-in-Some c =
    let m = c.args.matter in
    let n = c.args.number in
    let place = c.loop-movement.place in
    let told = events_of c.args.entry.now in
    let both = ended (λ (vs : List Movement). events_moved m n vs ≡ drop place told) (events_moved m n c.args.movements.now ≡ told) c.args.movements.now c.loop-movement.movement-index c.loop-movement-test.false c.loop-movement.invariant.rest in
    (λ h. absurd (false≢true h), λ q. absurd (some-left (as_movement n) told place _ (sym c.in-Some.ensures) (both.1 q)))
