use Rattle.firm_audit.proofs.Names.{ap, refl, ◌∙◌}
use Rattle.firm_audit.specs.Trails.{IsKeptApproved, has_day}
use Rattle.firm_audit.proofs.Counted.{entry-more, some-day}
use Rattle.firm_audit.proofs.FoundTrails.{approved-as}
use Rattle.firm_audit.proofs.Fronts.{all-next}
use Rattle.firm_audit.proofs.trail.entries_found.Goals as goal

pub loop-one-preserved : goal.loop-one-preserved
loop-one-preserved c =
    let kept = c.args.kept.now in
    let acts = c.args.acts.now in
    let place = c.loop-one.one-index in
    let one = c.one-item.result in
    let approved : IsKeptApproved acts one =
    approved-as c.begins_with_opening-is_whole.ensures (c.deref.ensures.value ∙ c.in_ok-days.ensures) c.issue_day-issued.ensures
    (c.is_approved.ensures.0 c.if-not-is_approved.false) in
    record {
      rest = λ rest. c.loop-one.invariant.rest
          (all-next (IsKeptApproved acts) kept place one c.loop-one-test.true c.one-item.is approved rest);
      counted =
          entry-more acts kept place one c.args.before c.loop-one.counts
          (record { approved = c.one_more.result; earlier = c.one_more-in-loop-one.result; matters = c.loop-one.counts.matters })
          c.is_some-is_issued.result c.has_approval-is_approved.result c.loop-one-test.true c.one-item.is
          (c.is_some-is_issued.ensures ∙ (some-day c.issue_day-issued.result ∙ ap has_day c.issue_day-issued.ensures))
          (c.has_approval-is_approved.ensures ∙ ap has_day (c.deref-in-loop-one.ensures.value ∙ c.in_ok-days.ensures))
          c.one_more.ensures c.one_more-in-loop-one.ensures refl c.loop-one.invariant.counted;
    }
