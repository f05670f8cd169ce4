use Rattle.firm_audit.proofs.Names.{refl, sym, ◌∙◌, slice_get_read}
use Rattle.firm_audit.specs.Trails.{IsAmong}
use Rattle.firm_audit.proofs.FirmTrails.{acts-there, found-among, missing-alone}
use Rattle.firm_audit.proofs.Fronts.{all-next}
use Rattle.firm_audit.proofs.trail.unowned.Goals as goal

pub returns-in-Err-clause-some : goal.returns-in-Err-clause-some
returns-in-Err-clause-some c =
    let acts = c.args.acts.now in
    let act = c.act-item.result in
    missing-alone act.matter c.in-Err.field-0 c.args.matters.now acts (sym c.in-Err.is ∙ c.matter_place.ensures)
    (acts-there acts c.loop-act.act-index act (slice_get_read acts _ c.loop-act.act-index act refl c.loop-act-test.true c.act-item.is))

pub loop-act-preserved : goal.loop-act-preserved
loop-act-preserved c rest =
    let ks = c.args.matters.now in
    let act = c.act-item.result in
    let among : IsAmong ks act.matter = found-among act.matter c.in-Ok.field-0 ks (sym c.in-Ok.is ∙ c.matter_place.ensures) in
    c.loop-act.invariant
    (all-next (λ a. IsAmong ks a.matter) c.args.acts.now c.loop-act.act-index act c.loop-act-test.true c.act-item.is among rest)
