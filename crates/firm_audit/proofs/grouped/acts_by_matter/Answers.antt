use Rattle.firm_audit.proofs.Names.{[], ◌∷◌, ◌++◌, map, ap, sym, ◌∙◌}
use Rattle.matter_rows.specs.declared.act.Act.{Act}
use Rattle.firm_audit.proofs.PutBehind.{passed-over, put-in}
use Rattle.firm_audit.proofs.grouped.acts_by_matter.Goals as goal
use Rattle.firm_audit.proofs.grouped.acts_by_matter.Goals.{in-Ok+in_ok-copied-in-Ok+in_ok-push-in-Ok, in-Err}

pub loop-act-preserved : goal.loop-act-preserved
loop-act-preserved c =
    let ks = c.args.matters.now in
    let acts = c.args.acts.now in
    let i = c.loop-act.act-index in
    let a = c.act-item.result in
    elim c.match-matter_place.branch [
      | in-Ok+in_ok-copied-in-Ok+in_ok-push-in-Ok w ↦
          let old = w.index_mut.result.now in
          let new_is =
          w.in_ok-push-in-Ok.ensures.items
          ∙ ap (λ (act : Act). old.items ++ act ∷ []) w.in_ok-copied-in-Ok.ensures in
          ap (λ groups. map (λ g. g.items) groups.items) w.groups-is
          ∙ put-in (λ g. g.items) c.loop-act.groups.items ks acts i w.in-Ok.place a old w.push.new.self c.requires
          c.loop-act-test.true c.act-item.is (sym w.in-Ok.is ∙ c.matter_place.ensures) c.loop-act.invariant
          w.index_mut.ensures.value new_is
      | in-Err w ↦
          ap (λ groups. map (λ g. g.items) groups.items) w.groups-is
          ∙ (c.loop-act.invariant
          ∙ passed-over ks acts i w.in-Err.field-0 a c.requires c.loop-act-test.true c.act-item.is
          (sym w.in-Err.is ∙ c.matter_place.ensures))
    ]
