use Rattle.firm_audit.proofs.Names.{◌≡◌, List, cond, refl, ◌∙◌, ap, subst, IsKeptWhole, KeptMatter, slice_get_read, ◌+◌, ◌-◌}
use Rattle.std.specs.Prelude.{min, not, ◌&&◌, ◌^◌}
use Rattle.matter_rows.specs.declared.act.Act.{Act}
use Rattle.matter_rows.specs.Rows.{is_gone}
use Rattle.trail_laws.specs.Signed.{begins_with_opening}
use Rattle.firm_audit.specs.Trails.{IsMatterFlawed, IsMatterTrail, IsTrailOf, acts_among, dossier_kept, is_earlier_matter}
use Rattle.firm_audit.specs.declared.trail.TrailCounts.{TrailCounts}
use Rattle.firm_audit.specs.declared.trail.TrailFound.{TrailFound}
use Rattle.firm_audit.specs.declared.trail.TrailFound.TheVariants as found
use Rattle.firm_audit.proofs.Counted.{matter-more}
use Rattle.firm_audit.proofs.Fronts.{all-first, all-next}
use Rattle.firm_audit.proofs.PutBehind.{own-at}
use Rattle.firm_audit.proofs.trail.matters_found.Goals as goal

pub returns-in-Flawed : goal.returns-in-Flawed
returns-in-Flawed c =
    let ks = c.args.matters.now in
    let acts = c.args.acts.now in
    let place = c.loop-place.place in
    let k = c.index-matters-place.result in
    let counts = c.loop-place.counts in
    let counted : TrailCounts =
    record { approved = counts.approved; earlier = counts.earlier; matters = c.one_more.result } in
    let own_is =
    own-at (λ g. g.items) c.in_ok-groups.groups.items ks acts place c.index-own.result.now k c.loop-place.invariant.groups
    c.loop-place-test.true c.index-matters-place.is c.index-own.ensures in
    record {
      index = place;
      kept = k;
      there = slice_get_read ks _ place k refl c.loop-place-test.true c.index-matters-place.is;
      flawed =
          subst (λ (own : List Act). IsMatterFlawed k own c.in-Flawed.flaw) (c.deref-in-loop-place.ensures.value ∙ own_is)
          (subst (λ (told : TrailFound). IsMatterTrail k c.deref-in-loop-place.result.now counted told) c.in-Flawed.is
          c.in_ok-more.ensures);
    }

pub loop-place-preserved : goal.loop-place-preserved
loop-place-preserved c =
    let ks = c.args.matters.now in
    let acts = c.args.acts.now in
    let place = c.loop-place.place in
    let k = c.index-matters-place.result in
    let counts = c.loop-place.counts in
    let more = c.in-Fits.more in
    let counted : TrailCounts =
    record { approved = counts.approved; earlier = counts.earlier; matters = c.one_more.result } in
    let own_is =
    own-at (λ g. g.items) c.in_ok-groups.groups.items ks acts place c.index-own.result.now k c.loop-place.invariant.groups
    c.loop-place-test.true c.index-matters-place.is c.index-own.ensures in
    let gone : c.is_gone-is_there.result ≡ is_gone k.matter.head = c.is_gone-is_there.ensures in
    let begins : c.begins_with_opening.result ≡ begins_with_opening (acts_among k.number acts) =
    c.begins_with_opening.ensures ∙ ap begins_with_opening (c.deref.ensures.value ∙ own_is) in
    let one : counted.matters ≡ min (counts.matters + cond (is_earlier_matter (acts_among k.number acts) k.matter.head) 1 0) (2 ^ 64 - 1) =
    c.one_more.ensures ∙ (λ i. min (counts.matters + cond (not (gone i) && not (begins i)) 1 0) (2 ^ 64 - 1)) in
    let so : IsMatterTrail k (acts_among k.number acts) counted (found.Fits more) =
    subst (λ (own : List Act). IsMatterTrail k own counted (found.Fits more)) (c.deref-in-loop-place.ensures.value ∙ own_is)
    (subst (λ (told : TrailFound). IsMatterTrail k c.deref-in-loop-place.result.now counted told) c.in-Fits.is c.in_ok-more.ensures) in
    record {
      groups = c.loop-place.invariant.groups;
      whole = (all-first IsKeptWhole ks place k c.loop-place-test.true c.index-matters-place.is c.loop-place.invariant.whole).1;
      rest = λ rest. c.loop-place.invariant.rest
          (all-next (λ (x : KeptMatter). IsTrailOf x.number (dossier_kept x (acts_among x.number acts))) ks place k c.loop-place-test.true c.index-matters-place.is so.0 rest);
      counted = matter-more acts ks place k counts counted more c.loop-place-test.true c.index-matters-place.is refl refl one c.loop-place.invariant.counted so.1;
    }
