use Rattle.firm_audit.proofs.Names.{◌≡◌, map, AllByRecursion, IsKeptWhole, drop, take}
use Rattle.firm_audit.specs.Trails.{AreCountedAll, IsTrailOf, acts_among, dossier_kept}
use Rattle.firm_audit.proofs.PutBehind.{own_of}
use Rattle.firm_audit.proofs.trail.matters_found.Given as goal

abbrev pub invariant-loop-place : goal.invariant-loop-place
invariant-loop-place l = record {
  groups : map (λ g. g.items) l.groups.items ≡ own_of l.matters l.acts;
  whole : AllByRecursion IsKeptWhole (drop l.place l.matters);
  rest : AllByRecursion (λ k. IsTrailOf k.number (dossier_kept k (acts_among k.number l.acts))) (drop l.place l.matters)
      → AllByRecursion (λ k. IsTrailOf k.number (dossier_kept k (acts_among k.number l.acts))) l.matters;
  counted : AreCountedAll (take l.place l.matters) l.acts l.counts;
}
