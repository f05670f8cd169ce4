use Rattle.std.proofs.Common.{ap}
use Rattle.trail_laws.specs.Dossier.{Dossier}
use Rattle.trust_desk.proofs.Own.{each-own}
use Rattle.trust_desk.proofs.OwnDossiers.{keeps-others}
use Rattle.desk_trail.proofs.laws.acts_are_own.Goals as goal

pub returns : goal.returns
returns c = record {
  own = λ m day firm hs replies new fine run. ap (λ (p : Dossier). p.acts) (each-own m day firm hs replies new fine run).dossier;
  others = λ m day firm new h reply other step. ap (λ (p : Dossier). p.acts) (keeps-others day firm new h reply step m other);
}
