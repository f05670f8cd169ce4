use Rattle.desk_trail.proofs.SignedRuns.{acts-are_allowed, later-payments_are_approved, older-firms_are_signed, payments-are_approved, runs-stay_signed}
use Rattle.desk_trail.proofs.laws.payments_are_signed.Goals as goal

pub returns : goal.returns
returns c = record {
  begins = older-firms_are_signed;
  runs = runs-stay_signed;
  allowed = acts-are_allowed;
  approved = payments-are_approved;
  later = later-payments_are_approved;
}
