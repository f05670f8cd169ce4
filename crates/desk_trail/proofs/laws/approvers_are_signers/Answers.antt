use Rattle.desk_trail.proofs.Approvers.{approvers-are_named, earlier-approvers_are_unknown, later-approvers_are_named}
use Rattle.desk_trail.proofs.ListedPayments.{issues-are_listed}
use Rattle.desk_trail.proofs.laws.approvers_are_signers.Goals as goal

pub returns : goal.returns
returns c = record {
  listed = issues-are_listed;
  named = approvers-are_named;
  later = later-approvers_are_named;
  earlier = earlier-approvers_are_unknown;
}
