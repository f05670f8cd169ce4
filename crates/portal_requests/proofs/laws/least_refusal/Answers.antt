use Rattle.portal_requests.proofs.Least.{least-refusal}
use Rattle.portal_requests.proofs.laws.least_refusal.Goals as goal

pub returns : goal.returns
returns c = least-refusal
