use Rattle.portal_requests.proofs.PathFacts.{named-by_path}
use Rattle.portal_requests.proofs.laws.named_by_path.Goals as goal

pub returns : goal.returns
returns c = named-by_path
