use Rattle.figure_laws.proofs.Listing.{lists-kept}
use Rattle.figure_laws.proofs.laws.lister_keeps_lists.Goals as goal

pub returns : goal.returns
returns c = lists-kept
