use Rattle.figure_laws.proofs.Lists.{journal-kept}
use Rattle.figure_laws.proofs.laws.journal_is_kept.Goals as goal

pub returns : goal.returns
returns c = journal-kept
