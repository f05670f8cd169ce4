use Rattle.trust_reports.proofs.Cards.{whole-card}
use Rattle.trust_reports.proofs.laws.whole_card_is_of_rows.Goals as goal

pub returns : goal.returns
returns c = whole-card
