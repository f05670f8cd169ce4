use Rattle.figure_laws.proofs.ClientRows.{clients-kept}
use Rattle.figure_laws.proofs.ClientTotal.{total-kept}
use Rattle.figure_laws.proofs.laws.clients_are_kept.Goals as goal

pub returns-clause-lines : goal.returns-clause-lines
returns-clause-lines c = clients-kept

pub returns-clause-total : goal.returns-clause-total
returns-clause-total c = total-kept c.sound_is_covered.ensures
