use Rattle.figure_laws.proofs.PurgedClients.{no_client-left}
use Rattle.figure_laws.proofs.Clients.{clients-agree}
use Rattle.firm_figures.proofs.OneMatter.{as_of-least}
use Rattle.figure_laws.proofs.LedgersMoved.{as_of-moved}
use Rattle.figure_laws.proofs.laws.clients_agree.Goals as goal

pub returns-clause-agree : goal.returns-clause-agree
returns-clause-agree c = clients-agree c.sound_is_covered.ensures

pub returns-clause-covered : goal.returns-clause-covered
returns-clause-covered c = as_of-least

pub returns-clause-moved : goal.returns-clause-moved
returns-clause-moved c = as_of-moved

pub returns-clause-purged : goal.returns-clause-purged
returns-clause-purged c = no_client-left c.sound_is_covered.ensures
