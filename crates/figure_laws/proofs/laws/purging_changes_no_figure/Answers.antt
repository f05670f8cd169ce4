use Rattle.figure_laws.proofs.PurgedFigures.{purge-changes-no_figure}
use Rattle.figure_laws.proofs.PurgedPeriods.{no_figure-left, no_list-left}
use Rattle.figure_laws.proofs.PurgedLists.{purge-changes-no_list}
use Rattle.figure_laws.proofs.laws.purging_changes_no_figure.Goals as goal

pub returns-clause-figures : goal.returns-clause-figures
returns-clause-figures c = purge-changes-no_figure c.sound_is_covered.ensures

pub returns-clause-lists : goal.returns-clause-lists
returns-clause-lists c = purge-changes-no_list c.sound_is_covered.ensures

pub returns-clause-figures_left : goal.returns-clause-figures_left
returns-clause-figures_left c = no_figure-left c.sound_is_covered.ensures

pub returns-clause-lists_left : goal.returns-clause-lists_left
returns-clause-lists_left c = no_list-left c.sound_is_covered.ensures
