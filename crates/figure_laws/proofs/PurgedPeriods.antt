-- Days whose records are whole after a purge.
use Rattle.figure_laws.proofs.Names.{Covered, PurgeChangesNoFigureLeft, PurgeChangesNoListLeft}
use Rattle.trust_matter.specs.edit.Edit.TheVariants as edit
use Rattle.firm_figures.proofs.ClosedBy.{closed-left}
use Rattle.figure_laws.proofs.PurgedFigures.{purge-changes-no_figure}
use Rattle.figure_laws.proofs.PurgedLists.{purge-changes-no_list}

pub no_figure-left : Covered → PurgeChangesNoFigureLeft
no_figure-left law p m change firm sound purge whole = purge-changes-no_figure law p m change firm sound (closed-left p m change firm purge whole) purge

pub no_list-left : Covered → PurgeChangesNoListLeft
no_list-left law p m change firm sound purge whole = purge-changes-no_list law p m change firm sound (closed-left p m change firm purge whole) purge
