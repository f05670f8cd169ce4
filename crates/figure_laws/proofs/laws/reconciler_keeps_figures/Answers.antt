use Rattle.figure_laws.proofs.Reconciling.{figures-kept}
use Rattle.figure_laws.proofs.FigureSizes.{figures-fit, figures-told}
use Rattle.figure_laws.proofs.laws.reconciler_keeps_figures.Goals as goal

pub returns-clause-kept : goal.returns-clause-kept
returns-clause-kept c = figures-kept

pub returns-clause-fit : goal.returns-clause-fit
returns-clause-fit c = figures-fit

pub returns-clause-told : goal.returns-clause-told
returns-clause-told c = figures-told
