use Rattle.matter_parts.proofs.Telling.{balances-of}
use Rattle.matter_parts.proofs.totals.balances.Goals as goal

pub returns : goal.returns
returns c = λ rows s p. balances-of c.args.matter.now rows c.figures-figures.result s p c.figures-figures.ensures.is
