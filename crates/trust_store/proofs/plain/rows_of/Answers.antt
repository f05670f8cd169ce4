use Rattle.trust_store.proofs.Names.{arith, ap, length}
use Rattle.trust_store.proofs.KeptMatters.{pairs-counted}
use Rattle.trust_store.proofs.plain.rows_of.Goals as goal

pub returns : goal.returns
returns c = λ number. omega (arith, pairs-counted number c.args.matter.now, c.head_count.ensures number, ap length c.seats.ensures, ap length c.kept.ensures)
