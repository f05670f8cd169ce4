use Rattle.command_line.proofs.Names.{sym, subst, words_of, IsFront, Front}
use Rattle.command_line.proofs.AdviceFacts.{front-fits}
use Rattle.command_line.proofs.faults.front_of.Goals as goal

pub returns : goal.returns
returns c = subst (λ (f : Front). IsFront (words_of c.args.words.now) f) (sym c.front_by.ensures) (front-fits _ _ c.failure_of.ensures.none c.failure_of.ensures.some)
