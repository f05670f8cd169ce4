use Rattle.json_bodies.proofs.Names.{ap, ◌∙◌}
use Rattle.json_bodies.proofs.Waiting.{whole_left}
use Rattle.matter_parts.specs.Parts.{left_kept}
use Rattle.json_bodies.proofs.listed.left_under.Goals as goal

pub returns-in-Some : goal.returns-in-Some
returns-in-Some c = λ rows whole. ap left_kept c.in-Some.ensures.is ∙ whole_left c.args.matter.now rows c.args.number whole

pub returns-in-None : goal.returns-in-None
returns-in-None c = λ rows whole. ap left_kept c.in-None.ensures.is ∙ whole_left c.args.matter.now rows c.args.number whole
