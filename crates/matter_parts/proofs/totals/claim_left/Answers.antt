use Rattle.matter_parts.proofs.Names.{ap, ◌∙◌, is_general_claim, left_if}
use Rattle.matter_parts.proofs.Telling.{left-held}
use Rattle.matter_parts.proofs.totals.claim_left.Goals as goal

pub returns-in_err-kept : goal.returns-in_err-kept
returns-in_err-kept c =
    rw c.from_residual.ensures (λ rows p. ap (left_if is_general_claim) c.in_err-kept.ensures.is ∙ left-held is_general_claim c.args.matter.now rows c.args.number p c.requires)

pub returns : goal.returns
returns c = λ rows p. c.left_if_claim.ensures ∙ ap (left_if is_general_claim) c.in_ok-kept.ensures.is ∙ left-held is_general_claim c.args.matter.now rows c.args.number p c.requires
