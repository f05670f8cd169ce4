use Rattle.matter_parts.proofs.Names.{ap, ◌∙◌, is_fee, left_if}
use Rattle.matter_parts.proofs.Telling.{left-held}
use Rattle.matter_parts.proofs.totals.fee_left.Goals as goal

pub returns-in_err-kept : goal.returns-in_err-kept
returns-in_err-kept c =
    rw c.from_residual.ensures (λ rows p. ap (left_if is_fee) c.in_err-kept.ensures.is ∙ left-held is_fee c.args.matter.now rows c.args.number p c.requires)

pub returns : goal.returns
returns c = λ rows p. c.left_if_fee.ensures ∙ ap (left_if is_fee) c.in_ok-kept.ensures.is ∙ left-held is_fee c.args.matter.now rows c.args.number p c.requires
