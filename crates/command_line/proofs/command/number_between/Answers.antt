use Rattle.command_line.proofs.Names.{arith, ◌∙◌, sym}
use Rattle.command_line.proofs.NumeralFacts.{never-unlike, reads-back, reads-same, shows-text}
use Rattle.command_line.proofs.command.number_between.Goals as goal
use Rattle.command_line.proofs.command.number_between.Goals.{else-eq-via-then-eq+then-least-number+else-number-most, else-eq-via-then-eq+else-least-number, else-eq-via-else-eq}

pub returns-in_default-clause-none : goal.returns-in_default-clause-none
returns-in_default-clause-none c = λ number is.
    let e = sym c.in_default.is ∙ reads-back _ _ _ number _ (omega (arith, c.ranges.most.fits)) is c.parse.ensures.value.0 in cc

pub returns-else-eq-clause-none : goal.returns-else-eq-clause-none
returns-else-eq-clause-none c = λ number is.
    let same = reads-same _ _ _ number c.in-Ok.number _ (omega (arith, c.ranges.most.fits)) is c.parse.ensures.value.0 c.in-Ok.is in
    elim c.else-eq.branch [
      | else-eq-via-then-eq+then-least-number+else-number-most w ↦ omega (arith, same, is.below, w.if-number-most.false)
      | else-eq-via-then-eq+else-least-number w ↦ omega (arith, same, is.above, w.if-least-number.false)
      | else-eq-via-else-eq w ↦ never-unlike _ _ w.if-eq.ensures (shows-text _ _ _ _ _ _ is same c.format.ensures.text)
    ]
