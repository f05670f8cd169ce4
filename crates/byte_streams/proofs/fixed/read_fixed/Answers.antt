use Rattle.byte_streams.proofs.Names.{refl, arith, add-one, pow-suc, fixed_digits, ints, nat_tests}
use Rattle.byte_streams.proofs.FixedFacts.{fixed-step, not-fixed, below-power, digit-more}
use Rattle.byte_streams.proofs.fixed.read_fixed.Goals as goal
use Rattle.byte_streams.proofs.fixed.read_fixed.Goals.{then-digit-lt48-via-then-digit-lt48}

pub loop-digit-init : goal.loop-digit-init
unfolding fixed_digits
loop-digit-init c = record { below = omega arith; text = refl }

pub returns-then-digit-lt48-clause-none : goal.returns-then-digit-lt48-clause-none
returns-then-digit-lt48-clause-none c n e =
    grind (arith, ints, nat_tests, then-digit-lt48-via-then-digit-lt48, not-fixed)

pub overflow_mul-value : goal.overflow_mul-value
overflow_mul-value c = let room = below-power c.loop-digit.digit-index c.loop-digit.value (omega arith) c.loop-digit.invariant.below in omega arith

pub overflow_add-value : goal.overflow_add-value
overflow_add-value c = let room = below-power c.loop-digit.digit-index c.loop-digit.value (omega arith) c.loop-digit.invariant.below in omega arith

pub loop-digit-preserved : goal.loop-digit-preserved
loop-digit-preserved c =
    let power = pow-suc 10 c.loop-digit.digit-index in
    grind (arith, ints, nat_tests, add-one, fixed-step, digit-more)
