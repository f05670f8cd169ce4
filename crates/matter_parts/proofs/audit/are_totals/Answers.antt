use Rattle.matter_parts.proofs.Names.{arith, false≢true, ints, fees-by_share, claims-by_share, fees, claims}
use Rattle.matter_parts.proofs.audit.are_totals.Goals as goal

pub returns-then-not-are_counts : goal.returns-then-not-are_counts
returns-then-not-are_counts c = grind (arith, ints, false≢true)

pub returns : goal.returns
returns c =
    let sums = c.sums_of-sums.ensures in
    let counts = c.are_counts.ensures.0 c.if-not-are_counts.false in
    let fees = fees-by_share c.args.entries.now c.requires.named in
    let claims = claims-by_share c.args.entries.now c.requires.named in
    grind (arith, ints)
