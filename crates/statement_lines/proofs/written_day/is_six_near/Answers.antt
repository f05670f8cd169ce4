use Rattle.std.proofs.Common.{ap, arith, length}
use Rattle.byte_streams.proofs.FixedFacts.{length-fixed}
use Rattle.statement_lines.proofs.WrittenDays.{none_near}
use Rattle.statement_lines.proofs.written_day.is_six_near.Goals as goal

pub returns-in-None : goal.returns-in-None
returns-in-None c =
    none_near c.args.day c.args.token.now
    (λ n e. let long = length-fixed 8 n in let same = ap length e in absurd (omega arith))
    (λ n e. rw c.requires at (c.in-None.ensures.none n) e)
