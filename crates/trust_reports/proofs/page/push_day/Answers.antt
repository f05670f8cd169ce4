use Rattle.trust_reports.proofs.Names.{arith}
use Rattle.trust_base.proofs.DayFacts.{day-bounds}
use Rattle.trust_reports.proofs.page.push_day.Goals as goal

pub day_bytes-requires : goal.day_bytes-requires
day_bytes-requires c = let (low, high) = day-bounds c.get.result c.get.ensures.range in omega arith
