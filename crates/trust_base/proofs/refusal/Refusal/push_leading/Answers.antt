use Rattle.trust_base.proofs.Names.{arith}
use Rattle.trust_values.proofs.DayFacts.{day-bounds}
use Rattle.trust_values.proofs.CivilDayFacts.{civil_day-bound}
use Rattle.trust_base.proofs.refusal.Refusal.push_leading.Goals as goal

pub day_bytes-requires : goal.day_bytes-requires
day_bytes-requires c = let (low, high) = day-bounds _ c.get.ensures.range in omega arith

pub day_bytes-requires-in-TooEarly : goal.day_bytes-requires-in-TooEarly
day_bytes-requires-in-TooEarly c = civil_day-bound _ c.get-in-TooEarly.ensures.range
