use Rattle.trust_base.proofs.CivilDayFacts.{civil_day-bound}
use Rattle.trust_reports.proofs.page.push_last_day.Goals as goal

pub day_bytes-requires : goal.day_bytes-requires
day_bytes-requires c = civil_day-bound _ c.get.ensures.range
