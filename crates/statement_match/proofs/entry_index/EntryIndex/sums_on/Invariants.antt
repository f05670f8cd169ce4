use Rattle.statement_match.proofs.Names.{◌≡◌, take, day_sums}
use Rattle.statement_match.proofs.entry_index.EntryIndex.sums_on.Given as goal

abbrev pub invariant-loop-day : goal.invariant-loop-day
invariant-loop-day l = l.sums.items ≡ day_sums l.self (take l.day-index l.days)
