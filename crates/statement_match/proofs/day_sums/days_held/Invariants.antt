use Rattle.statement_match.proofs.Names.{◌≡◌, take, held_days}
use Rattle.statement_match.proofs.day_sums.days_held.Given as goal

abbrev pub invariant-loop-entry : goal.invariant-loop-entry
invariant-loop-entry l = l.days.items ≡ held_days (take l.entry-index l.entries)
