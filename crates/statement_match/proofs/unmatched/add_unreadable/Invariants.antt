use Rattle.statement_match.proofs.Names.{◌≡◌, ◌++◌, ◌-◌, told_unreadable}
use Rattle.statement_match.proofs.unmatched.add_unreadable.Given as goal

abbrev pub invariant-loop-number : goal.invariant-loop-number
invariant-loop-number l =
    l.fn.records.items ++ told_unreadable l.before (l.last - l.before)
    ≡ l.records.items ++ told_unreadable l.number (l.last - l.number)
