use Rattle.std.proofs.Common.{◌≡◌, ◌≤◌, ◌+◌, ◌-◌, ◌^◌, min, drop}
use Rattle.trust_store.specs.Kept.{joined}
use Rattle.book_reports.specs.Checking.{entry_count}
use Rattle.book_reports.proofs.checking.entries_of.Given as goal

abbrev pub invariant-loop-kept : goal.invariant-loop-kept
invariant-loop-kept l = record {
  small : l.count ≤ 2 ^ 64 - 1;
  rest : min (l.count + entry_count (joined (drop l.kept-index l.matters))) (2 ^ 64 - 1)
      ≡ min (entry_count (joined l.matters)) (2 ^ 64 - 1);
}
