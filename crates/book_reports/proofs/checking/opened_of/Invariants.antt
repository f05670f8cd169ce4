use Rattle.std.proofs.Common.{◌≡◌, ◌+◌, ◌≤◌, drop}
use Rattle.trust_store.specs.Kept.{joined}
use Rattle.book_reports.specs.Checking.{matter_count}
use Rattle.book_reports.proofs.checking.opened_of.Given as goal

abbrev pub invariant-loop-kept : goal.invariant-loop-kept
invariant-loop-kept l = record {
  few : l.count ≤ l.kept-index;
  rest : l.count + matter_count (joined (drop l.kept-index l.matters)) ≡ matter_count (joined l.matters);
}
