use Rattle.std.proofs.Common.{◌≡◌, drop}
use Rattle.std.specs.List.{list_any}
use Rattle.trust_reports.specs.TextsOfActs.{may_be_of}
use Rattle.trust_reports.proofs.approvals.is_unread.Given as goal

-- none so far
abbrev pub invariant-loop-named : goal.invariant-loop-named
invariant-loop-named l = list_any (may_be_of l.matter) (drop l.named-index l.unread) ≡ list_any (may_be_of l.matter) l.unread
