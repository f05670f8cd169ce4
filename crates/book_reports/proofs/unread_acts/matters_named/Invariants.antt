use Rattle.std.proofs.Common.{◌≡◌, map, take}
use Rattle.trust_store.specs.declared.unread_act.UnreadAct.{UnreadAct}
use Rattle.book_reports.proofs.unread_acts.matters_named.Given as goal

-- those of the rows so far
abbrev pub invariant-loop-row : goal.invariant-loop-row
invariant-loop-row l = l.matters.items ≡ map (λ (row : UnreadAct). row.matter) (take l.row-index l.unread)
