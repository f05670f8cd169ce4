use Rattle.firm_audit.proofs.Names.{◌≡◌, map, take}
use Rattle.firm_audit.proofs.PutBehind.{own_of}
use Rattle.firm_audit.proofs.grouped.acts_by_matter.Given as goal

abbrev pub invariant-loop-act : goal.invariant-loop-act
invariant-loop-act l = map (λ g. g.items) l.groups.items ≡ own_of l.matters (take l.act-index l.acts)
