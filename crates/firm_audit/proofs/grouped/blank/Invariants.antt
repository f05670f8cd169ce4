use Rattle.firm_audit.proofs.Names.{◌≡◌, [], map, take}
use Rattle.trust_store.specs.declared.plain.KeptMatter.{KeptMatter}
use Rattle.firm_audit.proofs.grouped.blank.Given as goal

abbrev pub invariant-loop-matter : goal.invariant-loop-matter
invariant-loop-matter l = map (λ g. g.items) l.groups.items ≡ map (λ (k : KeptMatter). []) (take l._matter-index l.matters)
