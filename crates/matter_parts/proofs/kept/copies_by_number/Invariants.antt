use Rattle.matter_parts.proofs.Names.{filter, ◌≡◌, take, has_number}
use Rattle.matter_parts.proofs.kept.copies_by_number.Given as goal

abbrev pub invariant-loop-k : goal.invariant-loop-k
invariant-loop-k l = l.copies.items ≡ filter (λ k. has_number l.named k.number) (take l.k-index l.kept)
