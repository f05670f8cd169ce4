use Rattle.trust_store.proofs.Names.{◌≡◌, ◌++◌, drop, headed, joined}
use Rattle.trust_store.proofs.plain.headed_among.Given as goal

-- what was found, and what is left
abbrev pub invariant-loop-k : goal.invariant-loop-k
invariant-loop-k l = l.numbers.items ++ headed (joined (drop l.k-index l.kept)) ≡ headed (joined l.kept)
