use Rattle.trust_store.proofs.Places.{nothing_kept}
use Rattle.trust_store.proofs.plain.PlainBook.new.Goals as goal

pub invariant_of-result : goal.invariant_of-result
invariant_of-result c = search (nothing_kept)
