use Rattle.trust_store.proofs.Names.{◌≡◌, ℕ, subst, rules, answers_always, seek}
use Rattle.trust_store.proofs.Search.{searched}
use Rattle.trust_store.proofs.plain.matter_place.Goals as goal

-- the closure gives a matter's number
pub returns : goal.returns
returns c =
    let facts = c.binary_search_by_key.ensures in
    let by_key = facts.position (λ k. k.number) (answers_always _ _ _ (λ f a r g called. search rules)) in
    subst (λ (m : ℕ). c.binary_search_by_key.result ≡ seek m c.args.kept.now) c.get.ensures.value (searched c.get.result c.args.kept.now c.requires c.binary_search_by_key.result facts.bound by_key)
