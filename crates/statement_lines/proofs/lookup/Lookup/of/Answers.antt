use Rattle.statement_lines.proofs.Names.{◌∙◌, ap, rules, IsNonDecreasingBy-from_sort_by_key, answers_always, length_permutation, elements}
use Rattle.statement_lines.proofs.Lookups.{kept_by_sort, looked_up}
use Rattle.statement_lines.proofs.lookup.Lookup.of.Goals as goal

pub invariant_of-result : goal.invariant_of-result
invariant_of-result g c = record {
  rising = IsNonDecreasingBy-from_sort_by_key (λ p. p.0) _ c.in_ok-sort_by_key.ensures.sorted (λ a r q k. search rules);
}

pub returns : goal.returns
returns g c = λ key says k.
    let keyed = c.in_ok-sorted.sorted.items in
    ap elements (kept_by_sort keyed c.sort_by_key.new.self.items
    (length_permutation _ _ c.in_ok-sort_by_key.ensures.permutation)
    (c.in_ok-sort_by_key.ensures.stable (λ p. p.0) (answers_always _ _ _ (λ f a r q k. search rules))) k)
    ∙ looked_up key c.args.items.now keyed (c.in_ok-sorted.ensures key says) k
