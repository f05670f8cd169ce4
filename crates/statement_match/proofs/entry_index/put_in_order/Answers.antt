use Rattle.statement_match.proofs.Names.{dedup_is, Contains-dedup_nat, Contains-permutation, IsStrictlyIncreasing-dedup}
use Rattle.statement_match.proofs.entry_index.put_in_order.Goals as goal

pub returns : goal.returns
returns c =
    let is = dedup_is _ _ _ c.dedup.ensures.filtered in
    record {
      rises = rw is (IsStrictlyIncreasing-dedup _ c.sort_unstable.ensures.sorted);
      keeps = λ place there. rw is
          (Contains-dedup_nat _ place (Contains-permutation _ _ place c.sort_unstable.ensures.permutation there));
    }
