use Rattle.statement_match.proofs.Names.{dedup_is, Contains-dedup_nat, Contains-from_dedup, Contains-permutation, IsPermutation-sym, IsStrictlyIncreasing-dedup}
use Rattle.statement_match.proofs.day_sums.put_in_order.Goals as goal

pub returns : goal.returns
returns c =
    let is = dedup_is _ _ _ c.dedup.ensures.filtered in
    let moved = c.sort_unstable.ensures.permutation in
    record {
      rises = rw is (IsStrictlyIncreasing-dedup _ c.sort_unstable.ensures.sorted);
      keeps = λ day there. rw is (Contains-dedup_nat _ day (Contains-permutation _ _ day moved there));
      adds_none = λ day there.
          Contains-permutation _ _ day (IsPermutation-sym _ _ moved) (Contains-from_dedup _ _ day (rw is at there));
    }
