use Rattle.firm_figures.proofs.Names.{◌<◌, sym, ap, ◌∙◌, arith, rules, Some, nat_lt, IsPartitionPoint-from_clause, IsPartitionedBy-ltb, BalanceRow}
use Rattle.firm_figures.proofs.LatestClosing.{latest-none, latest-at}
use Rattle.firm_figures.proofs.day_lists.latest_before.Goals as goal

pub returns-then-passed-eq0 : goal.returns-then-passed-eq0
returns-then-passed-eq0 c = λ are.
    let parted = IsPartitionedBy-ltb (λ (r : BalanceRow). r.day) c.args.closings.now c.args.day are.rising in
    let point = IsPartitionPoint-from_clause (λ (r : BalanceRow). nat_lt r.day c.args.day) c.args.closings.now _ c.partition_point-passed.ensures.partitioned parted (λ a r q k. search rules) in
    sym (latest-none c.args.day c.args.closings.now (λ k d h. point.1 k d (omega (arith, c.if-passed-eq0.true)) h))

pub returns : goal.returns
returns c = λ are.
    let parted = IsPartitionedBy-ltb (λ (r : BalanceRow). r.day) c.args.closings.now c.args.day are.rising in
    let point = IsPartitionPoint-from_clause (λ (r : BalanceRow). nat_lt r.day c.args.day) c.args.closings.now _ c.partition_point-passed.ensures.partitioned parted (λ a r q k. search rules) in
    let some : 0 < c.partition_point-passed.result = omega (arith, c.if-passed-eq0.false) in
    let d = c.index-closings-passed.result in
    ap (λ (r : BalanceRow). Some r) c.index-closings-passed.is
    ∙ sym (latest-at c.args.day c.args.closings.now c.partition_point-passed.result d are.closings some (omega (arith, c.partition_point-passed.ensures.bound)) (λ k h. point.0 k d (omega arith) h) (λ k h l. point.1 k d h l))
