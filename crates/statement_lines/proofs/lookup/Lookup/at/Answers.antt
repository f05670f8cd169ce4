use Rattle.statement_lines.proofs.Names.{◌≡◌, ◌∙◌, sym, ap, subst, true, false, ◌-◌, ◌≤◌, length, take, drop, rules, arith, nat_le, nat_lt, IsNonDecreasingBy, IsPartitionPoint, take_all, length-drop, IsNonDecreasingBy-drop, IsPartitionPoint-from_clause, IsPartitionedBy-leb, IsPartitionedBy-ltb}
use Rattle.statement_lines.proofs.Lookups.{between}
use Rattle.statement_lines.proofs.lookup.Lookup.at.Goals as goal

pub returns : goal.returns
returns g c =
    let xs = c.args.self.now.sorted.items in
    let key = c.args.key in
    let start = c.partition_point-start.result in
    let count = c.partition_point-count.result in
    let whole = c.deref-2.result.now in
    let rest = take (length whole - start) (drop start whole) in
    let is_whole : whole ≡ xs = c.deref-2.ensures.value in
    let is_rest : rest ≡ drop start xs =
    take_all (length whole - start) (drop start whole) (omega (arith, length-drop start whole)) ∙ ap (drop start) is_whole in
    let rising = c.args.self.now.rising in
    let low_parted = IsPartitionedBy-ltb (λ y. y.0) c.deref.result.now key
    (subst (IsNonDecreasingBy (λ y. y.0)) (sym c.deref.ensures.value) rising) in
    let low = IsPartitionPoint-from_clause (λ y. nat_lt y.0 key) c.deref.result.now start
    c.partition_point-start.ensures.partitioned low_parted (λ a r q k. search rules) in
    let high_parted = IsPartitionedBy-leb (λ y. y.0) rest key
    (subst (IsNonDecreasingBy (λ y. y.0)) (sym is_rest) (IsNonDecreasingBy-drop (λ y. y.0) start xs rising)) in
    let high = IsPartitionPoint-from_clause (λ y. nat_le y.0 key) rest count
    c.partition_point-count.ensures.partitioned high_parted (λ a r q k. search rules) in
    let in_list : start ≤ length xs = omega (arith, c.partition_point-start.ensures.bound, ap length c.deref.ensures.value) in
    let in_rest : count ≤ length (drop start xs) = omega (arith, c.partition_point-count.ensures.bound, ap length is_rest) in
    ap (take count) is_rest
    ∙ between xs key start count
    (subst (λ ys. IsPartitionPoint (λ y. nat_lt y.0 key ≡ true) (λ y. nat_lt y.0 key ≡ false) ys start) c.deref.ensures.value low)
    (subst (λ ys. IsPartitionPoint (λ y. nat_le y.0 key ≡ true) (λ y. nat_le y.0 key ≡ false) ys count) is_rest high)
    in_list in_rest
