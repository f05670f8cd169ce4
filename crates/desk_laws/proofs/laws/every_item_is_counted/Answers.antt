-- Each item of a statement is counted, once.
use Rattle.desk_laws.proofs.Names.{◌≡◌, ℕ, ◌+◌, List, [], ◌∷◌, length, arith, ◌∙◌, Firm, Item, ImportReply, Counted, after_item, counted_of, none_counted, count_item, counts_after, count_sum, ints, nat_tests}
use Rattle.desk_laws.proofs.laws.every_item_is_counted.Goals as goal

sum-one : (it : Item) (k : Counted) (c : ImportReply) → count_sum (count_item it k c) ≡ count_sum c + 1
sum-one it k c = grind (arith, ints, nat_tests)

sum-after : (day : ℕ) (firm : Firm) (items : List Item) (c : ImportReply) → count_sum (counts_after day firm items c) ≡ count_sum c + length items
sum-after day firm [] c = omega arith
sum-after day firm (it ∷ items) c =
    let kind = counted_of day firm it in
    let one = sum-one it kind c in
    sum-after day (after_item day firm it) items (count_item it kind c) ∙ omega (arith, one)

pub returns : goal.returns
returns c = λ day firm items. let sum = sum-after day firm items none_counted in omega (arith, sum)
