use Rattle.statement_csv.proofs.Names.{◌≡◌, length, arith, rules, item_by, named, entry_named, owner_of, ints, nat_tests}
use Rattle.std.proofs.lemmas.Grind.{common_steps}
use Rattle.statement_csv.specs.References as owner
use Rattle.statement_csv.proofs.item.item_of_line.Goals as goal

pub returns-then-reference-ne12 : goal.returns-then-reference-ne12
unfolding owner_of entry_named
returns-then-reference-ne12 c =
    let line = c.args.line in
    let who : owner_of line.reference ≡ owner.Nobody =
    first_of (search rules, grind (arith, common_steps)) in
    grind (arith, ints, nat_tests, length, item_by)

pub returns-in-Some-Some : goal.returns-in-Some-Some
unfolding owner_of entry_named
returns-in-Some-Some c =
    let line = c.args.line in
    let who : owner_of line.reference ≡ owner.Entry (named c.in-Some-Some.matter c.in-Some-Some.entry) =
    first_of (search rules, grind (arith, common_steps)) in
    grind (arith, ints, nat_tests, length, item_by)

pub returns-in_default : goal.returns-in_default
unfolding owner_of entry_named
returns-in_default c =
    let line = c.args.line in
    let who : owner_of line.reference ≡ owner.Nobody =
    first_of (search rules, grind (arith, common_steps)) in
    grind (arith, ints, nat_tests, length, item_by)
