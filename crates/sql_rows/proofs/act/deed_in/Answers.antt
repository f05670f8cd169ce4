use Rattle.sql_rows.proofs.Names.{◌≡◌, sym, ◌∙◌, rules, arith, ints, nat_tests}
use Rattle.std.proofs.lemmas.Slice.Eq.{bytes_eq-Decides}
use Rattle.sql_rows.specs.Meaning.{deed_from}
use Rattle.sql_rows.proofs.Acts.{deed_of_columns}
use Rattle.sql_rows.proofs.act.deed_in.Goals as goal
use Rattle.sql_rows.proofs.act.deed_in.Goals.{then-ne-via-then-ne, then-ne-via-else-ne+then-counted-number}

-- what was read is the deed of these columns, so none of them is left over
pub returns-then-ne-clause-back : goal.returns-then-ne-clause-back
returns-then-ne-clause-back c d is code text number =
    let read : c.in_ok-deed.deed ≡ deed_from c.args.code c.args.text.now c.args.number = search rules in
    let same : c.in_ok-deed.deed ≡ d = read ∙ sym (deed_of_columns d _ _ _ code text number) in
    elim c.then-ne.branch [
      | then-ne-via-then-ne w ↦ grind (arith, ints, nat_tests, bytes_eq-Decides)
      | then-ne-via-else-ne+then-counted-number w ↦ grind (arith, ints, nat_tests)
    ]
