use Rattle.sql_rows.proofs.Names.{◌≡◌, pos, arith, ints, rules, sym, ◌∙◌, nat_tests}
use Rattle.std.proofs.lemmas.Grind.{common_steps}
use Rattle.sql_tables.specs.Given.{entry_given}
use Rattle.sql_rows.proofs.EntryColumns.{kept_has, same_columns, same_kept}
use Rattle.sql_rows.proofs.Faults.{at_any_error}
use Rattle.sql_rows.proofs.entry.entry_of.Goals as goal

pub returns-in_err-entry-clause-back : goal.returns-in_err-entry-clause-back
returns-in_err-entry-clause-back c k kept is =
    let row = entry_given c.args.columns in
    let dated : pos c.in_ok-book.book ≡ c.args.columns.day = grind (arith, common_steps) in
    let amounts : pos c.in_ok-amount.amount ≡ c.args.columns.amount = grind (arith, common_steps) in
    let has = kept_has c.args.matter c.in_ok-book.book c.in_ok-amount.amount k row is dated amounts in
    let read = c.in_err-entry.ensures k.entry kept.form has in
    grind (arith, ints, nat_tests, read)

pub returns-then-not-are_same-clause-back : goal.returns-then-not-are_same-clause-back
returns-then-not-are_same-clause-back c k kept is =
    let row = entry_given c.args.columns in
    let dated : pos c.in_ok-book.book ≡ c.args.columns.day = grind (arith, common_steps) in
    let amounts : pos c.in_ok-amount.amount ≡ c.args.columns.amount = grind (arith, common_steps) in
    let has = kept_has c.args.matter c.in_ok-book.book c.in_ok-amount.amount k row is dated amounts in
    let numbered : pos c.in_ok-number.number ≡ c.args.columns.no = grind (arith, common_steps) in
    let lefts : pos c.in_ok-left.left ≡ c.args.columns.left_now = grind (arith, common_steps) in
    let same = c.in_ok-entry.ensures k.entry kept.form has in
    grind (arith, ints, nat_tests, same_columns)

pub returns-in_err-entry-clause-memory : goal.returns-in_err-entry-clause-memory
returns-in_err-entry-clause-memory c =
    let of_matter : c.args.columns.matter ≡ pos c.args.matter = grind (arith, common_steps) in
    let numbered : pos c.in_ok-number.number ≡ c.args.columns.no = grind (arith, common_steps) in
    let lefts : pos c.in_ok-left.left ≡ c.args.columns.left_now = grind (arith, common_steps) in
    let dated : pos c.in_ok-book.book ≡ c.args.columns.day = grind (arith, common_steps) in
    let amounts : pos c.in_ok-amount.amount ≡ c.args.columns.amount = grind (arith, common_steps) in
    at_any_error c.from_residual-in_err-entry.result (record {
      of_matter = of_matter;
      number = (c.in_ok-number.number, (search rules, numbered));
      left = (c.in_ok-left.left, (c.in_ok-left.ensures.most, lefts));
      dated = (c.in_ok-book.book, (c.in_ok-book.ensures.form, dated));
      amounts = (c.in_ok-amount.amount, (c.in_ok-amount.ensures.form, amounts));
    })

pub returns-clause-ok : goal.returns-clause-ok
returns-clause-ok c = sym c.entry_columns-written.ensures ∙ c.are_same.ensures.0 c.if-not-are_same.false

pub returns-clause-back : goal.returns-clause-back
returns-clause-back c k kept is =
    let row = entry_given c.args.columns in
    let dated : pos c.in_ok-book.book ≡ c.args.columns.day = grind (arith, common_steps) in
    let amounts : pos c.in_ok-amount.amount ≡ c.args.columns.amount = grind (arith, common_steps) in
    let has = kept_has c.args.matter c.in_ok-book.book c.in_ok-amount.amount k row is dated amounts in
    let numbered : pos c.in_ok-number.number ≡ c.args.columns.no = grind (arith, common_steps) in
    let lefts : pos c.in_ok-left.left ≡ c.args.columns.left_now = grind (arith, common_steps) in
    same_kept c.args.matter _ _ _ k row is numbered lefts (c.in_ok-entry.ensures k.entry kept.form has)
