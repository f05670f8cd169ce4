use Rattle.firm_audit.proofs.Names.{inr, ◌≡◌, arith, nat_tests, ints, rows_kept, moved_sum}
use Rattle.firm_audit.proofs.matter_journal.adds_up.Goals as goal

pub returns-clause-sum : goal.returns-clause-sum
returns-clause-sum c = λ h.
    let told = c.balances-told.ensures (rows_kept c.args.kept.now.matter) c.requires.sound c.requires.whole.part in
    let sum : c.in-Some.sum ≡ moved_sum c.args.own.now = c.in-Some.ensures.sum in
    grind (arith, ints, nat_tests, told.total, told.held, sum)

pub returns-clause-flaw : goal.returns-clause-flaw
returns-clause-flaw c = λ differs. inr (λ same.
    let told = c.balances-told.ensures (rows_kept c.args.kept.now.matter) c.requires.sound c.requires.whole.part in
    let sum : c.in-Some.sum ≡ moved_sum c.args.own.now = c.in-Some.ensures.sum in
    grind (arith, ints, nat_tests, told.total, told.held, sum, same, differs))
