use Rattle.trust_desk.proofs.Names.{ap, entry_at, is_whole, kept_at, matter_body, body_of, ledger_card, arith, ints, nat_tests}
use Rattle.trust_reports.proofs.Cards.{whole-card}
use Rattle.trust_desk.proofs.OfRows.{kept-made, kept-shown, none-there}
use Rattle.trust_desk.proofs.desk.body_after.Goals as goal

pub returns-in-OpenMatter : goal.returns-in-OpenMatter
returns-in-OpenMatter c = grind (arith, ints, nat_tests, matter_body, body_of)

pub returns-in-Purge : goal.returns-in-Purge
returns-in-Purge c = grind (arith, ints, nat_tests, body_of)

pub returns-in_ok-ledger_card-in-Accounting : goal.returns-in_ok-ledger_card-in-Accounting
returns-in_ok-ledger_card-in-Accounting c = grind (arith, ints, nat_tests, ledger_card, whole-card, body_of)

pub returns-in_ok-account_text-in-Account : goal.returns-in_ok-account_text-in-Account
returns-in_ok-account_text-in-Account c =
    λ rows sound is held whole.
    let all = whole (ap is_whole c.in-Account.is) in
    let same = c.whole_account_is_of_rows.ensures c.in-Account.period c.args.no c.args.matter.now rows all in
    grind (arith, ints, nat_tests, body_of)

pub returns-in-ShowEntries : goal.returns-in-ShowEntries
returns-in-ShowEntries c = grind (arith, ints, nat_tests, body_of)

pub returns-in-Some : goal.returns-in-Some
returns-in-Some c = grind (arith, ints, nat_tests, kept_at, entry_at, kept-shown)

pub returns-in-None : goal.returns-in-None
returns-in-None c = grind (arith, ints, nat_tests, kept_at, entry_at, none-there)

pub returns-in-Some-kept_under : goal.returns-in-Some-kept_under
returns-in-Some-kept_under c = grind (arith, ints, nat_tests, kept_at, entry_at, kept-made)

pub returns-in-None-kept_under : goal.returns-in-None-kept_under
returns-in-None-kept_under c = grind (arith, ints, nat_tests, kept_at, entry_at, none-there)
