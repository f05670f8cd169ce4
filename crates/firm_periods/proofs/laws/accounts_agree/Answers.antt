use Rattle.firm_periods.proofs.Accounts.{closing-ledger, closing-next, opening-before, whole-account}
use Rattle.firm_periods.proofs.AccountsCovered.{accounts-covered}
use Rattle.firm_periods.proofs.AccountsInOrder.{entries-in-order}
use Rattle.firm_periods.proofs.laws.accounts_agree.Goals as goal

pub returns-clause-whole : goal.returns-clause-whole
returns-clause-whole c = whole-account

pub returns-clause-opening : goal.returns-clause-opening
returns-clause-opening c = opening-before

pub returns-clause-closing : goal.returns-clause-closing
returns-clause-closing c = closing-ledger

pub returns-clause-next : goal.returns-clause-next
returns-clause-next c = closing-next

pub returns-clause-order : goal.returns-clause-order
returns-clause-order c = entries-in-order

pub returns-clause-covered : goal.returns-clause-covered
returns-clause-covered c = accounts-covered
