use Rattle.firm_audit.proofs.Strays.{stray-of, among-of}
use Rattle.firm_audit.proofs.journal.journal_flaw.Goals as goal

pub returns-in-Some-clause-flaw : goal.returns-in-Some-clause-flaw
returns-in-Some-clause-flaw c = λ own exceptions balances.
    stray-of c.args.matters.now c.args.movements.now own exceptions balances c.requires c.in-Some.place c.in-Some.ensures.some

pub returns-clause-flaw : goal.returns-clause-flaw
returns-clause-flaw c = λ own exceptions balances.
    among-of c.args.matters.now c.args.movements.now own exceptions balances c.requires c.first_flaw.result c.first_flaw.ensures.flaw
