use Rattle.firm_rows.proofs.FirmChanges.{line-fits}
use Rattle.firm_rows.proofs.OwnLines.{firm_line-fits, balance-fits}
use Rattle.firm_rows.proofs.laws.verdicts_fit.Goals as goal

pub returns-clause-line : goal.returns-clause-line
returns-clause-line c = line-fits

pub returns-clause-firm_line : goal.returns-clause-firm_line
returns-clause-firm_line c = firm_line-fits

pub returns-clause-balance : goal.returns-clause-balance
returns-clause-balance c = balance-fits
