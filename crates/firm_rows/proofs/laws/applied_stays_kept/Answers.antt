use Rattle.firm_rows.proofs.LinesStay.{line-kept, lines-stay, balance-kept, balances-stay}
use Rattle.firm_rows.proofs.laws.applied_stays_kept.Goals as goal

pub returns-clause-firm_line : goal.returns-clause-firm_line
returns-clause-firm_line c = line-kept

pub returns-clause-firm_lines : goal.returns-clause-firm_lines
returns-clause-firm_lines c = lines-stay

pub returns-clause-balance : goal.returns-clause-balance
returns-clause-balance c = balance-kept

pub returns-clause-balances : goal.returns-clause-balances
returns-clause-balances c = balances-stay
