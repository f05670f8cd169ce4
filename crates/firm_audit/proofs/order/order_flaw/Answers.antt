use Rattle.firm_audit.proofs.Names.{rules, balance_cmp}
use Rattle.trust_base.specs.LineOrder.{line_cmp}
use Rattle.trust_base.proofs.LineFacts.{line_total}
use Rattle.firm_rows.proofs.Balances.{balance_total}
use Rattle.firm_audit.proofs.Ascending.{sorted}
use Rattle.firm_audit.proofs.order.order_flaw.Goals as goal

pub returns-in_err-place-clause-sound : goal.returns-in_err-place-clause-sound
returns-in_err-place-clause-sound c = search (rules, sorted, line_cmp, line_total, balance_cmp, balance_total)
