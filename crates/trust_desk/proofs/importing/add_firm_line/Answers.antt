use Rattle.trust_desk.proofs.Names.{err_from_is_err_and}
use Rattle.trust_desk.proofs.Beside.{firm_line-unwritten, firm_line-written}
use Rattle.trust_desk.proofs.importing.add_firm_line.Goals as goal

pub returns : goal.returns
returns g c =
    firm_line-written c.args.day c.args.line.now c.args.ledger c.decide_firm_line-verdict.result c.counted_by.result c.ledger_with.result c.decide_firm_line-verdict.ensures c.counted_by.ensures c.ledger_with.ensures c.in_ok-write_firm.ensures.written

pub returns-in_err-write_firm : goal.returns-in_err-write_firm
returns-in_err-write_firm g c =
    let p = err_from_is_err_and c.from_residual.result c.from_residual.ensures.1 in
    rw (p.1, p.2, c.requires)
    (firm_line-unwritten c.args.day c.args.line.now c.args.ledger c.decide_firm_line-verdict.result c.in_err-write_firm.field-0.0 c.decide_firm_line-verdict.ensures c.in_err-write_firm.ensures.written)
