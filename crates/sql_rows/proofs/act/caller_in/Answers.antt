use Rattle.sql_rows.proofs.Names.{◌≡◌, true, sym, ap, ◌∙◌}
use Rattle.std.specs.Str.{bytes_eq}
use Rattle.trust_base.specs.Names.{cashier_text}
use Rattle.sql_rows.proofs.Acts.{is_cashier}
use Rattle.sql_rows.proofs.act.caller_in.Goals as goal

pub returns-then-eq-clause-back : goal.returns-then-eq-clause-back
returns-then-eq-clause-back c d is same =
    let called : bytes_eq c.args.column.now cashier_text ≡ true =
    ap (bytes_eq c.args.column.now) (sym c.as_slice.ensures) ∙ sym c.eq.ensures ∙ c.if-eq.true in
    sym (is_cashier d is (ap (λ text. bytes_eq text cashier_text) same ∙ called))
