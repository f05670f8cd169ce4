use Rattle.sql_rows.proofs.Names.{rules, arith, ints}
use Rattle.std.specs.Prelude.{Err}
use Rattle.trust_base.specs.declared.refusal.StoreFault.TheVariants.{Store}
use Rattle.sql_tables.specs.Given.{entry_given}
use Rattle.sql_rows.proofs.EntryColumns.{reads_deposit, reads_payment, reads_fee, reads_claim, reads_none}
use Rattle.sql_rows.proofs.entry.entry_of_kind.Goals as goal

pub returns-in-1 : goal.returns-in-1
returns-in-1 c = reads_deposit (entry_given c.args.columns) _ _ _ (search rules) c.deposit_in.ensures

pub returns-in-2 : goal.returns-in-2
returns-in-2 c = reads_payment (entry_given c.args.columns) _ _ _ (search rules) c.payment_in.ensures

pub returns-in-3 : goal.returns-in-3
returns-in-3 c = reads_fee (entry_given c.args.columns) _ _ _ (search rules) c.fee_in.ensures

pub returns-in-4 : goal.returns-in-4
returns-in-4 c = reads_claim (entry_given c.args.columns) _ _ _ (search rules) c.claim_in.ensures

pub returns-in_default : goal.returns-in_default
returns-in_default c =
    reads_none (entry_given c.args.columns) c.args.book c.args.amount (Err Store) (λ e. omega (arith, ints, e))
    (λ e. omega (arith, ints, e)) (λ e. omega (arith, ints, e)) (λ e. omega (arith, ints, e))
