use Rattle.json_bodies.proofs.bodies.write_entry.Goals as goal

pub returns-in-Deposit-clause-tokens : goal.returns-in-Deposit-clause-tokens
returns-in-Deposit-clause-tokens c = rw c.in-Deposit.is c.write_deposit.ensures.tokens

pub returns-in-Payment-clause-tokens : goal.returns-in-Payment-clause-tokens
returns-in-Payment-clause-tokens c = rw c.in-Payment.is c.write_payment.ensures.tokens
