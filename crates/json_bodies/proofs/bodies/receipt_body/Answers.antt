use Rattle.json_bodies.proofs.bodies.receipt_body.Goals as goal

pub returns-in-Deposit : goal.returns-in-Deposit
returns-in-Deposit c = rw c.in-Deposit.is (rw (c.get.ensures.value, c.label.ensures, c.label-in-Deposit.ensures) at c.object_text.ensures)

pub returns-in-Fee : goal.returns-in-Fee
returns-in-Fee c = rw c.in-Fee.is (rw (c.get-in-Fee.ensures.value, c.label-in-Fee.ensures) at c.object_text-in-Fee.ensures)
