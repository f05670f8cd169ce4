use Rattle.json_bodies.proofs.bodies.claim_receipt.Goals as goal

pub returns : goal.returns
returns c = rw (c.get.ensures.value, c.label_or_null.ensures, c.claimant.ensures, c.entry_or_null.ensures, c.claimed_fee.ensures, c.ground_name.ensures, c.label.ensures) at c.object_text.ensures
