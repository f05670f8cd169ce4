use Rattle.json_bodies.proofs.bodies.write_claim.Goals as goal
use Rattle.json_bodies.proofs.bodies.write_claim.Goals.{in-Open, in-Offered, in-Settled}

pub returns-clause-tokens : goal.returns-clause-tokens
returns-clause-tokens c =
    let told = rw (c.get.ensures.value, c.label_or_null.ensures, c.claimant.ensures, c.claim_left.ensures, c.entry_or_null.ensures, c.claimed_fee.ensures, c.ground_name.ensures, c.label.ensures, c.day_or_null.ensures, c.cents_or_null.ensures) at c.write_object.ensures.tokens in
    elim c.match-claim.branch [
      | in-Open w ↦ rw w.in-Open.is (rw w.part-is at told)
      | in-Offered w ↦ rw w.in-Offered.is (rw w.part-is at told)
      | in-Settled w ↦ rw w.in-Settled.is (rw w.part-is at told)
    ]
