use Rattle.trust_matter.proofs.Names.{arith, rules, common_steps}
use Rattle.trust_matter.proofs.StepForms.{claim-changes}
use Rattle.trust_matter.proofs.claim.decide_claim.Goals as goal

pub returns-in_err-check_change-clause-answer : goal.returns-in_err-check_change-clause-answer
returns-in_err-check_change-clause-answer c = grind (arith, rules, common_steps, claim-changes)
