use Rattle.trust_matter.proofs.Names.{◌≡◌, false, arith, rules, common_steps, entry_in, kept_at, is_fee_asked}
use Rattle.trust_matter.proofs.deciding.decide_fee.Goals as goal

pub returns-in_err-check_change-clause-answer : goal.returns-in_err-check_change-clause-answer
returns-in_err-check_change-clause-answer c =
    let again : is_fee_asked (entry_in (kept_at c.args.matter.now c.args.asked.now.number)) c.args.asked.now ≡ false = first_of (search rules, grind (arith, common_steps)) in
    λ c'. rw again (first_of (search rules, grind (arith, common_steps)))
