use Rattle.trust_matter.proofs.Names.{arith, common_steps, false, has_no_seat, kept_facts, not, rule_of, rules, was_purged, ◌≡◌, ints, nat_tests, allows}
use Rattle.trust_matter.proofs.StepForms.{asked}
use Rattle.trust_matter.proofs.deciding.check_caller.Goals as goal
use Rattle.trust_matter.proofs.deciding.check_caller.Goals.{Else-is_unknown, in-Cashier-caller}

-- the matter is known to the caller
is-known : (c : Else-is_unknown) → has_no_seat (kept_facts c.args.matter.now c.args.ask.now) (asked c.args.caller.now c.args.ask.now 0) ≡ false
is-known c = first_of (search rules, grind (arith, common_steps))

pub returns-then-not-is_allowed : goal.returns-then-not-is_allowed
returns-then-not-is_allowed c =
    let m = c.args.matter.now in
    let q = asked c.args.caller.now c.args.ask.now 0 in
    let rule : c.match-ask.rule ≡ rule_of c.args.ask.now = search rules in
    grind (arith, ints, nat_tests, is-known, was_purged, kept_facts, not, allows, in-Cashier-caller)

pub returns : goal.returns
returns c =
    let rule : c.match-ask.rule ≡ rule_of c.args.ask.now = search rules in
    first_of (search rules, grind (arith, ints, nat_tests, is-known, was_purged, kept_facts, not, allows, in-Cashier-caller), grind (arith, common_steps))
