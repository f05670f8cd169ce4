use Rattle.firm_audit.proofs.Names.{◌≡◌, Bool, true, false, refl, sym, ap, ◌∙◌}
use Rattle.matter_rows.specs.declared.seat.Role.TheVariants as role
use Rattle.trust_matter.specs.Policy.{has, standing_in}
use Rattle.trail_laws.specs.Signed.{rule_done}
use Rattle.firm_audit.proofs.Allowed.{in-none, in-role}
use Rattle.firm_audit.proofs.trail.may_be_allowed.Goals as goal

pub returns-then-is_in_role : goal.returns-then-is_in_role
returns-then-is_in_role c =
    let client : has (standing_in role.Client) (rule_done c.args.act.now.deed) ≡ true =
    ap (has (standing_in role.Client)) (sym c.rule_done-rule.ensures) ∙ (sym c.is_in_role.ensures ∙ c.if-is_in_role.true) in
    (λ _. in-role c.args.act.now _ role.Client c.in-Person.is client, λ _. c.if-is_in_role.true)

pub returns-else-is_in_role : goal.returns-else-is_in_role
returns-else-is_in_role c =
    let act = c.args.act.now in
    let client : has (standing_in role.Client) (rule_done act.deed) ≡ false =
    ap (has (standing_in role.Client)) (sym c.rule_done-rule.ensures) ∙ (sym c.is_in_role.ensures ∙ c.if-is_in_role.false) in
    let lawyer : has (standing_in role.Lawyer) (rule_done act.deed) ≡ c.is_in_role-else-is_in_role.result =
    ap (has (standing_in role.Lawyer)) (sym c.rule_done-rule.ensures) ∙ sym c.is_in_role-else-is_in_role.ensures in (
      λ is. in-role act _ role.Lawyer c.in-Person.is (lawyer ∙ is),
      λ may. so c.is_in_role-else-is_in_role.result (λ none. in-none act _ c.in-Person.is client (lawyer ∙ none) may),
    )
  where
    so : (b : Bool) → (b ≡ false → ⊥) → b ≡ true
    so true apart = refl
    so false apart = absurd (apart refl)
