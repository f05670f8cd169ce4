-- Whether the policy allows an act to its caller with some seats.
use Rattle.firm_audit.proofs.Names.{◌≡◌, ℕ, true, false, List, [], ◌∷◌, Option, Some, None, refl, sym, ◌∙◌, subst, false≢true, option_map}
use Rattle.std.proofs.lemmas.Slice.Eq.{bytes_eq-Decides}
use Rattle.std.specs.Str.{bytes_eq}
use Rattle.matter_rows.specs.declared.act.Act.{Act}
use Rattle.matter_rows.specs.declared.act.Caller.{Caller}
use Rattle.matter_rows.specs.declared.act.Caller.TheVariants as caller
use Rattle.matter_rows.specs.declared.seat.Role.{Role}
use Rattle.matter_rows.specs.declared.seat.Role.TheVariants as role
use Rattle.matter_rows.specs.declared.seat.Seat.{Seat}
use Rattle.matter_rows.specs.Rows.{role_in}
use Rattle.trust_matter.specs.Policy.{allows, has, some_has, standing_in}
use Rattle.trail_laws.specs.Signed.{rule_done}
use Rattle.firm_audit.specs.Trails.{MayBeAllowed}

-- to a person in one role, it allows it with that seat alone
pub in-role : (act : Act) (p : List ℕ) (r : Role) → act.caller ≡ caller.Person p → has (standing_in r) (rule_done act.deed) ≡ true → MayBeAllowed act
in-role act p r is may = (seats, subst (λ (c : Caller). allows seats c (rule_done act.deed) ≡ true) (sym is) (rw same may))
  where
    seats : List Seat
    seats = record { person = p; role = r } ∷ []

    same : bytes_eq p p ≡ true
    same = (bytes_eq-Decides p p).1 refl

-- to a person in neither role, with no seats
pub in-none : (act : Act) (p : List ℕ) → act.caller ≡ caller.Person p → has (standing_in role.Client) (rule_done act.deed) ≡ false → has (standing_in role.Lawyer) (rule_done act.deed) ≡ false → MayBeAllowed act → ⊥
in-none act p is client lawyer may =
    apart (role_in may.0 p) (subst (λ (c : Caller). allows may.0 c (rule_done act.deed) ≡ true) is may.1)
  where
    apart : (o : Option Role) → some_has (option_map standing_in o) (rule_done act.deed) ≡ true → ⊥
    apart None so = false≢true so
    apart (Some role.Client) so = false≢true (sym client ∙ so)
    apart (Some role.Lawyer) so = false≢true (sym lawyer ∙ so)
