-- The body of a matter's acts: who did what, on which business day.
use Rattle.std.specs.Prelude.{ℕ, not, List, [], ◌∷◌, codes, map, Option, Some, None}
use Rattle.serde_json.specs.Data.{Data, boolean, string}
use Rattle.serde_json.specs.Written.{compact_text}
use Rattle.matter_rows.specs.declared.act.Act.{Act}
use Rattle.matter_rows.specs.declared.act.Caller.{Caller}
use Rattle.matter_rows.specs.declared.act.Caller.TheVariants as caller
use Rattle.matter_rows.specs.declared.act.Deed.{Deed}
use Rattle.matter_rows.specs.declared.act.Deed.TheVariants as deed
use Rattle.matter_rows.specs.declared.seat.Role.{Role}
use Rattle.matter_rows.specs.declared.seat.Role.TheVariants as role
use Rattle.matter_rows.specs.Rows.{role_name}
use Rattle.trail_laws.specs.Signed.{begins_with_opening}
use Rattle.json_bodies.specs.Json.{amount_value, array_of, day_value, entry_value, object_of, or_null}

-- who did it: the cashier, or a person by name
abbrev pub caller_name : Caller → List ℕ
caller_name caller.Cashier = codes "cashier"
caller_name (caller.Person person) = person

-- what was done, as a word
abbrev pub deed_name : Deed → List ℕ
deed_name (deed.Opened lawyer) = codes "opened"
deed_name (deed.Seated seat) = codes "seated"
deed_name (deed.Unseated person) = codes "unseated"
deed_name deed.Closed = codes "closed"
deed_name deed.Deposited = codes "deposited"
deed_name deed.Cancelled = codes "cancelled"
deed_name deed.Cleared = codes "cleared"
deed_name deed.Returned = codes "returned"
deed_name deed.Proposed = codes "proposed"
deed_name deed.Approved = codes "approved"
deed_name deed.Declined = codes "declined"
deed_name deed.Withdrawn = codes "withdrawn"
deed_name deed.Voided = codes "voided"
deed_name deed.Earned = codes "earned"
deed_name deed.Disputed = codes "disputed"
deed_name deed.Claimed = codes "claimed"
deed_name (deed.Offered part) = codes "offered"
deed_name deed.Accepted = codes "accepted"
deed_name deed.Awarded = codes "awarded"

-- whose seat was given or removed
abbrev pub person_seated : Deed → Option (List ℕ)
person_seated (deed.Opened lawyer) = Some lawyer
person_seated (deed.Seated seat) = Some seat.person
person_seated (deed.Unseated person) = Some person
person_seated _ = None

-- the role of a seat that was given
abbrev pub role_given : Deed → Option Role
role_given (deed.Opened lawyer) = Some role.Lawyer
role_given (deed.Seated seat) = Some seat.role
role_given _ = None

-- the part of a claim that the client was offered
abbrev pub part_offered : Deed → Option ℕ
part_offered (deed.Offered part) = Some part
part_offered _ = None

abbrev pub act_members : Act → List (List ℕ × Data)
act_members act =
    (codes "caller", string (caller_name act.caller))
    ∷ (codes "day", day_value act.day)
    ∷ (codes "deed", string (deed_name act.deed))
    ∷ (codes "entry", or_null entry_value act.entry)
    ∷ (codes "person", or_null string (person_seated act.deed))
    ∷ (codes "role", or_null (λ r. string (role_name r)) (role_given act.deed))
    ∷ (codes "to_client", or_null amount_value (part_offered act.deed))
    ∷ []

abbrev pub act_object : Act → Data
act_object act = object_of (act_members act)

-- the acts, and whether the matter has earlier ones that are not recorded: its acts do not begin with its opening
abbrev pub acts_object : List Act → Data
acts_object acts =
    object_of
    ((codes "acts", array_of (map act_object acts))
    ∷ (codes "earlier", boolean (not (begins_with_opening acts)))
    ∷ [])

-- the body of a matter's acts, in the order of acceptance
abbrev pub acts_body : List Act → List ℕ
acts_body acts = compact_text (acts_object acts)
