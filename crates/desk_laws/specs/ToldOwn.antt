-- What a person is told depends on the matters in which the person has a seat, and on no others.
use Rattle.std.specs.Prelude.{◌≡◌, ◌||◌, ℕ, true, List}
use Rattle.matter_rows.specs.declared.act.Caller.TheVariants.{Person}
use Rattle.firm_rows.specs.Firm.{Firm, acts_of, of}
use Rattle.firm_rows.specs.FirmSound.{IsInOrder}
use Rattle.json_bodies.specs.ListLaws.{AgreeFor, has_seat}
use Rattle.trust_desk.specs.declared.requests.Request.{Request}
use Rattle.trust_desk.specs.declared.requests.Request.TheVariants.{Matter, Import, Match, Dismiss, Report, Trail, Acts, Listed, Reasons}
use Rattle.trust_desk.specs.Heard.{Asks}
use Rattle.trust_desk.specs.FirmStep.{firm_step}

-- the request is this person's
abbrev pub IsBy : List ℕ → Request → Type 0
IsBy person (Matter m caller ask) = caller ≡ Person person
IsBy person (Import caller statement) = caller ≡ Person person
IsBy person (Match caller statement text) = caller ≡ Person person
IsBy person (Dismiss caller line) = caller ≡ Person person
IsBy person (Report caller report) = caller ≡ Person person
IsBy person (Trail caller m) = caller ≡ Person person
IsBy person (Acts caller m) = caller ≡ Person person
IsBy person (Listed caller list) = caller ≡ Person person
IsBy person (Reasons caller) = caller ≡ Person person

-- where the acts of a matter are asked for in which the person has a seat in either firm, these are the same too
abbrev pub AgreeInActs : List ℕ → Request → Firm → Firm → Type 0
AgreeInActs person (Matter m caller ask) f g = Unit {0}
AgreeInActs person (Import caller statement) f g = Unit {0}
AgreeInActs person (Match caller statement text) f g = Unit {0}
AgreeInActs person (Dismiss caller line) f g = Unit {0}
AgreeInActs person (Report caller report) f g = Unit {0}
AgreeInActs person (Trail caller m) f g = Unit {0}
AgreeInActs person (Acts caller m) f g =
    (has_seat person (of m f) || has_seat person (of m g)) ≡ true → acts_of m f ≡ acts_of m g
AgreeInActs person (Listed caller list) f g = Unit {0}
AgreeInActs person (Reasons caller) f g = Unit {0}

-- whatever a person asks, two firms that agree on the person's matters give the same reply
abbrev pub EachIsToldOwn : Type 0
EachIsToldOwn =
    (day : ℕ) (person : List ℕ) (f g : Firm) (request : Request) → IsInOrder f → IsInOrder g → IsBy person request
    → AgreeFor person f g → AgreeInActs person request f g
    → (firm_step day f (Asks request)).reply ≡ (firm_step day g (Asks request)).reply
