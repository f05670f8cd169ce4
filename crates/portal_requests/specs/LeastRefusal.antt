-- If several refusals hold before a message becomes a request, the one with the least number is returned.
use Rattle.std.specs.Prelude.{◌≡◌, ◌<◌, false, Option, Some, None, Err, Ok}
use Rattle.std.specs.Str.{bytes_eq}
use Rattle.trust_base.specs.Refusals.{number_of}
use Rattle.trust_base.specs.declared.refusal.Refusal.{Refusal}
use Rattle.trust_base.specs.declared.refusal.Refusal.TheVariants.{BadField, BadMethod, NoCaller, NoRoute}
use Rattle.matter_rows.specs.declared.act.Caller.{Caller}
use Rattle.trust_desk.specs.declared.requests.Request.{Request}
use Rattle.portal_messages.specs.declared.message.Message.{Message}
use Rattle.portal_messages.specs.Fields.{path_of}
use Rattle.portal_requests.specs.declared.routes.Place.{Place}
use Rattle.portal_requests.specs.Callers.{caller_of}
use Rattle.portal_requests.specs.Places.{method_of}
use Rattle.portal_requests.specs.Requests.{asked_at, request}
use Rattle.portal_requests.specs.Routing.{place_of}

-- the place of the path takes another method than that of the message
abbrev pub HasOtherMethod : Option Place → Message → Type 0
HasOtherMethod None m = ⊥
HasOtherMethod (Some p) m = bytes_eq m.method (method_of p) ≡ false

-- a field that the caller gives at the place is invalid, or the body is no object with its keys
abbrev pub HasBadField : Option Place → Option Caller → Message → Refusal → Type 0
HasBadField None caller m r = ⊥
HasBadField (Some p) None m r = ⊥
HasBadField (Some p) (Some caller) m r = asked_at p caller (path_of m.target) m.body ≡ Err r

-- when each refusal before a message becomes a request applies, by the place of its path and its caller: no route,
-- another method, no caller, a bad field
abbrev pub RefusesAt : Option Place → Option Caller → Message → Refusal → Type 0
RefusesAt place caller m NoRoute = place ≡ None
RefusesAt place caller m BadMethod = HasOtherMethod place m
RefusesAt place caller m NoCaller = caller ≡ None
RefusesAt place caller m (BadField f) = HasBadField place caller m (BadField f)
RefusesAt place caller m _ = ⊥

abbrev pub Refuses : Message → Refusal → Type 0
Refuses m r = RefusesAt (place_of (path_of m.target)) (caller_of m.callers) m r

-- the refusal that is returned applies, and none with a lesser number does; if there is a request, none applies
abbrev pub LeastRefusal : Type 0
LeastRefusal =
    ((m : Message) (r : Refusal) → request m ≡ Err r
    → Refuses m r × ((s : Refusal) → number_of s < number_of r → Refuses m s → ⊥))
    × ((m : Message) (asked : Request) → request m ≡ Ok asked → (s : Refusal) → Refuses m s → ⊥)
