-- The refusal that is told of a message is the least.
use Rattle.portal_requests.proofs.Names.{◌≡◌, ◌∙◌, ◌<◌, ℕ, true, false, List, Option, Some, None, Result, Ok, Err, refl, sym, ap, subst, arith, bytes_eq, day_of, Line, Field, Refusal, BadField, BadMethod, NoCaller, NoRoute, Ask, Caller, Request, Message, path_of, Place, entry_ask, matter_ask, body_in, caller_of, dismissing, line_in, line_keys, named_in, part, period_in, method_of, Span, DayReport, PeriodReport, asked_at, reported_as_of, reported_within, called, of_matter, request, routed, place_of, ints, nat_tests}
use Rattle.std.proofs.Common.{◌⊎◌, IfSome}
use Rattle.trust_base.specs.Refusals.{number_of}
use Rattle.trust_base.specs.Texts.{matter_of}
use Rattle.portal_requests.specs.Requests.{trail_of, acts_of}
use Rattle.portal_requests.specs.declared.routes.Place.TheVariants as place
use Rattle.portal_requests.specs.LeastRefusal.{LeastRefusal, RefusesAt}

-- What is asked at a place is refused for a field alone.

abbrev IsOfField : Refusal → Type 0
IsOfField r = (f : Field) × (r ≡ BadField f)

abbrev refusing : Refusal → Result Request Refusal
refusing r = Err r

err-same : (why r : Refusal) → refusing why ≡ refusing r → r ≡ why
err-same why r e = cc

matter-field : (caller : Caller) (named : Option ℕ) (asked : Result Ask Field) (r : Refusal) → of_matter caller named asked ≡ Err r → IsOfField r
matter-field caller named asked r e = grind (arith, ints, nat_tests, err-same)

report-field : (caller : Caller) (report : DayReport) (o : Option ℕ) (r : Refusal) → reported_as_of caller report o ≡ Err r → IsOfField r
report-field caller report o r e = grind (arith, ints, nat_tests, err-same)

period-field : (caller : Caller) (report : PeriodReport) (o : Option Span) (r : Refusal) → reported_within caller report o ≡ Err r → IsOfField r
period-field caller report o r e = grind (arith, ints, nat_tests, err-same)

trail-field : (caller : Caller) (o : Option ℕ) (r : Refusal) → trail_of caller o ≡ Err r → IsOfField r
trail-field caller o r e = grind (arith, ints, nat_tests, err-same)

line-field : (caller : Caller) (o : Option Line) (r : Refusal) → dismissing caller o ≡ Err r → IsOfField r
line-field caller o r e = grind (arith, ints, nat_tests, err-same)

acts-field : (caller : Caller) (o : Option ℕ) (r : Refusal) → acts_of caller o ≡ Err r → IsOfField r
acts-field caller o r e = grind (arith, ints, nat_tests, err-same)

of-field : (p : Place) (caller : Caller) (path body : List ℕ) (r : Refusal) → asked_at p caller path body ≡ Err r → IsOfField r
of-field (place.Matter p) caller path body r e = matter-field caller (named_in path) (matter_ask p path body) r e
of-field (place.Entry p) caller path body r e = matter-field caller (named_in path) (entry_ask p (part 4 path) body) r e
of-field (place.Listed p) caller path body r e = absurd (cc)
of-field (place.Today p) caller path body r e = absurd (cc)
of-field (place.AsOf report) caller path body r e = report-field caller report (day_of (part 3 path)) r e
of-field (place.Within report) caller path body r e = period-field caller report (period_in (part 3 path) (part 4 path)) r e
of-field place.Trail caller path body r e = trail-field caller (matter_of (part 3 path)) r e
of-field place.Acts caller path body r e = acts-field caller (named_in path) r e
of-field place.Import caller path body r e = absurd (cc)
of-field (place.Match p) caller path body r e = absurd (cc)
of-field place.Reasons caller path body r e = absurd (cc)
of-field place.Dismissal caller path body r e = line-field caller (line_in (body_in line_keys body)) r e

-- The least refusal, by a place and a caller.

module _ (m : Message) where
  abbrev Tells : Option Place → Option Caller → Result Request Refusal → Type 0
  Tells o c (Ok asked) = (s : Refusal) → RefusesAt o c m s → ⊥
  Tells o c (Err r) = RefusesAt o c m r × ((s : Refusal) → number_of s < number_of r → RefusesAt o c m s → ⊥)

  no-route : (c : Option Caller) → Tells None c (Err NoRoute)
  no-route c = grind (arith, ints, nat_tests, number_of)

  -- what refuses a message that has a place
  refuses : (p : Place) (c : Option Caller) (s : Refusal) → RefusesAt (Some p) c m s → (number_of s ≡ 5) × (bytes_eq m.method (method_of p) ≡ false)
      ⊎ (number_of s ≡ 6) × (c ≡ None) ⊎ (number_of s ≡ 7) × IfSome c (λ caller. asked_at p caller (path_of m.target) m.body ≡ Err s)
  refuses p c s is = grind (arith, ints, nat_tests)

  other-method : (p : Place) (c : Option Caller) → bytes_eq m.method (method_of p) ≡ false → Tells (Some p) c (Err BadMethod)
  other-method p c other = (other, λ s lt is. grind (arith, refuses p c s is))

  no-caller : (p : Place) → bytes_eq m.method (method_of p) ≡ true → Tells (Some p) None (Err NoCaller)
  no-caller p same = (refl, λ s lt is. grind (arith, refuses p None s is))

  bad-field : (p : Place) (caller : Caller) (f : Field) → bytes_eq m.method (method_of p) ≡ true → asked_at p caller (path_of m.target) m.body ≡ Err (BadField f) → Tells (Some p) (Some caller) (Err (BadField f))
  bad-field p caller f same bad = (bad, λ s lt is. grind (arith, refuses p (Some caller) s is))

  all-good : (p : Place) (caller : Caller) (asked : Request) → bytes_eq m.method (method_of p) ≡ true → asked_at p caller (path_of m.target) m.body ≡ Ok asked → Tells (Some p) (Some caller) (Ok asked)
  all-good p caller asked same good = λ s is. grind (arith, refuses p (Some caller) s is)

  asked-tells : (p : Place) (caller : Caller) (r : Result Request Refusal) → bytes_eq m.method (method_of p) ≡ true → asked_at p caller (path_of m.target) m.body ≡ r → Tells (Some p) (Some caller) r
  asked-tells p caller (Ok asked) same e = all-good p caller asked same e
  asked-tells p caller (Err r) same e =
      let why = of-field p caller (path_of m.target) m.body r e in
      subst (λ (x : Refusal). Tells (Some p) (Some caller) (Err x)) (sym why.1) (bad-field p caller why.0 same (e ∙ ap refusing why.1))

  called-tells : (p : Place) (c : Option Caller) → bytes_eq m.method (method_of p) ≡ true → Tells (Some p) c (called p c (path_of m.target) m.body)
  called-tells p c same = grind (arith, ints, nat_tests, no-caller, asked-tells, asked_at, path_of)

  routed-tells : (o : Option Place) → Tells o (caller_of m.callers) (routed o m)
  routed-tells None = no-route (caller_of m.callers)
  routed-tells (Some p) = grind (arith, ints, nat_tests, called, called-tells, other-method)

  tells-of : (r : Result Request Refusal) → request m ≡ r → Tells (place_of (path_of m.target)) (caller_of m.callers) r
  unfolding request
  tells-of r e = subst (Tells (place_of (path_of m.target)) (caller_of m.callers)) e (routed-tells (place_of (path_of m.target)))

pub least-refusal : LeastRefusal
least-refusal = ((λ m r e. tells-of m (Err r) e), (λ m asked e. tells-of m (Ok asked) e))
