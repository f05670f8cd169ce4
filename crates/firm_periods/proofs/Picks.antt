-- What a list takes of an entry's two movements.
use Rattle.firm_periods.proofs.Names.{◌≡◌, ℕ, Bool, true, false, cond, List, [], ◌∷◌, ◌++◌, Option, Some, None, refl, sym, ap, ◌∙◌, append-nil, append_assoc, arith, filter, flat_map, ints, nat_tests, flat_map-append, is_some, Entry, day_where, booked_on, is_in_transit, is_outstanding, IsStrictWeakOrder, ranks_by}
use Rattle.std.proofs.lemmas.List.Elements.{filter-append}
use Rattle.std.proofs.lemmas.Cmp.{on_total, nat_cmp_total}
use Rattle.firm_periods.specs.declared.moved.NamedMove.{NamedMove}
use Rattle.firm_periods.specs.Named.{is_earlier}

-- by day is an order
pub earlier_order : IsStrictWeakOrder is_earlier
earlier_order = ranks_by (on_total (λ (v : NamedMove). v.moved.day) nat_cmp_total) (λ (v : NamedMove). v)

-- an entry in transit, or outstanding, has a day on which it was booked
pub transit-day : (p : ℕ) (e : Entry) → is_some (day_where (is_in_transit p) booked_on e) ≡ is_in_transit p e
transit-day p e = grind (arith, nat_tests, is_some)

pub out-day : (p : ℕ) (e : Entry) → is_some (day_where (is_outstanding p) booked_on e) ≡ is_outstanding p e
out-day p e = grind (arith, nat_tests, is_some)

pub ruleset picks = (filter-append, flat_map-append, append_assoc, append-nil, transit-day, out-day)
