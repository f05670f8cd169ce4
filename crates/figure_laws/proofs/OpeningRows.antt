-- The balances dated by a day have its openings.
use Rattle.figure_laws.proofs.Names.{◌≡◌, ℕ, zero, suc, ◌≤◌, Bool, true, false, cond, List, [], ◌∷◌, ◌++◌, Option, Some, None, refl, sym, ap, ◌∙◌, subst, arith, append-nil, append_assoc, ◌&&◌, nat_le, nat_lt, if◌then◌else◌, AllByRecursion, filter, flat_map, IsNonDecreasingBy, IsStrictlySortedBy, nat_tests, Less, nat_cmp, ordering_then, All-from_recursion, recursion_from_All, filter_passes, BalanceRow, balance_cmp, place_of, all-map, is_closing, is_closing_before, latest_before, after_closing, is_opening_by, opening_line, BalancesKept, no_balances, with_balance_kept, AreClosings, openings_after, openings_kept, OpeningsKept}
use Rattle.std.proofs.Common.{fold}
use Rattle.std.specs.Prelude.{not}
use Rattle.std.proofs.lemmas.List.Kept.{IsStrictlySortedBy-filter}

abbrev is_closing_by : ℕ → BalanceRow → Bool
is_closing_by p r = is_closing r.kind && nat_le r.day p

-- What is kept.

kept-from : (s : BalancesKept) (rows : List BalanceRow) → fold with_balance_kept s rows ≡ record s { openings = s.openings ++ filter (is_opening_by s.day) rows; closings = s.closings ++ filter (is_closing_by s.day) rows }
kept-from s [] = λ i. record s { openings = sym (append-nil s.openings) i; closings = sym (append-nil s.closings) i }
kept-from s (r ∷ rows) = cases (nat_le r.day s.day) (is_closing r.kind) (λ z. kept-from z rows)
  where
    cases : (b c : Bool) → ((z : BalancesKept) → fold with_balance_kept z rows ≡ record z { openings = z.openings ++ filter (is_opening_by z.day) rows; closings = z.closings ++ filter (is_closing_by z.day) rows }) → fold with_balance_kept (if b then (if c then record s { closings = s.closings ++ r ∷ [] } else record s { openings = s.openings ++ r ∷ [] }) else s) rows ≡ record s { openings = s.openings ++ cond (not c && b) (r ∷ filter (is_opening_by s.day) rows) (filter (is_opening_by s.day) rows); closings = s.closings ++ cond (c && b) (r ∷ filter (is_closing_by s.day) rows) (filter (is_closing_by s.day) rows) }
    cases true true rest = rest (record s { closings = s.closings ++ r ∷ [] }) ∙ (λ i. record s { openings = s.openings ++ filter (is_opening_by s.day) rows; closings = append_assoc s.closings (r ∷ []) (filter (is_closing_by s.day) rows) i })
    cases true false rest = rest (record s { openings = s.openings ++ r ∷ [] }) ∙ (λ i. record s { openings = append_assoc s.openings (r ∷ []) (filter (is_opening_by s.day) rows) i; closings = s.closings ++ filter (is_closing_by s.day) rows })
    cases false true rest = rest s
    cases false false rest = rest s

-- The latest closing.

never-later : (x y p : ℕ) → y ≤ p → nat_le x p ≡ false → nat_lt x y ≡ false
never-later x y p le late = grind (arith, nat_tests)

latest-of : (day : ℕ) (found : Option BalanceRow) (rows : List BalanceRow) → (p : ℕ) → day ≤ p → fold (λ found r. if is_closing_before day r then Some r else found) found (filter (is_closing_by p) rows) ≡ fold (λ found r. if is_closing_before day r then Some r else found) found rows
latest-of day found [] p le = refl
latest-of day found (r ∷ rows) p le = cases (is_closing r.kind) refl (nat_le r.day p) refl (λ z. latest-of day z rows p le)
  where
    cases : (c : Bool) → is_closing r.kind ≡ c → (b : Bool) → nat_le r.day p ≡ b → ((z : Option BalanceRow) → fold (λ found r. if is_closing_before day r then Some r else found) z (filter (is_closing_by p) rows) ≡ fold (λ found r. if is_closing_before day r then Some r else found) z rows) → fold (λ found r. if is_closing_before day r then Some r else found) found (cond (c && b) (r ∷ filter (is_closing_by p) rows) (filter (is_closing_by p) rows)) ≡ fold (λ found r. if is_closing_before day r then Some r else found) (if (c && nat_lt r.day day) then Some r else found) rows
    cases true kind true on rest = (λ i. fold (λ found r. if is_closing_before day r then Some r else found) (if (kind i && nat_lt r.day day) then Some r else found) (filter (is_closing_by p) rows)) ∙ rest (if nat_lt r.day day then Some r else found)
    cases true kind false late rest = rest found ∙ (λ i. fold (λ found r. if is_closing_before day r then Some r else found) (if sym (never-later r.day day p le late) i then Some r else found) rows)
    cases false kind b on rest = rest found

and-right : (a b : Bool) → (a && b) ≡ true → b ≡ true
and-right a b is = grind arith

-- each opening by the day, after the closings that are kept
lines-of : (p : ℕ) (all rows : List BalanceRow) → openings_after (filter (is_closing_by p) all) (filter (is_opening_by p) rows) ≡ flat_map (opening_line all p) rows
lines-of p all [] = refl
lines-of p all (r ∷ rows) = cases (is_opening_by p r) refl (lines-of p all rows)
  where
    cases : (b : Bool) → is_opening_by p r ≡ b → openings_after (filter (is_closing_by p) all) (filter (is_opening_by p) rows) ≡ flat_map (opening_line all p) rows → openings_after (filter (is_closing_by p) all) (cond b (r ∷ filter (is_opening_by p) rows) (filter (is_opening_by p) rows)) ≡ (if b then after_closing r (latest_before r.day all) else []) ++ flat_map (opening_line all p) rows
    cases true is more =
        let on : nat_le r.day p ≡ true = and-right (not (is_closing r.kind)) (nat_le r.day p) is in
        let le : r.day ≤ p = grind (arith, nat_tests) in
        λ i. after_closing r (latest-of r.day None all p le i) ++ more i
    cases false is more = more

-- The closings ascend.

all-filter : (P : BalanceRow → Type 0) (q : BalanceRow → Bool) (rows : List BalanceRow) → ((r : BalanceRow) → q r ≡ true → P r) → AllByRecursion P (filter q rows)
all-filter P q rows f = all-map (λ r. q r ≡ true) P (filter q rows) f (recursion_from_All _ _ (filter_passes q rows))

are-closings : (p : ℕ) (rows : List BalanceRow) → AllByRecursion (λ (r : BalanceRow). is_closing r.kind ≡ true) (filter (is_closing_by p) rows)
are-closings p rows = all-filter (λ (r : BalanceRow). is_closing r.kind ≡ true) (is_closing_by p) rows (λ r is. and-left (is_closing r.kind) (nat_le r.day p) is)
  where
    and-left : (a b : Bool) → (a && b) ≡ true → a ≡ true
    and-left a b is = grind arith

closings-day : (a b : BalanceRow) → is_closing a.kind ≡ true → is_closing b.kind ≡ true → balance_cmp a b ≡ Less → a.day ≤ b.day
closings-day a b one other less = grind (arith, nat_tests, ordering_then, nat_cmp, place_of)

all-below : (r : BalanceRow) (rows : List BalanceRow) → is_closing r.kind ≡ true → AllByRecursion (λ (x : BalanceRow). is_closing x.kind ≡ true) rows → AllByRecursion (λ x. balance_cmp r x ≡ Less) rows → AllByRecursion (λ (x : BalanceRow). r.day ≤ x.day) rows
all-below r [] one all less = tt
all-below r (x ∷ rows) one all less = (closings-day r x one all.0 less.0, all-below r rows one all.1 less.1)

rising-from : (rows : List BalanceRow) → AllByRecursion (λ (r : BalanceRow). is_closing r.kind ≡ true) rows → IsStrictlySortedBy balance_cmp rows → IsNonDecreasingBy (λ (r : BalanceRow). r.day) rows
unfolding IsStrictlySortedBy
rising-from [] all up i j d le lt = absurd (omega (arith, lt))
rising-from (r ∷ rows) all up zero zero d le lt = omega arith
rising-from (r ∷ rows) all up zero (suc j) d le lt = All-from_recursion (λ (x : BalanceRow). r.day ≤ x.day) rows (all-below r rows all.0 all.1 up.0) j d (omega (arith, lt))
rising-from (r ∷ rows) all up (suc i) zero d le lt = absurd (omega (arith, le))
rising-from (r ∷ rows) all up (suc i) (suc j) d le lt = rising-from rows all.1 up.1 i j d (omega (arith, le)) (omega (arith, lt))

kept-rows : (p : ℕ) (rows : List BalanceRow) → fold with_balance_kept (no_balances p) rows ≡ record { day = p; openings = filter (is_opening_by p) rows; closings = filter (is_closing_by p) rows }
kept-rows p rows = kept-from (no_balances p) rows

pub openings-kept : OpeningsKept
openings-kept p rows = record {
  lines = ap openings_kept (kept-rows p rows) ∙ lines-of p rows rows;
  rising = λ up. subst (λ (s : BalancesKept). AreClosings s.closings) (sym (kept-rows p rows)) (record {
    rising = rising-from (filter (is_closing_by p) rows) (are-closings p rows) (IsStrictlySortedBy-filter balance_cmp (is_closing_by p) rows up);
    closings = are-closings p rows;
  });
}
