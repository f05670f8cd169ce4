-- A statement of account closes with the ledger as of its last day, and is that of the rows.
use Rattle.firm_periods.proofs.Names.{◌≡◌, ℕ, ◌+◌, ◌≤◌, cond, List, [], ◌∷◌, ◌++◌, map, refl, sym, ap, ◌∙◌, arith, ℤ, pos, ◌+ℤ◌, ◌&&◌, nat_le, nat_lt, AllByRecursion, filter, flat_map, ints, nat_tests, Entry, Event, events_of, sum_of, is_event_by, sum-append, sum-filter, Firm, of, Head}
use Rattle.trust_base.specs.Periods.{Span}
use Rattle.trust_base.specs.Retention.{IsDayAfter}
use Rattle.trust_base.specs.Limits.{IsCivilDay}
use Rattle.matter_parts.specs.declared.kept.Kept.{Kept}
use Rattle.matter_parts.specs.Parts.{AreNumbered, entries_kept}
use Rattle.firm_periods.specs.declared.moved.Moved.{Moved}
use Rattle.firm_figures.specs.Clients.{client_line, open_heads}
use Rattle.firm_figures.specs.Figures.{own_by}
use Rattle.firm_periods.specs.Named.{is_within, moves_of, event_in}
use Rattle.firm_periods.specs.Accounts.{ClosingIsLedger, ClosingIsNextOpening, ClosingsAreLines, ClosingsAreTotal, EntryMoved, OpeningIsBefore, WholeAccountIsOfRows, account_from, account_in, account_moves, account_of, closing_from, closing_in, is_before_moved, kept_moves, moved_before, moves_at, numbered_moves}
use Rattle.firm_periods.proofs.Named.{moves-events, order-sum, sum-both}

-- The account of a whole matter.

whole-moves : (n : ℕ) (ks : List Kept) → AreNumbered n ks → kept_moves ks ≡ numbered_moves n (entries_kept ks)
whole-moves n [] numbered = refl
whole-moves n (k ∷ ks) numbered =
    ap (λ m. moves_at m k.entry ++ kept_moves ks) numbered.0
    ∙ ap (λ vs. moves_at n k.entry ++ vs) (whole-moves (n + 1) ks numbered.1)

pub whole-account : WholeAccountIsOfRows
whole-account s matter rows whole =
    ap (account_in s) (whole-moves 1 matter.kept whole.numbered)
    ∙ ap (account_of s) whole.entries

-- Sums.

abbrev pub amount_at : EntryMoved → ℤ
amount_at v = v.moved.amount

pub closing-sum : (z : ℤ) (vs : List EntryMoved) → closing_from z (account_from z vs) ≡ z +ℤ sum_of amount_at vs
closing-sum z [] = omega (arith, ints)
closing-sum z (v ∷ vs) = closing-sum (z +ℤ v.moved.amount) vs ∙ omega (arith, ints)

-- one share for each event
module _ (h : Event → ℤ) where
  moves-sum : (n : ℕ) (e : Entry) (vs : List Moved) → sum_of (λ (v : EntryMoved). h (event_in v.moved)) (map (λ v. record { number = n; entry = e; moved = v }) vs) ≡ sum_of h (map event_in vs)
  moves-sum n e [] = refl
  moves-sum n e (v ∷ vs) = ap (λ z. h (event_in v) +ℤ z) (moves-sum n e vs)

  pub numbered-sum : (n : ℕ) (es : List Entry) → sum_of (λ (v : EntryMoved). h (event_in v.moved)) (numbered_moves n es) ≡ sum_of h (flat_map events_of es)
  numbered-sum n [] = refl
  numbered-sum n (e ∷ es) =
      omega (arith, ints, sum-append (λ (v : EntryMoved). h (event_in v.moved)) (moves_at n e) (numbered_moves (n + 1) es), moves-sum n e (moves_of e), ap (sum_of h) (moves-events e), numbered-sum (n + 1) es, sum-append h (events_of e) (flat_map events_of es))

pub opening-before : OpeningIsBefore
opening-before s es =
    let before : Event → ℤ = λ e. cond (nat_lt e.day s.from) e.amount (pos 0) in
    let moves = sum-filter (λ (v : EntryMoved). nat_lt v.moved.day s.from) amount_at (numbered_moves 1 es) in
    let all = numbered-sum before 1 es in
    let events = sum-filter (λ (e : Event). nat_lt e.day s.from) (λ (e : Event). e.amount) (flat_map events_of es) in
    omega (arith, ints, moves, all, events)

change : (from to : ℕ) → from ≤ to → (d : ℕ) (z : ℤ) → cond (nat_le from d && nat_le d to) z (pos 0) +ℤ cond (nat_lt d from) z (pos 0) ≡ cond (nat_le d to) z (pos 0)
change from to le d z = grind (arith, ints, nat_tests)

pub closing-ledger : ClosingIsLedger
closing-ledger s es le =
    let within : Event → ℤ = λ e. cond (nat_le s.from e.day && nat_le e.day s.to) e.amount (pos 0) in
    let vs = numbered_moves 1 es in
    let sum = closing-sum (moved_before s.from vs) (account_moves s vs) in
    let opening = opening-before s es in
    let order = order-sum is_before_moved amount_at (filter (λ (v : EntryMoved). is_within s.from s.to v.moved) vs) in
    let some = sum-filter (λ (v : EntryMoved). is_within s.from s.to v.moved) amount_at vs in
    let all = numbered-sum within 1 es in
    let before = sum-filter (λ (e : Event). nat_lt e.day s.from) (λ (e : Event). e.amount) (flat_map events_of es) in
    let after = sum-filter (is_event_by s.to) (λ (e : Event). e.amount) (flat_map events_of es) in
    let both = sum-both within (λ (e : Event). cond (nat_lt e.day s.from) e.amount (pos 0)) (λ e. cond (is_event_by s.to e) e.amount (pos 0)) (flat_map events_of es) (λ e. change s.from s.to le e.day e.amount) in
    omega (arith, ints, sum, opening, order, some, all, before, after, both)

-- no day of the calendar lies between a day and the next
between : (to next d : ℕ) → IsDayAfter to next → IsCivilDay d → nat_lt d next ≡ nat_le d to
between to next d is civil =
    let later = is.later in
    let first = is.first d civil in
    grind (arith, nat_tests)

days-same : (to next : ℕ) → IsDayAfter to next → (vs : List Event) → AllByRecursion (λ (e : Event). IsCivilDay e.day) vs → filter (λ e. nat_lt e.day next) vs ≡ filter (is_event_by to) vs
days-same to next is [] civil = refl
days-same to next is (e ∷ vs) civil = λ i. cond (between to next e.day is civil.0 i) (e ∷ days-same to next is vs civil.1 i) (days-same to next is vs civil.1 i)

pub closing-next : ClosingIsNextOpening
closing-next s next es le is civil =
    opening-before next es
    ∙ (ap (sum_of (λ (e : Event). e.amount)) (days-same s.to next.from is (flat_map events_of es) civil)
    ∙ sym (closing-ledger s es le))

-- The closings of all clients.

closings-from : (s : Span) (firm : Firm) → s.from ≤ s.to → (qs : List (ℕ × Head)) → map (closing_in s firm) qs ≡ map (λ q. (client_line s.to firm q).ledger) qs
closings-from s firm le [] = refl
closings-from s firm le ((m, h) ∷ qs) = λ i. closing-ledger s (of m firm).entries le i ∷ closings-from s firm le qs i

pub closings-lines : ClosingsAreLines
closings-lines s firm le = closings-from s firm le (open_heads s.to firm.rows)

closings-sum : (s : Span) (firm : Firm) → s.from ≤ s.to → (qs : List (ℕ × Head)) → sum_of (closing_in s firm) qs ≡ sum_of (λ l. l.ledger) (map (client_line s.to firm) qs)
closings-sum s firm le [] = refl
closings-sum s firm le ((m, h) ∷ qs) = λ i. closing-ledger s (of m firm).entries le i +ℤ closings-sum s firm le qs i

pub closings-total : ClosingsAreTotal
closings-total s firm le = ap (λ z. z +ℤ own_by s.to firm) (closings-sum s firm le (open_heads s.to firm.rows))
