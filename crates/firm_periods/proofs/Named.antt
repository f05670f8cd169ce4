-- Receipts and disbursements add up to the change of the journal.
use Rattle.firm_periods.proofs.Names.{◌≡◌, ℕ, ◌≤◌, Bool, true, false, not, cond, List, [], ◌∷◌, map, Option, None, refl, sym, ap, ◌∙◌, arith, ℤ, pos, ◌+ℤ◌, ◌-ℤ◌, ◌&&◌, nat_le, nat_lt, filter, flat_map, ints, nat_tests, Entry, Event, events_of, Movement, FirmLine, sum_of, Row, HeadRow, SeatRow, EntryRow, Firm, in_order, put_in_order, entries_in, is_moved_by, is_in_transit, is_outstanding, journal, transit_share, outstanding_share, sum-append, sum-same, sum-filter, of_row, all-entries, agree}
use Rattle.matter_rows.specs.declared.entry.Entry.TheVariants as entry
use Rattle.matter_rows.specs.declared.deposit.Deposit.{Deposit}
use Rattle.matter_rows.specs.declared.payment.Payment.{Payment}
use Rattle.firm_rows.specs.Journal.{event_of, line_event}
use Rattle.firm_rows.proofs.Agree.{events_share}
use Rattle.firm_periods.specs.declared.moved.Moved.{Moved}
use Rattle.firm_periods.specs.declared.moved.NamedMove.{NamedMove}
use Rattle.firm_periods.specs.Named.{moves_of, event_in, MovesAreEvents, client_of, named, named_in, own_moved, own_named, is_disbursed, is_received_within, is_disbursed_within, is_within, moves_where, is_earlier, sum_moved, booking_of, journal_before, PeriodsAgree, WaitsAlwaysAgree}
use Rattle.firm_figures.proofs.Shares.{transit-shares, outstanding-shares}

pub moves-events : MovesAreEvents
unfolding events_of
moves-events e = grind (arith, ints)

-- A list in order adds up to the same.
module _ {X : Type 0} (lt : X → X → Bool) (f : X → ℤ) where
  put-sum : (x : X) (ys : List X) → sum_of f (put_in_order lt x ys) ≡ f x +ℤ sum_of f ys
  put-sum x [] = refl
  put-sum x (y ∷ ys) = cases (lt y x) (put-sum x ys)
    where
      cases : (b : Bool) → sum_of f (put_in_order lt x ys) ≡ f x +ℤ sum_of f ys → sum_of f (cond b (y ∷ put_in_order lt x ys) (x ∷ y ∷ ys)) ≡ f x +ℤ (f y +ℤ sum_of f ys)
      cases true more = omega (arith, ints, more)
      cases false more = refl

  pub order-sum : (xs : List X) → sum_of f (in_order lt xs) ≡ sum_of f xs
  order-sum [] = refl
  order-sum (x ∷ xs) = put-sum x (in_order lt xs) ∙ ap (λ z. f x +ℤ z) (order-sum xs)

-- Two sums are a third, where they are so at each element.
pub sum-both : {A : Type 0} (f g h : A → ℤ) (xs : List A) → ((x : A) → f x +ℤ g x ≡ h x) → sum_of f xs +ℤ sum_of g xs ≡ sum_of h xs
sum-both f g h [] each = refl
sum-both f g h (x ∷ xs) each = omega (arith, ints, sum-both f g h xs each, each x)

sum-map : {A B : Type 0} (f : A → B) (g : B → ℤ) (xs : List A) → sum_of g (map f xs) ≡ sum_of (λ x. g (f x)) xs
sum-map f g [] = refl
sum-map f g (x ∷ xs) = ap (λ z. g (f x) +ℤ z) (sum-map f g xs)

-- What is named adds up to what is picked.

abbrev amount_in : NamedMove → ℤ
amount_in v = v.moved.amount

abbrev moved_in : Moved → ℤ
moved_in v = v.amount

abbrev picked : (Entry → List Moved) → Entry → ℤ
picked pick e = sum_of moved_in (pick e)

deposit-each : (c : Option (List ℕ)) (m n : ℕ) (d : Deposit) (vs : List Moved) → sum_of amount_in (flat_map (named c m n (entry.Deposit d)) vs) ≡ sum_of moved_in vs
deposit-each c m n d [] = refl
deposit-each c m n d (v ∷ vs) = ap (λ z. v.amount +ℤ z) (deposit-each c m n d vs)

payment-each : (c : Option (List ℕ)) (m n : ℕ) (p : Payment) (vs : List Moved) → sum_of amount_in (flat_map (named c m n (entry.Payment p)) vs) ≡ sum_of moved_in vs
payment-each c m n p [] = refl
payment-each c m n p (v ∷ vs) = ap (λ z. v.amount +ℤ z) (payment-each c m n p vs)

-- a pick that picks nothing of what moves nothing
abbrev PicksMoves : (Entry → List Moved) → Type 0
PicksMoves pick = (e : Entry) → moves_of e ≡ [] → pick e ≡ []

each-named : (pick : Entry → List Moved) → PicksMoves pick → (c : Option (List ℕ)) (m n : ℕ) (e : Entry) → sum_of amount_in (flat_map (named c m n e) (pick e)) ≡ picked pick e
each-named pick none c m n (entry.Deposit d) = deposit-each c m n d (pick (entry.Deposit d))
each-named pick none c m n (entry.Payment p) = payment-each c m n p (pick (entry.Payment p))
each-named pick none c m n (entry.Fee f) = ap (λ (vs : List Moved). sum_of amount_in (flat_map (named c m n (entry.Fee f)) vs)) (none (entry.Fee f) refl) ∙ sym (ap (sum_of moved_in) (none (entry.Fee f) refl))
each-named pick none c m n (entry.Claim k) = ap (λ (vs : List Moved). sum_of amount_in (flat_map (named c m n (entry.Claim k)) vs)) (none (entry.Claim k) refl) ∙ sym (ap (sum_of moved_in) (none (entry.Claim k) refl))

pub named-sum : (pick : Entry → List Moved) → PicksMoves pick → (c : Option (List ℕ)) (rows : List (ℕ × Row)) → sum_moved (named_in pick c rows) ≡ sum_of (λ (q : ℕ × Row). of_row (picked pick) q.1) rows
named-sum pick none c [] = refl
named-sum pick none c ((m, HeadRow h) ∷ rows) = omega (arith, ints, named-sum pick none (client_of h.holder) rows)
named-sum pick none c ((m, SeatRow s) ∷ rows) = omega (arith, ints, named-sum pick none c rows)
named-sum pick none c ((m, EntryRow n e) ∷ rows) = omega (arith, ints, sum-append amount_in (flat_map (named c m n e) (pick e)) (named_in pick c rows), each-named pick none c m n e, named-sum pick none c rows)

filter-picks : (test : Moved → Bool) → PicksMoves (λ e. filter test (moves_of e))
filter-picks test e none = ap (filter test) none

own-sum : (test : Moved → Bool) (ls : List FirmLine) → sum_moved (map own_named (filter (λ l. test (own_moved l)) ls)) ≡ sum_of (λ (l : FirmLine). cond (test (own_moved l)) l.amount (pos 0)) ls
own-sum test ls = sum-map own_named amount_in (filter (λ l. test (own_moved l)) ls) ∙ sum-filter (λ l. test (own_moved l)) (λ (l : FirmLine). l.amount) ls

where-sum : (test : Moved → Bool) (firm : Firm) → sum_moved (moves_where test firm) ≡ sum_of (λ (q : ℕ × Row). of_row (picked (λ e. filter test (moves_of e))) q.1) firm.rows +ℤ sum_of (λ (l : FirmLine). cond (test (own_moved l)) l.amount (pos 0)) firm.firm_lines
where-sum test firm =
    omega (arith, ints, sum-append amount_in (named_in (λ e. filter test (moves_of e)) None firm.rows) (map own_named (filter (λ l. test (own_moved l)) firm.firm_lines)), named-sum (λ e. filter test (moves_of e)) (filter-picks test) None firm.rows, own-sum test firm.firm_lines)

-- The period.

module _ (from to : ℕ) where
  abbrev within : Event → ℤ
  within e = cond (nat_le from e.day && nat_le e.day to) e.amount (pos 0)

  one-side : (b c : Bool) (z : ℤ) → cond (b && not c) z (pos 0) +ℤ cond (b && c) z (pos 0) ≡ cond b z (pos 0)
  one-side b c z = grind (arith, ints)

  sides : (vs : List Moved) → sum_of moved_in (filter (is_received_within from to) vs) +ℤ sum_of moved_in (filter (is_disbursed_within from to) vs) ≡ sum_of (λ v. within (event_in v)) vs
  sides vs =
      let r = sum-filter (is_received_within from to) moved_in vs in
      let d = sum-filter (is_disbursed_within from to) moved_in vs in
      let both = sum-both (λ v. cond (is_received_within from to v) v.amount (pos 0)) (λ v. cond (is_disbursed_within from to v) v.amount (pos 0)) (λ v. within (event_in v)) vs (λ v. one-side (is_within from to v) (is_disbursed v) v.amount) in
      omega (arith, ints, r, d, both)

  entry-sides : (e : Entry) → picked (λ e. filter (is_received_within from to) (moves_of e)) e +ℤ picked (λ e. filter (is_disbursed_within from to) (moves_of e)) e ≡ events_share within e
  entry-sides e = sides (moves_of e) ∙ (sym (sum-map event_in within (moves_of e)) ∙ ap (sum_of within) (moves-events e))

  row-sides : (r : Row) → of_row (picked (λ e. filter (is_received_within from to) (moves_of e))) r +ℤ of_row (picked (λ e. filter (is_disbursed_within from to) (moves_of e))) r ≡ of_row (events_share within) r
  row-sides (HeadRow h) = refl
  row-sides (SeatRow s) = refl
  row-sides (EntryRow n e) = entry-sides e

  change : from ≤ to → (d : ℕ) (z : ℤ) → cond (nat_le from d && nat_le d to) z (pos 0) +ℤ cond (nat_lt d from) z (pos 0) ≡ cond (nat_le d to) z (pos 0)
  change le d z = grind (arith, ints, nat_tests)

  journal-change : (firm : Firm) → from ≤ to → sum_of (λ v. within (event_of v)) firm.movements ≡ journal to firm -ℤ journal_before from firm
  journal-change firm le =
      let after = sum-filter (is_moved_by to) (λ (v : Movement). v.amount) firm.movements in
      let before = sum-filter (λ (v : Movement). nat_lt v.day from) (λ (v : Movement). v.amount) firm.movements in
      let both = sum-both (λ (v : Movement). within (event_of v)) (λ v. cond (nat_lt v.day from) v.amount (pos 0)) (λ v. cond (is_moved_by to v) v.amount (pos 0)) firm.movements (λ v. change le v.day v.amount) in
      omega (arith, ints, after, before, both)

pub periods-agree : PeriodsAgree
periods-agree from to firm sound le =
    let r = order-sum is_earlier amount_in (moves_where (is_received_within from to) firm) in
    let d = order-sum is_earlier amount_in (moves_where (is_disbursed_within from to) firm) in
    let rows = sum-both (λ (q : ℕ × Row). of_row (picked (λ e. filter (is_received_within from to) (moves_of e))) q.1) (λ (q : ℕ × Row). of_row (picked (λ e. filter (is_disbursed_within from to) (moves_of e))) q.1) (λ (q : ℕ × Row). of_row (events_share (within from to)) q.1) firm.rows (λ q. row-sides from to q.1) in
    let own = sum-both (λ (l : FirmLine). cond (is_received_within from to (own_moved l)) l.amount (pos 0)) (λ l. cond (is_disbursed_within from to (own_moved l)) l.amount (pos 0)) (λ l. within from to (line_event l)) firm.firm_lines (λ l. one-side from to (is_within from to (own_moved l)) (is_disbursed (own_moved l)) l.amount) in
    omega (arith, ints, r, d, where-sum (is_received_within from to) firm, where-sum (is_disbursed_within from to) firm, rows, own, agree (within from to) firm sound, journal-change from to firm le)

-- What waits.

wait-picks : (test : Entry → Bool) → PicksMoves (λ e. cond (test e) (booking_of (moves_of e)) [])
wait-picks test e none = cases (test e)
  where
    cases : (b : Bool) → cond b (booking_of (moves_of e)) [] ≡ []
    cases true = ap booking_of none
    cases false = refl

transit-each : (p : ℕ) (e : Entry) → picked (λ e. cond (is_in_transit p e) (booking_of (moves_of e)) []) e ≡ transit_share p e
transit-each p e = grind (arith, ints, nat_tests)

out-each : (p : ℕ) (e : Entry) → picked (λ e. cond (is_outstanding p e) (booking_of (moves_of e)) []) e ≡ pos 0 -ℤ outstanding_share p e
out-each p e = grind (arith, ints, nat_tests)

less-all : {A : Type 0} (f g : A → ℤ) (xs : List A) → ((x : A) → f x ≡ pos 0 -ℤ g x) → sum_of f xs ≡ pos 0 -ℤ sum_of g xs
less-all f g [] each = refl
less-all f g (x ∷ xs) each = omega (arith, ints, less-all f g xs each, each x)

pub waits-agree : WaitsAlwaysAgree
waits-agree p firm =
    let t = named-sum (λ e. cond (is_in_transit p e) (booking_of (moves_of e)) []) (wait-picks (is_in_transit p)) None firm.rows in
    let o = named-sum (λ e. cond (is_outstanding p e) (booking_of (moves_of e)) []) (wait-picks (is_outstanding p)) None firm.rows in
    let ordered = order-sum is_earlier amount_in (named_in (λ e. cond (is_in_transit p e) (booking_of (moves_of e)) []) None firm.rows) in
    let placed = order-sum is_earlier amount_in (named_in (λ e. cond (is_outstanding p e) (booking_of (moves_of e)) []) None firm.rows) in
    record {
      transit = ordered ∙ (t ∙ (sym (all-entries (picked (λ e. cond (is_in_transit p e) (booking_of (moves_of e)) [])) firm.rows) ∙ (sum-same (picked (λ e. cond (is_in_transit p e) (booking_of (moves_of e)) [])) (transit_share p) (entries_in firm.rows) (transit-each p) ∙ sym (transit-shares p firm))));
      out = omega (arith, ints, placed, o, all-entries (picked (λ e. cond (is_outstanding p e) (booking_of (moves_of e)) [])) firm.rows, less-all (picked (λ e. cond (is_outstanding p e) (booking_of (moves_of e)) [])) (outstanding_share p) (entries_in firm.rows) (out-each p), outstanding-shares p firm);
    }
