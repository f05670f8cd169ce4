-- What the sink stores of a firm is the list that it was made for.
use Rattle.firm_periods.proofs.Names.{◌≡◌, ℕ, ◌+◌, ◌*◌, ◌≤◌, Bool, true, false, cond, List, [], ◌∷◌, ◌++◌, length, map, Option, None, refl, sym, ap, ◌∙◌, subst, append-nil, append_assoc, arith, ℤ, pos, ◌+ℤ◌, ◌-ℤ◌, ◌&&◌, ◌||◌, fold, filter, flat_map, list_any, AllByRecursion, int_wrap, w128, int_wrap_fits, ints, Entry, entry_amount, IsAmount, FirmLine, Row, HeadRow, SeatRow, EntryRow, Firm, AreCountable, IsRowInRange, IsFirmLineInRange, in_order, is_in_transit, is_outstanding, added}
use Rattle.trust_base.specs.Periods.{Span}
use Rattle.matter_rows.specs.declared.head.Head.{Head}
use Rattle.firm_figures.specs.Purged.{is_head_purged_at, is_purged_at, is_row_purged_at}
use Rattle.matter_rows.specs.declared.entry.Entry.TheVariants as entry
use Rattle.matter_rows.specs.declared.deposit.Deposit.{Deposit}
use Rattle.matter_rows.specs.declared.payment.Payment.{Payment}
use Rattle.firm_figures.proofs.Sizes.{IsWithin, MOST, CENTS, sum-within, wider, fits, added-from, amount-within, out-within, bank-within}
use Rattle.firm_periods.specs.declared.moved.Moved.{Moved}
use Rattle.firm_periods.specs.declared.moved.NamedMove.{NamedMove}
use Rattle.firm_periods.specs.declared.named_sink.Pick.{Pick}
use Rattle.firm_periods.specs.declared.named_sink.Pick.TheVariants as pick
use Rattle.firm_periods.specs.Named.{moves_of, booking_of, client_of, named, named_in, own_moved, own_named, is_earlier, sum_moved, NamedKept, none_named, own_pick, pick_of, with_named_own, with_named_row, named_kept, named_sum, is_cut, is_head_cut, is_head_purged_within, is_row_purged_within, listed, NamedAreKept, is_purged_within, is_received_within, is_disbursed_within}
use Rattle.firm_periods.proofs.Named.{order-sum}

-- All that a list takes, in the order of the rows.
abbrev pub picked_moves : Pick → Firm → List NamedMove
picked_moves p firm =
    named_in (pick_of p) None firm.rows ++ map own_named (filter (λ l. own_pick p (own_moved l)) firm.firm_lines)

none-own : (ls : List FirmLine) → filter (λ l. false) ls ≡ []
none-own [] = refl
none-own (l ∷ ls) = none-own ls

picked-listed : (p : Pick) (firm : Firm) → in_order is_earlier (picked_moves p firm) ≡ listed p firm
picked-listed (pick.Receipts s) firm = refl
picked-listed (pick.Disbursements s) firm = refl
picked-listed (pick.Transit p) firm =
    let rows : List NamedMove = named_in (pick_of (pick.Transit p)) None firm.rows in
    ap (in_order is_earlier) (ap (λ (ls : List FirmLine). rows ++ map own_named ls) (none-own firm.firm_lines) ∙ append-nil rows)
picked-listed (pick.Outstanding p) firm =
    let rows : List NamedMove = named_in (pick_of (pick.Outstanding p)) None firm.rows in
    ap (in_order is_earlier) (ap (λ (ls : List FirmLine). rows ++ map own_named ls) (none-own firm.firm_lines) ∙ append-nil rows)

-- The fold.

rows-kept : (s : NamedKept) (rows : List (ℕ × Row)) → (fold with_named_row s rows).lines ≡ s.lines ++ named_in (pick_of s.pick) s.client rows
rows-kept s [] = sym (append-nil s.lines)
rows-kept s ((m, HeadRow h) ∷ rows) = rows-kept (with_named_row s (m, HeadRow h)) rows
rows-kept s ((m, SeatRow seat) ∷ rows) = rows-kept s rows
rows-kept s ((m, EntryRow n e) ∷ rows) = rows-kept (with_named_row s (m, EntryRow n e)) rows ∙ append_assoc s.lines (flat_map (named s.client m n e) (pick_of s.pick e)) (named_in (pick_of s.pick) s.client rows)

pick-stays : (s : NamedKept) (rows : List (ℕ × Row)) → (fold with_named_row s rows).pick ≡ s.pick
pick-stays s [] = refl
pick-stays s ((m, HeadRow h) ∷ rows) = pick-stays (with_named_row s (m, HeadRow h)) rows
pick-stays s ((m, SeatRow seat) ∷ rows) = pick-stays s rows
pick-stays s ((m, EntryRow n e) ∷ rows) = pick-stays (with_named_row s (m, EntryRow n e)) rows

own-kept : (s : NamedKept) (ls : List FirmLine) → (fold with_named_own s ls).lines ≡ s.lines ++ map own_named (filter (λ l. own_pick s.pick (own_moved l)) ls)
own-kept s [] = sym (append-nil s.lines)
own-kept s (l ∷ ls) = own-kept (with_named_own s l) ls ∙ (append_assoc s.lines (cond (own_pick s.pick (own_moved l)) (own_named l ∷ []) []) (map own_named (filter (λ l. own_pick s.pick (own_moved l)) ls)) ∙ ap (λ vs. s.lines ++ vs) (cases (own_pick s.pick (own_moved l))))
  where
    cases : (b : Bool) → cond b (own_named l ∷ []) [] ++ map own_named (filter (λ l. own_pick s.pick (own_moved l)) ls) ≡ map own_named (cond b (l ∷ filter (λ l. own_pick s.pick (own_moved l)) ls) (filter (λ l. own_pick s.pick (own_moved l)) ls))
    cases true = refl
    cases false = refl

lines-kept : (p : Pick) (firm : Firm) → (named_kept p firm).lines ≡ picked_moves p firm
lines-kept p firm =
    let rows : NamedKept = fold with_named_row (none_named p) firm.rows in
    own-kept rows firm.firm_lines
    ∙ (λ i. rows-kept (none_named p) firm.rows i ++ map own_named (filter (λ l. own_pick (pick-stays (none_named p) firm.rows i) (own_moved l)) firm.firm_lines))

-- Whether it is cut.

abbrev is_row_cut : Pick → ℕ × Row → Bool
is_row_cut p (m, HeadRow h) = is_head_cut p h
is_row_cut p (m, SeatRow seat) = false
is_row_cut p (m, EntryRow n e) = false

either : (a b c : Bool) → (b || (a || c)) ≡ ((a || b) || c)
either a b c = grind arith

rows-cut : (s : NamedKept) (rows : List (ℕ × Row)) → (fold with_named_row s rows).purged ≡ (list_any (is_row_cut s.pick) rows || s.purged)
rows-cut s [] = refl
rows-cut s ((m, HeadRow h) ∷ rows) = rows-cut (with_named_row s (m, HeadRow h)) rows ∙ either (is_row_cut s.pick (m, HeadRow h)) (list_any (is_row_cut s.pick) rows) s.purged
rows-cut s ((m, SeatRow seat) ∷ rows) = rows-cut s rows
rows-cut s ((m, EntryRow n e) ∷ rows) = rows-cut (with_named_row s (m, EntryRow n e)) rows

own-cut : (s : NamedKept) (ls : List FirmLine) → (fold with_named_own s ls).purged ≡ s.purged
own-cut s [] = refl
own-cut s (l ∷ ls) = own-cut (with_named_own s l) ls

any-same : (f g : ℕ × Row → Bool) → ((q : ℕ × Row) → f q ≡ g q) → (rows : List (ℕ × Row)) → list_any f rows ≡ list_any g rows
any-same f g each [] = refl
any-same f g each (q ∷ rows) = λ i. each q i || any-same f g each rows i

within-same : (s : Span) (p : Pick) → ((h : Head) → is_head_cut p h ≡ is_head_purged_within s h) → (q : ℕ × Row) → is_row_cut p q ≡ is_row_purged_within s q
within-same s p each (m, HeadRow h) = each h
within-same s p each (m, SeatRow seat) = refl
within-same s p each (m, EntryRow n e) = refl

at-same : (day : ℕ) (p : Pick) → ((h : Head) → is_head_cut p h ≡ is_head_purged_at day h) → (q : ℕ × Row) → is_row_cut p q ≡ is_row_purged_at day q
at-same day p each (m, HeadRow h) = each h
at-same day p each (m, SeatRow seat) = refl
at-same day p each (m, EntryRow n e) = refl

any-cut : (p : Pick) (firm : Firm) → list_any (is_row_cut p) firm.rows ≡ is_cut p firm
unfolding is_purged_within is_purged_at
any-cut (pick.Receipts s) firm = any-same _ _ (within-same s (pick.Receipts s) (λ h. refl)) firm.rows
any-cut (pick.Disbursements s) firm = any-same _ _ (within-same s (pick.Disbursements s) (λ h. refl)) firm.rows
any-cut (pick.Transit p) firm = any-same _ _ (at-same p (pick.Transit p) (λ h. refl)) firm.rows
any-cut (pick.Outstanding p) firm = any-same _ _ (at-same p (pick.Outstanding p) (λ h. refl)) firm.rows

or-nothing : (b : Bool) → (b || false) ≡ b
or-nothing b = grind arith

cut-kept : (p : Pick) (firm : Firm) → (named_kept p firm).purged ≡ is_cut p firm
cut-kept p firm =
    own-cut (fold with_named_row (none_named p) firm.rows) firm.firm_lines
    ∙ (rows-cut (none_named p) firm.rows ∙ (or-nothing (list_any (is_row_cut p) firm.rows) ∙ any-cut p firm))

-- Its sum: few movements, each of an amount in range.

abbrev AreFew : ℕ → List Moved → Type 0
AreFew n vs = AllByRecursion (λ (v : Moved). IsWithin MOST v.amount) vs × (length vs ≤ n)

in-range : (n : ℕ) → IsAmount n → IsWithin MOST (pos n)
in-range n is = wider CENTS MOST _ (omega arith) (amount-within n is)

out-range : (n : ℕ) → IsAmount n → IsWithin MOST (pos 0 -ℤ pos n)
out-range n is = wider CENTS MOST _ (omega arith) (out-within n is)

moves-few : (e : Entry) → IsAmount (entry_amount e) → AreFew 2 (moves_of e)
moves-few e is = grind (arith, ints, in-range, out-range)

filter-few : (test : Moved → Bool) (n : ℕ) (vs : List Moved) → AreFew n vs → AreFew n (filter test vs)
filter-few test n [] few = few
filter-few test n (v ∷ vs) few = cases (test v) n few.1 (λ k le. filter-few test k vs (few.0.1, le))
  where
    cases : (b : Bool) (n : ℕ) → length (v ∷ vs) ≤ n → ((k : ℕ) → length vs ≤ k → AreFew k (filter test vs)) → AreFew n (cond b (v ∷ filter test vs) (filter test vs))
    cases true n le rest = let more = rest (length vs) (omega arith) in ((few.0.0, more.0), omega (arith, more.1))
    cases false n le rest = rest n (omega arith)

booking-few : (n : ℕ) (vs : List Moved) → AreFew n vs → AreFew n (booking_of vs)
booking-few n [] few = few
booking-few n (v ∷ vs) few = ((few.0.0, tt), omega (arith, few.1))

none-few : (n : ℕ) → AreFew n []
none-few n = (tt, omega arith)

waiting-few : (b : Bool) (vs : List Moved) → AreFew 2 vs → AreFew 2 (cond b (booking_of vs) [])
waiting-few true vs few = booking-few 2 vs few
waiting-few false vs few = none-few 2

pick-few : (p : Pick) (e : Entry) → IsAmount (entry_amount e) → AreFew 2 (pick_of p e)
pick-few (pick.Receipts s) e is = filter-few (is_received_within s.from s.to) 2 (moves_of e) (moves-few e is)
pick-few (pick.Disbursements s) e is = filter-few (is_disbursed_within s.from s.to) 2 (moves_of e) (moves-few e is)
pick-few (pick.Transit p) e is = waiting-few (is_in_transit p e) (moves_of e) (moves-few e is)
pick-few (pick.Outstanding p) e is = waiting-few (is_outstanding p e) (moves_of e) (moves-few e is)

abbrev AreNamedFew : ℕ → List NamedMove → Type 0
AreNamedFew n vs = AllByRecursion (λ (v : NamedMove). IsWithin MOST v.moved.amount) vs × (length vs ≤ n)

deposit-few : (c : Option (List ℕ)) (m k n : ℕ) (d : Deposit) (vs : List Moved) → AreFew n vs → AreNamedFew n (flat_map (named c m k (entry.Deposit d)) vs)
deposit-few c m k n d [] few = few
deposit-few c m k n d (v ∷ vs) few = let more = deposit-few c m k (length vs) d vs (few.0.1, omega arith) in ((few.0.0, more.0), omega (arith, more.1, few.1))

payment-few : (c : Option (List ℕ)) (m k n : ℕ) (p : Payment) (vs : List Moved) → AreFew n vs → AreNamedFew n (flat_map (named c m k (entry.Payment p)) vs)
payment-few c m k n p [] few = few
payment-few c m k n p (v ∷ vs) few = let more = payment-few c m k (length vs) p vs (few.0.1, omega arith) in ((few.0.0, more.0), omega (arith, more.1, few.1))

-- what moves nothing is named nowhere
unnamed : (n : ℕ) (f : Moved → List NamedMove) → ((v : Moved) → f v ≡ []) → (vs : List Moved) → AreNamedFew n (flat_map f vs)
unnamed n f none [] = (tt, omega arith)
unnamed n f none (v ∷ vs) = subst (λ (us : List NamedMove). AreNamedFew n (us ++ flat_map f vs)) (sym (none v)) (unnamed n f none vs)

entry-few : (c : Option (List ℕ)) (m k : ℕ) (e : Entry) (vs : List Moved) → AreFew 2 vs → AreNamedFew 2 (flat_map (named c m k e) vs)
entry-few c m k (entry.Deposit d) vs few = deposit-few c m k 2 d vs few
entry-few c m k (entry.Payment p) vs few = payment-few c m k 2 p vs few
entry-few c m k (entry.Fee f) vs few = unnamed 2 (named c m k (entry.Fee f)) (λ v. refl) vs
entry-few c m k (entry.Claim q) vs few = unnamed 2 (named c m k (entry.Claim q)) (λ v. refl) vs

both-few : (a b : ℕ) (xs ys : List NamedMove) → AreNamedFew a xs → AreNamedFew b ys → AreNamedFew (a + b) (xs ++ ys)
both-few a b [] ys few more = (more.0, omega (arith, more.1))
both-few a b (x ∷ xs) ys few more = let rest = both-few (length xs) b xs ys (few.0.1, omega arith) more in ((few.0.0, rest.0), omega (arith, rest.1, few.1))

rows-few : (p : Pick) (c : Option (List ℕ)) (rows : List (ℕ × Row)) → AllByRecursion IsRowInRange rows → AreNamedFew (length rows * 2) (named_in (pick_of p) c rows)
rows-few p c [] all = (tt, omega arith)
rows-few p c ((m, HeadRow h) ∷ rows) all = let rest = rows-few p (client_of h.holder) rows all.1 in (rest.0, omega (arith, rest.1))
rows-few p c ((m, SeatRow seat) ∷ rows) all = let rest = rows-few p c rows all.1 in (rest.0, omega (arith, rest.1))
rows-few p c ((m, EntryRow n e) ∷ rows) all =
    let rest = both-few 2 (length rows * 2) _ _ (entry-few c m n e (pick_of p e) (pick-few p e all.0)) (rows-few p c rows all.1) in
    (rest.0, omega (arith, rest.1))

own-few : (p : Pick) (ls : List FirmLine) → AllByRecursion IsFirmLineInRange ls → AreNamedFew (length ls) (map own_named (filter (λ l. own_pick p (own_moved l)) ls))
own-few p [] all = (tt, omega arith)
own-few p (l ∷ ls) all = cases (own_pick p (own_moved l)) (own-few p ls all.1)
  where
    cases : (b : Bool) → AreNamedFew (length ls) (map own_named (filter (λ l. own_pick p (own_moved l)) ls)) → AreNamedFew (length (l ∷ ls)) (map own_named (cond b (l ∷ filter (λ l. own_pick p (own_moved l)) ls) (filter (λ l. own_pick p (own_moved l)) ls)))
    cases true rest = ((bank-within l.amount all.0, rest.0), omega (arith, rest.1))
    cases false rest = (rest.0, omega (arith, rest.1))

total-kept : (p : Pick) (firm : Firm) → AreCountable IsRowInRange firm.rows → AreCountable IsFirmLineInRange firm.firm_lines → named_sum (named_kept p firm) ≡ sum_moved (listed p firm)
total-kept p firm rows own =
    let few = both-few (length firm.rows * 2) (length firm.firm_lines) _ _ (rows-few p None firm.rows rows.ranged) (own-few p firm.firm_lines own.ranged) in
    let count = rows.few in
    let lines = own.few in
    let sum : ℤ = sum_moved (picked_moves p firm) in
    let size = wider (length (picked_moves p firm) * MOST) 170_141_183_460_469_231_731_687_303_715_884_105_727 sum (omega (arith, count, lines, few.1)) (sum-within (λ (v : NamedMove). v.moved.amount) (picked_moves p firm) few.0) in
    let none : pos 0 +ℤ sum ≡ sum = omega (arith, ints) in
    let zero : int_wrap w128 (pos 0) ≡ pos 0 = int_wrap_fits w128 (pos 0) (fits (pos 0) (record { low = omega (arith, ints); high = omega (arith, ints) })) in
    ap (λ (vs : List NamedMove). fold (λ z (v : NamedMove). added z v.moved.amount) (pos 0) vs) (lines-kept p firm)
    ∙ (ap (λ z. fold (λ y (v : NamedMove). added y v.moved.amount) z (picked_moves p firm)) (sym zero)
    ∙ (added-from (λ (v : NamedMove). v.moved.amount) (pos 0) (picked_moves p firm)
    ∙ (ap (int_wrap w128) none
    ∙ (int_wrap_fits w128 sum (fits sum size)
    ∙ (sym (order-sum is_earlier (λ (v : NamedMove). v.moved.amount) (picked_moves p firm))
    ∙ ap sum_moved (picked-listed p firm))))))

pub named-kept : NamedAreKept
named-kept p firm = record {
  lines = ap (in_order is_earlier) (lines-kept p firm) ∙ picked-listed p firm;
  purged = cut-kept p firm;
  total = total-kept p firm;
}
