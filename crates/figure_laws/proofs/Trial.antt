-- What the trial balance's sink keeps of rows in order.
use Rattle.figure_laws.proofs.Names.{◌≡◌, ℕ, ◌*◌, ◌<◌, Bool, true, false, cond, List, [], ◌∷◌, ◌++◌, length, map, refl, sym, ap, ◌∙◌, subst, arith, append_assoc, append-nil, ℤ, pos, ◌+ℤ◌, ◌-ℤ◌, ◌==◌, is_none, fold, AllByRecursion, int_wrap, w128, FitsSigned, ints, int_wrap-add_left, int_wrap_fits, nat_tests, map-append, Head, ledger, TrialLine, sum_of, Row, HeadRow, SeatRow, EntryRow, Firm, of, ledger_share, row_share, IsInOrder, balance_of, AreCountable, IsRowInRange, IsFirmLineInRange, FirmLine, IsAmount, DepositState, PaymentState, Entry, entry_amount, cleared_deposit, held_deposit, paid, total_share, held_share, added, all-map, open_matters, trial_lines, add_last, TrialKept, no_trial, with_trial_row, with_trial_own, trial_total, TrialIsKept, TotalIsKept, at, sum-same, of_row, rows-entries, shares-ledger, row-share}
use Rattle.firm_figures.proofs.Sizes.{IsWithin, MOST, CENTS, WHOLE, sum-within, wider, tested, bank-within, amount-within, out-within, none-within, fits, narrow, added-from}
use Rattle.figure_laws.proofs.Lists.{trial-sum}
use Rattle.firm_figures.proofs.Tidy.{After, Tidy, ordered-tidy}

-- The same step without 128 bits.

abbrev place : ℕ → ℤ → List TrialLine → List TrialLine
place m z [] = []
place m z (l ∷ []) = record l { ledger = l.ledger +ℤ cond (l.matter == m) z (pos 0) } ∷ []
place m z (l ∷ k ∷ ls) = l ∷ place m z (k ∷ ls)

abbrev opened : ℕ → Head → List TrialLine
opened m h = cond (is_none h.closed) (record { matter = m; ledger = pos 0 } ∷ []) []

abbrev placed : List TrialLine → ℕ × Row → List TrialLine
placed ls (m, HeadRow h) = ls ++ opened m h
placed ls (m, SeatRow seat) = ls
placed ls (m, EntryRow n e) = place m (ledger_share e) ls

-- only the last line is touched
place-last : (m : ℕ) (z : ℤ) (front : List TrialLine) (l : TrialLine) → place m z (front ++ l ∷ []) ≡ front ++ place m z (l ∷ [])
place-last m z [] l = refl
place-last m z (x ∷ []) l = refl
place-last m z (x ∷ y ∷ front) l = ap (λ ls. x ∷ ls) (place-last m z (y ∷ front) l)

fold-last : (front : List TrialLine) (l : TrialLine) (xs : List (ℕ × Row)) → fold placed (front ++ l ∷ []) xs ≡ front ++ fold placed (l ∷ []) xs
fold-last front l [] = refl
fold-last front l ((m, HeadRow h) ∷ xs) = cases (is_none h.closed) (fold-last front l xs) (fold-last (front ++ l ∷ []) (record { matter = m; ledger = pos 0 }) xs) (fold-last (l ∷ []) (record { matter = m; ledger = pos 0 }) xs)
  where
    cases : (b : Bool) → fold placed (front ++ l ∷ []) xs ≡ front ++ fold placed (l ∷ []) xs → fold placed ((front ++ l ∷ []) ++ record { matter = m; ledger = pos 0 } ∷ []) xs ≡ (front ++ l ∷ []) ++ fold placed (record { matter = m; ledger = pos 0 } ∷ []) xs → fold placed (l ∷ record { matter = m; ledger = pos 0 } ∷ []) xs ≡ l ∷ fold placed (record { matter = m; ledger = pos 0 } ∷ []) xs → fold placed ((front ++ l ∷ []) ++ cond b (record { matter = m; ledger = pos 0 } ∷ []) []) xs ≡ front ++ fold placed (l ∷ cond b (record { matter = m; ledger = pos 0 } ∷ []) []) xs
    cases true same more one = more ∙ (append_assoc front (l ∷ []) (fold placed (record { matter = m; ledger = pos 0 } ∷ []) xs) ∙ ap (λ ls. front ++ ls) (sym one))
    cases false same more one = ap (λ ls. fold placed ls xs) (append-nil (front ++ l ∷ [])) ∙ same
fold-last front l ((m, SeatRow seat) ∷ xs) = fold-last front l xs
fold-last front l ((m, EntryRow n e) ∷ xs) =
    ap (λ ls. fold placed ls xs) (place-last m (ledger_share e) front l)
    ∙ fold-last front (record l { ledger = l.ledger +ℤ cond (l.matter == m) (ledger_share e) (pos 0) }) xs

-- What each matter's rows add.

abbrev sum_at : ℕ → List (ℕ × Row) → ℤ
sum_at k xs = sum_of (at (λ (p : ℕ × Row). p.0) (λ (p : ℕ × Row). row_share p.1) k) xs

abbrev line_of : ℕ → List (ℕ × Row) → TrialLine
line_of k xs = record { matter = k; ledger = sum_at k xs }

abbrev told : List (ℕ × Row) → List TrialLine
told xs = map (λ k. line_of k xs) (open_matters xs)

-- two ways to tell the lines of greater matters
open-same : (f g : ℕ → TrialLine) (m : ℕ) (xs : List (ℕ × Row)) → AllByRecursion (After m) xs → ((k : ℕ) → m < k → f k ≡ g k) → map f (open_matters xs) ≡ map g (open_matters xs)
open-same f g m [] all same = refl
open-same f g m (q ∷ xs) all same = grind (arith, ints, nat_tests, is_none, (open-same f g m xs all.1 same))

no-share : (b : Bool) (z : ℤ) → cond b (pos 0) (pos 0) +ℤ z ≡ z
no-share b z = grind (arith, ints)

-- a row of matter m adds nothing to a greater one
skipped : (m k : ℕ) (z s : ℤ) → m < k → cond (m == k) z (pos 0) +ℤ s ≡ s
skipped m k z s lt = let apart : (m == k) ≡ false = grind (arith, nat_tests) in rw apart (omega (arith, ints))

told-past : (m : ℕ) (r : Row) (xs : List (ℕ × Row)) → AllByRecursion (After m) xs → map (λ k. line_of k ((m, r) ∷ xs)) (open_matters xs) ≡ told xs
told-past m r xs all = open-same (λ k. line_of k ((m, r) ∷ xs)) (λ k. line_of k xs) m xs all (λ k lt. λ i. record { matter = k; ledger = skipped m k (row_share r) (sum_at k xs) lt i })

-- the rows of greater matters add nothing
none-of : (k m : ℕ) (xs : List (ℕ × Row)) → k < m → AllByRecursion (After m) xs → sum_at k xs ≡ pos 0
none-of k m [] lt all = refl
none-of k m (q ∷ xs) lt all = grind (arith, ints, nat_tests, (none-of k m xs lt all.1))

-- The fold.

-- with one line, whose matter may go on
one-line : (l : TrialLine) (xs : List (ℕ × Row)) → AllByRecursion (After l.matter) xs → Tidy xs → fold placed (l ∷ []) xs ≡ record l { ledger = l.ledger +ℤ sum_at l.matter xs } ∷ told xs
one-line l [] all tidy = λ i. record l { ledger = (let e : l.ledger ≡ l.ledger +ℤ pos 0 = omega (arith, ints) in e) i } ∷ []
one-line l ((m, HeadRow h) ∷ xs) all tidy =
    cases (is_none h.closed) (one-line l xs all.1 tidy.1) (one-line (record { matter = m; ledger = pos 0 }) xs tidy.0 tidy.1)
  where
    lt : l.matter < m
    lt = all.0.1 refl

    past : sum_at l.matter ((m, HeadRow h) ∷ xs) ≡ sum_at l.matter xs
    past = no-share (m == l.matter) (sum_at l.matter xs)

    mine : sum_at m ((m, HeadRow h) ∷ xs) ≡ pos 0 +ℤ sum_at m xs
    mine = no-share (m == m) (sum_at m xs) ∙ omega (arith, ints)

    nothing : l.ledger ≡ l.ledger +ℤ sum_at l.matter ((m, HeadRow h) ∷ xs)
    nothing = omega (arith, ints, past, none-of l.matter m xs lt tidy.0)

    rest : told xs ≡ map (λ k. line_of k ((m, HeadRow h) ∷ xs)) (open_matters xs)
    rest = sym (told-past m (HeadRow h) xs tidy.0)

    cases : (b : Bool) → fold placed (l ∷ []) xs ≡ record l { ledger = l.ledger +ℤ sum_at l.matter xs } ∷ told xs → fold placed (record { matter = m; ledger = pos 0 } ∷ []) xs ≡ record { matter = m; ledger = pos 0 +ℤ sum_at m xs } ∷ told xs → fold placed (l ∷ cond b (record { matter = m; ledger = pos 0 } ∷ []) []) xs ≡ record l { ledger = l.ledger +ℤ sum_at l.matter ((m, HeadRow h) ∷ xs) } ∷ map (λ k. line_of k ((m, HeadRow h) ∷ xs)) (cond b (m ∷ open_matters xs) (open_matters xs))
    cases true same new =
        fold-last (l ∷ []) (record { matter = m; ledger = pos 0 }) xs
        ∙ (ap (λ ls. l ∷ ls) new ∙ (λ i. record l { ledger = nothing i } ∷ record { matter = m; ledger = sym mine i } ∷ rest i))
    cases false same new = same ∙ (λ i. record l { ledger = l.ledger +ℤ sym past i } ∷ rest i)
one-line l ((m, SeatRow seat) ∷ xs) all tidy =
    one-line l xs all.1 tidy.1 ∙ (λ i. record l { ledger = l.ledger +ℤ sym (no-share (m == l.matter) (sum_at l.matter xs)) i } ∷ sym (told-past m (SeatRow seat) xs tidy.0) i)
one-line l ((m, EntryRow n e) ∷ xs) all tidy =
    one-line (record l { ledger = l.ledger +ℤ cond (l.matter == m) (ledger_share e) (pos 0) }) xs all.1 tidy.1
    ∙ (λ i. record l { ledger = joined i } ∷ sym (told-past m (EntryRow n e) xs tidy.0) i)
  where
    turned : (l.matter == m) ≡ (m == l.matter)
    turned = grind (arith, nat_tests)

    joined : (l.ledger +ℤ cond (l.matter == m) (ledger_share e) (pos 0)) +ℤ sum_at l.matter xs ≡ l.ledger +ℤ (cond (m == l.matter) (ledger_share e) (pos 0) +ℤ sum_at l.matter xs)
    joined = ap (λ b. (l.ledger +ℤ cond b (ledger_share e) (pos 0)) +ℤ sum_at l.matter xs) turned ∙ omega (arith, ints)

-- with none
no-line : (xs : List (ℕ × Row)) → Tidy xs → fold placed [] xs ≡ told xs
no-line [] tidy = refl
no-line ((m, HeadRow h) ∷ xs) tidy =
    grind (arith, ints, nat_tests, is_none, one-line, no-share, told-past, (no-line xs tidy.1))
no-line ((m, SeatRow seat) ∷ xs) tidy = no-line xs tidy.1 ∙ sym (told-past m (SeatRow seat) xs tidy.0)
no-line ((m, EntryRow n e) ∷ xs) tidy = no-line xs tidy.1 ∙ sym (told-past m (EntryRow n e) xs tidy.0)

-- In 128 bits.

zero-wrapped : int_wrap w128 (pos 0) ≡ pos 0
unfolding int_wrap
zero-wrapped = refl

abbrev in_bits : TrialLine → TrialLine
in_bits l = record l { ledger = int_wrap w128 l.ledger }

add-bits : (m : ℕ) (z : ℤ) (ls : List TrialLine) → add_last m z (map in_bits ls) ≡ map in_bits (place m z ls)
unfolding added
add-bits m z [] = refl
add-bits m z (l ∷ []) = grind (arith, ints, nat_tests, int_wrap-add_left)
add-bits m z (l ∷ k ∷ ls) = ap (λ xs. in_bits l ∷ xs) (add-bits m z (k ∷ ls))

head-bits : (b : Bool) (m : ℕ) (ls : List TrialLine) → cond b (map in_bits ls ++ (record { matter = m; ledger = pos 0 } ∷ [])) (map in_bits ls) ≡ map in_bits (ls ++ cond b (record { matter = m; ledger = pos 0 } ∷ []) [])
head-bits b m ls = grind (arith, ints, nat_tests, zero-wrapped, map-append, append-nil)

fold-bits : (ls : List TrialLine) (z : ℤ) (xs : List (ℕ × Row)) → (fold with_trial_row (record { lines = map in_bits ls; own = z }) xs).lines ≡ map in_bits (fold placed ls xs)
fold-bits ls z [] = refl
fold-bits ls z ((m, HeadRow h) ∷ xs) = (λ i. (fold with_trial_row (record { lines = head-bits (is_none h.closed) m ls i; own = z }) xs).lines) ∙ fold-bits (ls ++ opened m h) z xs
fold-bits ls z ((m, SeatRow seat) ∷ xs) = fold-bits ls z xs
fold-bits ls z ((m, EntryRow n e) ∷ xs) = (λ i. (fold with_trial_row (record { lines = add-bits m (ledger_share e) ls i; own = z }) xs).lines) ∙ fold-bits (place m (ledger_share e) ls) z xs

bits-same : (ls : List TrialLine) → AllByRecursion (λ l. FitsSigned w128 l.ledger) ls → map in_bits ls ≡ ls
bits-same [] fits = refl
bits-same (l ∷ ls) fits = λ i. record l { ledger = int_wrap_fits w128 l.ledger fits.0 i } ∷ bits-same ls fits.1 i

map-each : (f g : ℕ → TrialLine) (ms : List ℕ) → ((m : ℕ) → f m ≡ g m) → map f ms ≡ map g ms
map-each f g [] same = refl
map-each f g (m ∷ ms) same = λ i. same m i ∷ map-each f g ms same i

-- what the rows of a matter add is its ledger
sum-ledger : (firm : Firm) (m : ℕ) → sum_at m firm.rows ≡ ledger (of m firm).entries
sum-ledger firm m =
    sum-same (at (λ (p : ℕ × Row). p.0) (λ (p : ℕ × Row). row_share p.1) m) (at (λ (p : ℕ × Row). p.0) (λ (p : ℕ × Row). of_row ledger_share p.1) m) firm.rows (λ p. ap (λ z. cond (p.0 == m) z (pos 0)) (sym (row-share p.1)))
    ∙ (rows-entries ledger_share m firm.rows ∙ shares-ledger (of m firm).entries)

lines-kept : (firm : Firm) → IsInOrder firm → AllByRecursion (λ l. FitsSigned w128 l.ledger) (trial_lines firm) → (fold with_trial_row no_trial firm.rows).lines ≡ trial_lines firm
lines-kept firm order fits =
    fold-bits [] (pos 0) firm.rows
    ∙ (ap (map in_bits) (no-line firm.rows (ordered-tidy firm order) ∙ map-each (λ k. line_of k firm.rows) (λ m. record { matter = m; ledger = ledger (of m firm).entries }) (open_matters firm.rows) (λ m. λ i. record { matter = m; ledger = sum-ledger firm m i }))
    ∙ bits-same (trial_lines firm) fits)

-- Every sum fits.

deposit-within : (s : DepositState) (n : ℕ) → IsAmount n → IsWithin CENTS (cleared_deposit s n +ℤ held_deposit s n)
deposit-within s n is = grind (arith, ints, nat_tests, amount-within, none-within)

payment-within : (s : PaymentState) (n : ℕ) → IsAmount n → IsWithin CENTS ((pos 0 -ℤ paid s n) +ℤ pos 0)
payment-within s n is = grind (arith, ints, nat_tests, none-within, out-within)

entry-within : (e : Entry) → IsAmount (entry_amount e) → IsWithin CENTS (ledger_share e)
unfolding total_share held_share
entry-within e is = grind (arith, ints, nat_tests, deposit-within, payment-within, none-within)

row-within : (p : ℕ × Row) → IsRowInRange p → IsWithin CENTS (row_share p.1)
row-within (m, HeadRow h) is = none-within
row-within (m, SeatRow s) is = none-within
row-within (m, EntryRow n e) is = entry-within e is

-- a sum over the rows
rows-within : (f : ℕ × Row → ℤ) (rows : List (ℕ × Row)) → AreCountable IsRowInRange rows → ((p : ℕ × Row) → IsRowInRange p → IsWithin MOST (f p)) → IsWithin WHOLE (sum_of f rows)
rows-within f rows is each =
    let few = is.few in
    wider (length rows * MOST) WHOLE _ (omega arith) (sum-within f rows (all-map IsRowInRange (λ p. IsWithin MOST (f p)) rows each is.ranged))

ledger-within : (firm : Firm) (m : ℕ) → AreCountable IsRowInRange firm.rows → IsWithin WHOLE (ledger (of m firm).entries)
ledger-within firm m is = subst (IsWithin WHOLE) (sum-ledger firm m) (rows-within (at (λ (p : ℕ × Row). p.0) (λ (p : ℕ × Row). row_share p.1) m) firm.rows is (λ p h. wider CENTS MOST _ (omega arith) (tested CENTS (p.0 == m) (row_share p.1) (row-within p h))))

each-fits : (firm : Firm) (ms : List ℕ) → AreCountable IsRowInRange firm.rows → AllByRecursion (λ (l : TrialLine). FitsSigned w128 l.ledger) (map (λ m. record { matter = m; ledger = ledger (of m firm).entries }) ms)
each-fits firm [] is = tt
each-fits firm (m ∷ ms) is = (narrow _ (ledger-within firm m is), each-fits firm ms is)

own-within : (lines : List FirmLine) → AreCountable IsFirmLineInRange lines → IsWithin WHOLE (balance_of lines)
own-within lines is =
    let few = is.few in
    wider (length lines * MOST) WHOLE _ (omega arith) (sum-within (λ (l : FirmLine). l.amount) lines (all-map IsFirmLineInRange (λ (l : FirmLine). IsWithin MOST l.amount) lines (λ l. bank-within l.amount) is.ranged))

-- The firm's own balance.

rows-own : (s : TrialKept) (xs : List (ℕ × Row)) → (fold with_trial_row s xs).own ≡ s.own
rows-own s [] = refl
rows-own s (q ∷ xs) = grind (arith, (rows-own (with_trial_row s q) xs))

own-from : (ls : List TrialLine) (z : ℤ) (lines : List FirmLine) → fold with_trial_own (record { lines = ls; own = int_wrap w128 z }) lines ≡ record { lines = ls; own = int_wrap w128 (z +ℤ balance_of lines) }
unfolding added
own-from ls z [] = λ i. record { lines = ls; own = int_wrap w128 ((let e : z ≡ z +ℤ pos 0 = omega (arith, ints) in e) i) }
own-from ls z (l ∷ lines) =
    (λ i. fold with_trial_own (record { lines = ls; own = int_wrap-add_left w128 z l.amount i }) lines)
    ∙ (own-from ls (z +ℤ l.amount) lines ∙ (λ i. record { lines = ls; own = int_wrap w128 ((let e : (z +ℤ l.amount) +ℤ balance_of lines ≡ z +ℤ (l.amount +ℤ balance_of lines) = omega (arith, ints) in e) i) }))

pub trial-kept : TrialIsKept
trial-kept firm order some few =
    let rows : fold with_trial_row no_trial firm.rows ≡ record { lines = trial_lines firm; own = int_wrap w128 (pos 0) } =
    λ i. record { lines = lines-kept firm order (each-fits firm (open_matters firm.rows) some) i; own = (rows-own no_trial firm.rows ∙ sym zero-wrapped) i } in
    let own : pos 0 +ℤ balance_of firm.firm_lines ≡ balance_of firm.firm_lines = omega (arith, ints) in
    ap (λ s. fold with_trial_own s firm.firm_lines) rows
    ∙ (own-from (trial_lines firm) (pos 0) firm.firm_lines
    ∙ (λ i. record { lines = trial_lines firm; own = (ap (int_wrap w128) own ∙ int_wrap_fits w128 (balance_of firm.firm_lines) (narrow _ (own-within firm.firm_lines few))) i }))

-- TOTAL.

pub total-kept : TotalIsKept
total-kept firm sound some few =
    let own = own-within firm.firm_lines few in
    let lines = subst (IsWithin WHOLE) (sym (trial-sum firm sound)) (rows-within (λ (p : ℕ × Row). row_share p.1) firm.rows some (λ p h. wider CENTS MOST _ (omega arith) (row-within p h))) in
    let same : balance_of firm.firm_lines +ℤ sum_of (λ (l : TrialLine). l.ledger) (trial_lines firm) ≡ trial_total firm = omega (arith, ints) in
    let total = fits (trial_total firm) (record { low = omega (arith, ints, own.low, lines.low); high = omega (arith, ints, own.high, lines.high) }) in
    ap (λ z. fold (λ y (l : TrialLine). added y l.ledger) z (trial_lines firm)) (sym (int_wrap_fits w128 (balance_of firm.firm_lines) (narrow _ own)))
    ∙ (added-from (λ (l : TrialLine). l.ledger) (balance_of firm.firm_lines) (trial_lines firm) ∙ (ap (int_wrap w128) same ∙ int_wrap_fits w128 (trial_total firm) total))
