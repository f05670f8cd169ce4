-- The matters that the trial balance lists are open.
use Rattle.figure_laws.proofs.Names.{◌≡◌, ℕ, ◌+◌, Bool, true, false, cond, List, [], ◌∷◌, ◌++◌, map, refl, sym, ap, ◌∙◌, arith, ◌==◌, ◌||◌, is_none, AllByRecursion, nat_tests, Seat, Entry, Rows, ledger, Row, HeadRow, SeatRow, EntryRow, Firm, of, pairs, head_pairs, seat_pairs, entry_pairs, passing, own-put, all-map, TrialLine, open_matters, is_open, ListedAreOpen}

-- one of the heads of a matter is open
abbrev some_open : ℕ → List (ℕ × Row) → Bool
some_open m [] = false
some_open m ((k, HeadRow h) ∷ xs) = cond (k == m) (is_none h.closed || some_open m xs) (some_open m xs)
some_open m ((k, SeatRow s) ∷ xs) = some_open m xs
some_open m ((k, EntryRow n e) ∷ xs) = some_open m xs

own-open : (m : ℕ) (xs : List (ℕ × Row)) → some_open m (passing (λ x. x == m) xs) ≡ some_open m xs
own-open m [] = refl
own-open m (q ∷ xs) = grind (arith, nat_tests, is_none, (own-open m xs))

entries-open : (m k n : ℕ) (es : List Entry) → some_open m (entry_pairs k n es) ≡ false
entries-open m k n [] = refl
entries-open m k n (e ∷ es) = entries-open m k (n + 1) es

seats-open : (m k : ℕ) (ss : List Seat) (rest : List (ℕ × Row)) → some_open m rest ≡ false → some_open m (seat_pairs k ss ++ rest) ≡ false
seats-open m k [] rest none = none
seats-open m k (s ∷ ss) rest none = seats-open m k ss rest none

itself : (m : ℕ) → (m == m) ≡ true
itself m = grind (arith, nat_tests)

or-none : (b c : Bool) → c ≡ false → (b || c) ≡ b
or-none b c is = grind arith

pairs-open : (m : ℕ) (rows : Rows) → some_open m (pairs m rows) ≡ is_open rows.head
pairs-open m rows = grind (arith, nat_tests, seats-open, entries-open, head_pairs, itself, or-none, is_none)

more-open : (b c : Bool) (d : Bool) → d ≡ true → cond b (c || d) d ≡ true
more-open b c d is = grind arith

listed : (xs : List (ℕ × Row)) → AllByRecursion (λ k. some_open k xs ≡ true) (open_matters xs)
listed [] = tt
listed (q ∷ xs) = grind (arith, nat_tests, is_none, all-map, more-open, itself, (listed xs))

lines-open : (firm : Firm) (ks : List ℕ) → AllByRecursion (λ k. is_open (of k firm).head ≡ true) ks → AllByRecursion (λ (l : TrialLine). is_open (of l.matter firm).head ≡ true) (map (λ m. record { matter = m; ledger = ledger (of m firm).entries }) ks)
lines-open firm [] all = tt
lines-open firm (k ∷ ks) all = (all.0, lines-open firm ks all.1)

pub listed-open : ListedAreOpen
listed-open firm order =
    let same : (m : ℕ) → some_open m firm.rows ≡ is_open (of m firm).head = λ m.
    sym (own-open m firm.rows)
    ∙ (ap (some_open m) (ap (passing (λ x. x == m)) (sym (order.rows m)) ∙ own-put m (of m firm) firm.rows)
    ∙ pairs-open m (of m firm)) in
    lines-open firm (open_matters firm.rows) (all-map (λ k. some_open k firm.rows ≡ true) (λ k. is_open (of k firm).head ≡ true) (open_matters firm.rows) (λ k is. sym (same k) ∙ is) (listed firm.rows))
