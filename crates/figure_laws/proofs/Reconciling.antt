-- What a reconciler keeps of a firm's rows are its figures.
use Rattle.figure_laws.proofs.Names.{◌≡◌, ℕ, Bool, cond, List, [], ◌∷◌, Option, Some, None, refl, sym, ap, ◌∙◌, arith, ℤ, pos, ◌+ℤ◌, ◌-ℤ◌, fold, find, filter, flat_map, option_map, int_wrap, w128, ints, int_wrap-add_left, int_wrap-add_right, int_wrap-sub_right, int_wrap_fits, Line, Entry, events_of, Movement, FirmLine, BalanceRow, sum_of, Row, HeadRow, SeatRow, EntryRow, Firm, entries_in, is_event_by, is_moved_by, is_dated_by, is_counted, is_closing_of, transit, outstanding, journal, own_by, exceptions, matched, early, closing_on, figures, transit_share, outstanding_share, ledger_share_by, matched_share, early_share, added, less, Tallies, no_tallies, with_row, with_movement, with_own, with_exception, with_balance_told, first_of, figures_kept, finished, all_taken, AreInRange, FiguresKept, sum-same, sum-filter, of_row, all-entries, nat_tests}
use Rattle.firm_figures.proofs.Shares.{ledger_by, matched_by, early_by, transit-shares, outstanding-shares, ledger-shares, matched-shares, early-shares}

-- An entry's shares are those of its events and lines.
module _ (p : ℕ) where
  pub entry-ledger : (e : Entry) → ledger_share_by p e ≡ ledger_by p e
  unfolding events_of
  entry-ledger e = grind (arith, ints, nat_tests)

  pub entry-matched : (e : Entry) → matched_share p e ≡ matched_by p e
  entry-matched e = grind (arith, ints, nat_tests)

  pub entry-early : (e : Entry) → early_share p e ≡ early_by p e
  entry-early e = grind (arith, ints, nat_tests)

-- Sums in 128 bits.

abbrev wrapped : ℤ → ℤ
wrapped z = int_wrap w128 z

-- amounts added one at a time to a sum in 128 bits
sums : {A : Type 0} (f : A → ℤ) (z : ℤ) (xs : List A) → fold (λ s x. added s (f x)) (wrapped z) xs ≡ wrapped (z +ℤ sum_of f xs)
unfolding added
sums f z [] = ap wrapped (omega (arith, ints))
sums f z (x ∷ xs) =
    ap (λ s. fold (λ s x. int_wrap w128 (s +ℤ f x)) s xs) (int_wrap-add_left w128 z (f x))
    ∙ (sums f (z +ℤ f x) xs ∙ ap wrapped (omega (arith, ints)))

-- What is kept after each kind of row.

-- the sums in 128 bits
abbrev kept : ℕ → Option ℤ → ℤ → ℤ → ℤ → ℤ → ℤ → ℤ → ℤ → ℤ → Tallies
kept p c t o j l w x m y = record { day = p; closing = c; transit = wrapped t; outstanding = wrapped o; journal = wrapped j; entries = wrapped l; own = wrapped w; exceptions = wrapped x; matched = wrapped m; early = wrapped y }

-- one share more, or none
none-more : (z : ℤ) → z ≡ z +ℤ pos 0
none-more z = omega (arith, ints)

skipped : (z b : ℤ) → z +ℤ b ≡ z +ℤ (pos 0 +ℤ b)
skipped z b = omega (arith, ints)

later : (z a b : ℤ) → (z +ℤ a) +ℤ b ≡ z +ℤ (a +ℤ b)
later z a b = omega (arith, ints)

abbrev sum_rows : (Entry → ℤ) → List (ℕ × Row) → ℤ
sum_rows g xs = sum_of (λ q. of_row g q.1) xs

rows-fold : (p : ℕ) (c : Option ℤ) (t o j l w x m y : ℤ) (xs : List (ℕ × Row)) → fold with_row (kept p c t o j l w x m y) xs ≡ kept p c (t +ℤ sum_rows (transit_share p) xs) (o +ℤ sum_rows (outstanding_share p) xs) j (l +ℤ sum_rows (ledger_share_by p) xs) w x (m +ℤ sum_rows (matched_share p) xs) (y +ℤ sum_rows (early_share p) xs)
unfolding added
rows-fold p c t o j l w x m y [] = λ i. kept p c (none-more t i) (none-more o i) j (none-more l i) w x (none-more m i) (none-more y i)
rows-fold p c t o j l w x m y ((n, HeadRow head) ∷ xs) =
    grind (arith, ints, skipped, (rows-fold p c t o j l w x m y xs))
rows-fold p c t o j l w x m y ((n, SeatRow seat) ∷ xs) =
    grind (arith, ints, skipped, (rows-fold p c t o j l w x m y xs))
rows-fold p c t o j l w x m y ((n, EntryRow number e) ∷ xs) =
    (λ i. fold with_row (record { day = p; closing = c; transit = int_wrap-add_left w128 t (transit_share p e) i; outstanding = int_wrap-add_left w128 o (outstanding_share p e) i; journal = wrapped j; entries = int_wrap-add_left w128 l (ledger_share_by p e) i; own = wrapped w; exceptions = wrapped x; matched = int_wrap-add_left w128 m (matched_share p e) i; early = int_wrap-add_left w128 y (early_share p e) i }) xs)
    ∙ (rows-fold p c (t +ℤ transit_share p e) (o +ℤ outstanding_share p e) j (l +ℤ ledger_share_by p e) w x (m +ℤ matched_share p e) (y +ℤ early_share p e) xs
    ∙ (λ i. kept p c (later t (transit_share p e) (sum_rows (transit_share p) xs) i) (later o (outstanding_share p e) (sum_rows (outstanding_share p) xs) i) j (later l (ledger_share_by p e) (sum_rows (ledger_share_by p) xs) i) w x (later m (matched_share p e) (sum_rows (matched_share p) xs) i) (later y (early_share p e) (sum_rows (early_share p) xs) i)))

movements-fold : (s : Tallies) (vs : List Movement) → fold with_movement s vs ≡ record s { journal = fold (λ z v. added z (cond (is_moved_by s.day v) v.amount (pos 0))) s.journal vs }
movements-fold s [] = refl
movements-fold s (v ∷ vs) = movements-fold (with_movement s v) vs

own-fold : (s : Tallies) (ls : List FirmLine) → fold with_own s ls ≡ record s { own = fold (λ z l. added z (cond (is_dated_by s.day l) l.amount (pos 0))) s.own ls }
own-fold s [] = refl
own-fold s (l ∷ ls) = own-fold (with_own s l) ls

exceptions-fold : (s : Tallies) (ls : List Line) → fold with_exception s ls ≡ record s { exceptions = fold (λ z l. added z (cond (is_counted s.day l) l.amount (pos 0))) s.exceptions ls }
exceptions-fold s [] = refl
exceptions-fold s (l ∷ ls) = exceptions-fold (with_exception s l) ls

first-none : (c : Option ℤ) → c ≡ first_of c None
first-none c = grind (arith, ints)

first-more : (c : Option ℤ) (b : Bool) (r : BalanceRow) (rest : Option BalanceRow) → first_of (first_of c (cond b (Some r.amount) None)) (option_map (λ r. r.amount) rest) ≡ first_of c (option_map (λ r. r.amount) (cond b (Some r) rest))
first-more c b r rest = grind (arith, ints)

balances-fold : (s : Tallies) (rs : List BalanceRow) → fold with_balance_told s rs ≡ record s { closing = first_of s.closing (closing_on s.day rs) }
balances-fold s [] = λ i. record s { closing = first-none s.closing i }
balances-fold s (r ∷ rs) = balances-fold (with_balance_told s r) rs ∙ (λ i. record s { closing = first-more s.closing (is_closing_of s.day r) r (find (is_closing_of s.day) rs) i })

-- All rows.

zero-fits : wrapped (pos 0) ≡ pos 0
unfolding int_wrap
zero-fits = refl

-- the events of the entries by p, added up
abbrev told_by : ℕ → Firm → ℤ
told_by p firm = sum_of (λ e. e.amount) (filter (is_event_by p) (flat_map events_of (entries_in firm.rows)))

pub taken-kept : (p : ℕ) (firm : Firm) → all_taken p firm ≡ kept p (closing_on p firm.balances) (transit p firm) (outstanding p firm) (journal p firm) (told_by p firm) (own_by p firm) (exceptions p firm) (matched p firm) (early p firm)
taken-kept p firm =
    let z = pos 0 in
    let rows = firm.rows in
    let start : no_tallies p ≡ kept p None z z z z z z z z = λ i. record { day = p; closing = None; transit = sym zero-fits i; outstanding = sym zero-fits i; journal = sym zero-fits i; entries = sym zero-fits i; own = sym zero-fits i; exceptions = sym zero-fits i; matched = sym zero-fits i; early = sym zero-fits i } in
    let t : z +ℤ sum_rows (transit_share p) rows ≡ transit p firm = omega (arith, ints, all-entries (transit_share p) rows, transit-shares p firm) in
    let o : z +ℤ sum_rows (outstanding_share p) rows ≡ outstanding p firm = omega (arith, ints, all-entries (outstanding_share p) rows, outstanding-shares p firm) in
    let l : z +ℤ sum_rows (ledger_share_by p) rows ≡ told_by p firm = omega (arith, ints, all-entries (ledger_share_by p) rows, sum-same (ledger_share_by p) (ledger_by p) (entries_in rows) (entry-ledger p), ledger-shares p firm) in
    let m : z +ℤ sum_rows (matched_share p) rows ≡ matched p firm = omega (arith, ints, all-entries (matched_share p) rows, sum-same (matched_share p) (matched_by p) (entries_in rows) (entry-matched p), matched-shares p firm) in
    let y : z +ℤ sum_rows (early_share p) rows ≡ early p firm = omega (arith, ints, all-entries (early_share p) rows, sum-same (early_share p) (early_by p) (entries_in rows) (entry-early p), early-shares p firm) in
    let j : z +ℤ sum_of (λ v. cond (is_moved_by p v) v.amount (pos 0)) firm.movements ≡ journal p firm = omega (arith, ints, sum-filter (is_moved_by p) (λ (v : Movement). v.amount) firm.movements) in
    let w : z +ℤ sum_of (λ l. cond (is_dated_by p l) l.amount (pos 0)) firm.firm_lines ≡ own_by p firm = omega (arith, ints, sum-filter (is_dated_by p) (λ (l : FirmLine). l.amount) firm.firm_lines) in
    let x : z +ℤ sum_of (λ l. cond (is_counted p l) l.amount (pos 0)) firm.exceptions ≡ exceptions p firm = omega (arith, ints, sum-filter (is_counted p) (λ (l : Line). l.amount) firm.exceptions) in
    let c = closing_on p firm.balances in
    let after_rows : fold with_row (no_tallies p) rows ≡ kept p None (transit p firm) (outstanding p firm) z (told_by p firm) z z (matched p firm) (early p firm) =
    ap (λ s. fold with_row s rows) start ∙ (rows-fold p None z z z z z z z z rows ∙ (λ i. kept p None (t i) (o i) z (l i) z z (m i) (y i))) in
    let after_movements : fold with_movement (fold with_row (no_tallies p) rows) firm.movements ≡ kept p None (transit p firm) (outstanding p firm) (journal p firm) (told_by p firm) z z (matched p firm) (early p firm) =
    ap (λ s. fold with_movement s firm.movements) after_rows
    ∙ (movements-fold (kept p None (transit p firm) (outstanding p firm) z (told_by p firm) z z (matched p firm) (early p firm)) firm.movements
    ∙ (λ i. record (kept p None (transit p firm) (outstanding p firm) z (told_by p firm) z z (matched p firm) (early p firm)) { journal = (sums (λ v. cond (is_moved_by p v) v.amount (pos 0)) z firm.movements ∙ ap wrapped j) i })) in
    let after_own : fold with_own (fold with_movement (fold with_row (no_tallies p) rows) firm.movements) firm.firm_lines ≡ kept p None (transit p firm) (outstanding p firm) (journal p firm) (told_by p firm) (own_by p firm) z (matched p firm) (early p firm) =
    ap (λ s. fold with_own s firm.firm_lines) after_movements
    ∙ (own-fold (kept p None (transit p firm) (outstanding p firm) (journal p firm) (told_by p firm) z z (matched p firm) (early p firm)) firm.firm_lines
    ∙ (λ i. record (kept p None (transit p firm) (outstanding p firm) (journal p firm) (told_by p firm) z z (matched p firm) (early p firm)) { own = (sums (λ l. cond (is_dated_by p l) l.amount (pos 0)) z firm.firm_lines ∙ ap wrapped w) i })) in
    let after_exceptions : fold with_exception (fold with_own (fold with_movement (fold with_row (no_tallies p) rows) firm.movements) firm.firm_lines) firm.exceptions ≡ kept p None (transit p firm) (outstanding p firm) (journal p firm) (told_by p firm) (own_by p firm) (exceptions p firm) (matched p firm) (early p firm) =
    ap (λ s. fold with_exception s firm.exceptions) after_own
    ∙ (exceptions-fold (kept p None (transit p firm) (outstanding p firm) (journal p firm) (told_by p firm) (own_by p firm) z (matched p firm) (early p firm)) firm.exceptions
    ∙ (λ i. record (kept p None (transit p firm) (outstanding p firm) (journal p firm) (told_by p firm) (own_by p firm) z (matched p firm) (early p firm)) { exceptions = (sums (λ l. cond (is_counted p l) l.amount (pos 0)) z firm.exceptions ∙ ap wrapped x) i })) in
    ap (λ s. fold with_balance_told s firm.balances) after_exceptions
    ∙ balances-fold (kept p None (transit p firm) (outstanding p firm) (journal p firm) (told_by p firm) (own_by p firm) (exceptions p firm) (matched p firm) (early p firm)) firm.balances

-- The figures.

less-right : (a b : ℤ) → less a (wrapped b) ≡ wrapped (a -ℤ b)
unfolding less
less-right a b = int_wrap-sub_right w128 a b

less-both : (a b : ℤ) → less (wrapped a) (wrapped b) ≡ wrapped (a -ℤ b)
unfolding less
less-both a b = grind (arith, ints, int_wrap-sub_right, w128, int_wrap-add_left)

added-left : (a b : ℤ) → added (wrapped a) b ≡ wrapped (a +ℤ b)
unfolding added
added-left a b = int_wrap-add_left w128 a b

added-both : (a b : ℤ) → added (wrapped a) (wrapped b) ≡ wrapped (a +ℤ b)
unfolding added
added-both a b = int_wrap-add_left w128 a (wrapped b) ∙ int_wrap-add_right w128 a b

swapped : (a b o : ℤ) → (a +ℤ b) -ℤ o ≡ (b +ℤ a) -ℤ o
swapped a b o = omega (arith, ints)

kept-figures : (p : ℕ) (c : Option ℤ) (closing : ℤ) (firm : Firm) → AreInRange (figures p closing firm) → figures_kept (kept p c (transit p firm) (outstanding p firm) (journal p firm) (told_by p firm) (own_by p firm) (exceptions p firm) (matched p firm) (early p firm)) closing ≡ figures p closing firm
kept-figures p c closing firm fits =
    grind (arith, ints, added-left, less-both, swapped, int_wrap_fits, w128, added-both, less-right)

pub figures-kept : FiguresKept
figures-kept p firm fits = ap finished (taken-kept p firm) ∙ cases (closing_on p firm.balances) fits
  where
    cases : (c : Option ℤ) → ((closing : ℤ) → c ≡ Some closing → AreInRange (figures p closing firm)) → finished (kept p c (transit p firm) (outstanding p firm) (journal p firm) (told_by p firm) (own_by p firm) (exceptions p firm) (matched p firm) (early p firm)) ≡ option_map (λ closing. figures p closing firm) c
    cases None fits = refl
    cases (Some closing) fits = ap Some (kept-figures p (Some closing) closing firm (fits closing refl))
