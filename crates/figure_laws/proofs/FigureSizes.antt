-- The figures of lists in memory fit 128 bits.
use Rattle.figure_laws.proofs.Names.{◌≡◌, ℕ, ◌*◌, ◌≤◌, List, [], ◌∷◌, length, Some, sym, ◌∙◌, subst, arith, ℤ, pos, ◌-ℤ◌, ◌||◌, find, cond, AllByRecursion, option_map, ints, IsAmount, IsBankAmount, Line, Entry, entry_amount, FirmLine, BalanceRow, sum_of, IsRowInRange, IsCountable, Row, Firm, entries_in, is_by, booked_on, undone_on, returned_on, banked_on, back_on, is_banked_early, is_back_early, is_in_transit, is_outstanding, is_dated_by, is_counted, own_by, exceptions, is_closing_of, closing_on, transit_share, outstanding_share, ledger_share_by, matched_share, early_share, FiguresFit, FiguresTold, sum-same, sum-filter, all-map, cleared_amount}
use Rattle.firm_figures.proofs.Shares.{ledger_by, matched_by, early_by, transit-shares, outstanding-shares, ledger-shares, matched-shares, early-shares}
use Rattle.firm_figures.proofs.Sizes.{IsWithin, MOST, CENTS, WHOLE, sum-within, wider, tested, bank-within, amount-within, out-within, none-within, fits, narrow}
use Rattle.figure_laws.proofs.DifferenceTold.{journal-ledgers}
use Rattle.figure_laws.proofs.Reconciling.{entry-ledger, entry-matched, entry-early, figures-kept}

cleared-within : (e : Entry) → IsAmount (entry_amount e) → IsWithin CENTS (cleared_amount e)
cleared-within e is = grind (arith, ints, amount-within, out-within, none-within)

both-within : (a b : ℤ) → IsWithin CENTS a → IsWithin CENTS b → IsWithin MOST (a -ℤ b)
both-within a b x y = record { low = omega (arith, ints, x.low, y.high); high = omega (arith, ints, x.high, y.low) }

fewer : (xs : List (ℕ × Row)) → length (entries_in xs) ≤ length xs
fewer [] = omega arith
fewer (q ∷ xs) = grind (arith, (fewer xs))

amounts : (xs : List (ℕ × Row)) → AllByRecursion IsRowInRange xs → AllByRecursion (λ e. IsAmount (entry_amount e)) (entries_in xs)
amounts [] all = tt
amounts (q ∷ xs) all = grind (arith, (amounts xs all.1))

-- a sum over the entries
entries-within : (firm : Firm) → IsCountable firm → (f : Entry → ℤ) → ((e : Entry) → IsAmount (entry_amount e) → IsWithin MOST (f e)) → IsWithin WHOLE (sum_of f (entries_in firm.rows))
entries-within firm is f each =
    let few = fewer firm.rows in
    let most = is.rows.few in
    wider (length (entries_in firm.rows) * MOST) WHOLE _ (omega arith) (sum-within f (entries_in firm.rows) (all-map (λ e. IsAmount (entry_amount e)) (λ e. IsWithin MOST (f e)) (entries_in firm.rows) each (amounts firm.rows is.rows.ranged)))

pub figures-fit : FiguresFit
figures-fit p closing firm sound is bank =
    let t = subst (IsWithin WHOLE) (sym (transit-shares p firm)) (entries-within firm is (transit_share p) (λ e a. wider CENTS MOST _ (omega arith) (tested CENTS (is_in_transit p e) (pos (entry_amount e)) (amount-within (entry_amount e) a)))) in
    let o = subst (IsWithin WHOLE) (sym (outstanding-shares p firm)) (entries-within firm is (outstanding_share p) (λ e a. wider CENTS MOST _ (omega arith) (tested CENTS (is_outstanding p e) (pos (entry_amount e)) (amount-within (entry_amount e) a)))) in
    let l = subst (IsWithin WHOLE) (sum-same (ledger_share_by p) (ledger_by p) (entries_in firm.rows) (entry-ledger p) ∙ sym (ledger-shares p firm)) (entries-within firm is (ledger_share_by p) (λ e a. both-within _ _ (tested CENTS (is_by p (booked_on e)) (cleared_amount e) (cleared-within e a)) (tested CENTS (is_by p (undone_on e) || is_by p (returned_on e)) (cleared_amount e) (cleared-within e a)))) in
    let m = subst (IsWithin WHOLE) (sum-same (matched_share p) (matched_by p) (entries_in firm.rows) (entry-matched p) ∙ sym (matched-shares p firm)) (entries-within firm is (matched_share p) (λ e a. both-within _ _ (tested CENTS (is_by p (banked_on e)) (cleared_amount e) (cleared-within e a)) (tested CENTS (is_by p (back_on e)) (cleared_amount e) (cleared-within e a)))) in
    let y = subst (IsWithin WHOLE) (sum-same (early_share p) (early_by p) (entries_in firm.rows) (entry-early p) ∙ sym (early-shares p firm)) (entries-within firm is (early_share p) (λ e a. both-within _ _ (tested CENTS (is_banked_early p e) (cleared_amount e) (cleared-within e a)) (tested CENTS (is_back_early p e) (cleared_amount e) (cleared-within e a)))) in
    let few_lines = is.firm_lines.few in
    let few_exceptions = is.exceptions.few in
    let w : IsWithin WHOLE (own_by p firm) = subst (IsWithin WHOLE) (sym (sum-filter (is_dated_by p) (λ (l : FirmLine). l.amount) firm.firm_lines)) (wider (length firm.firm_lines * MOST) WHOLE _ (omega arith) (sum-within (λ (l : FirmLine). cond (is_dated_by p l) l.amount (pos 0)) firm.firm_lines (all-map (λ (l : FirmLine). IsBankAmount l.amount) _ firm.firm_lines (λ l b. tested MOST (is_dated_by p l) l.amount (bank-within l.amount b)) is.firm_lines.ranged))) in
    let x : IsWithin WHOLE (exceptions p firm) = subst (IsWithin WHOLE) (sym (sum-filter (is_counted p) (λ (l : Line). l.amount) firm.exceptions)) (wider (length firm.exceptions * MOST) WHOLE _ (omega arith) (sum-within (λ (l : Line). cond (is_counted p l) l.amount (pos 0)) firm.exceptions (all-map (λ (l : Line). IsBankAmount l.amount) _ firm.exceptions (λ l b. tested MOST (is_counted p l) l.amount (bank-within l.amount b)) is.exceptions.ranged))) in
    let c = bank-within closing bank in
    let same = journal-ledgers p firm sound in
    record {
      transit = narrow _ t;
      outstanding = narrow _ o;
      adjusted = fits _ (record { low = omega (arith, ints, c.low, t.low, o.high); high = omega (arith, ints, c.high, t.high, o.low) });
      journal = fits _ (record { low = omega (arith, ints, same, l.low, w.low); high = omega (arith, ints, same, l.high, w.high) });
      ledgers = fits _ (record { low = omega (arith, ints, l.low, w.low); high = omega (arith, ints, l.high, w.high) });
      difference = fits _ (record { low = omega (arith, ints, c.low, t.low, o.high, same, l.high, w.high); high = omega (arith, ints, c.high, t.high, o.low, same, l.low, w.low) });
      exceptions = narrow _ x;
      early = narrow _ y;
      gap = fits _ (record { low = omega (arith, ints, c.low, m.high, w.high, x.high); high = omega (arith, ints, c.high, m.low, w.low, x.low) });
    }

-- the closing balance that is found is one of the balances
closing-found : (p : ℕ) (rows : List BalanceRow) (z : ℤ) → AllByRecursion (λ r. IsBankAmount r.amount) rows → closing_on p rows ≡ Some z → IsBankAmount z
closing-found p [] z all is = absurd (cc)
closing-found p (r ∷ rows) z all is =
    grind (arith, ints, is_closing_of, option_map, find, (closing-found p rows z all.1))

pub figures-told : FiguresTold
figures-told p firm sound is = figures-kept p firm (λ closing found. figures-fit p closing firm sound is (closing-found p firm.balances closing is.balances.ranged found))
