-- The journal's sums so far, the trial balance, and the retention list.
use Rattle.figure_laws.proofs.Names.{◌≡◌, ℕ, zero, suc, ◌+◌, ◌*◌, ◌≤◌, cond, List, [], ◌∷◌, ◌++◌, length, map, take, refl, sym, ap, ◌∙◌, arith, append_assoc, append-nil, ℤ, pos, ◌+ℤ◌, ◌≤ℤ◌, ◌==◌, is_none, fold, flat_map, AllByRecursion, int_wrap, w128, FitsSigned, ints, int_wrap-add_left, int_wrap_fits, Seat, Entry, Rows, ledger, Sound, Covered, sum_of, Row, HeadRow, SeatRow, EntryRow, Firm, of, pairs, head_pairs, seat_pairs, entry_pairs, FirmSound, at, sum-append, sum-same, sum-filter, sum-agree, passing, own-put, of_row, rows-entries, shares-ledger, row-share, sound-solvent, Movement, TrialLine, ledger_share, row_share, ledger_sum, journal_sum, journal_from, last_sum, with_moved, JournalIsKept, open_matters, trial_lines, ListsAlwaysAgree, IsMovementInRange, added}
use Rattle.std.specs.Int.{w64}
use Rattle.firm_figures.specs.declared.journal_sink.JournalLine.{JournalLine}
use Rattle.firm_figures.proofs.Sizes.{IsWithin, wider, fits}
use Rattle.firm_figures.specs.Lists.{retention_line, Retained, none_retained, with_row_retained}
use Rattle.figure_laws.specs.Kept.{RetentionIsKept}

-- The journal.

-- where no sum of a front is below zero, no sum so far is
pub all-least : (z : ℤ) (vs : List Movement) → ((k : ℕ) → pos 0 ≤ℤ (z +ℤ journal_sum (take k vs))) → AllByRecursion (λ l. pos 0 ≤ℤ l.sum) (journal_from z vs)
all-least z [] least = tt
all-least z (v ∷ vs) least =
    let here : pos 0 ≤ℤ (z +ℤ v.amount) = omega (arith, ints, least (suc zero)) in
    let more : (k : ℕ) → pos 0 ≤ℤ ((z +ℤ v.amount) +ℤ journal_sum (take k vs)) = λ k. omega (arith, ints, least (suc k)) in
    (here, all-least (z +ℤ v.amount) vs more)

pub last-whole : (z : ℤ) (vs : List Movement) → last_sum z (journal_from z vs) ≡ z +ℤ journal_sum vs
last-whole z [] = omega (arith, ints)
last-whole z (v ∷ vs) = last-whole (z +ℤ v.amount) vs ∙ omega (arith, ints)

-- the sums kept are in 128 bits
kept-from : (z : ℤ) (front : List JournalLine) (vs : List Movement) → AllByRecursion (λ l. FitsSigned w128 l.sum) (journal_from z vs) → (fold with_moved (record { lines = front; sum = int_wrap w128 z }) vs).lines ≡ front ++ journal_from z vs
unfolding added
kept-from z front [] fits = sym (append-nil front)
kept-from z front (v ∷ vs) fits =
    let next : int_wrap w128 (int_wrap w128 z +ℤ v.amount) ≡ z +ℤ v.amount = int_wrap-add_left w128 z v.amount ∙ int_wrap_fits w128 (z +ℤ v.amount) fits.0 in
    let line : JournalLine = record { movement = v; sum = z +ℤ v.amount } in
    (λ i. (fold with_moved (record { lines = front ++ (record { movement = v; sum = next i } ∷ []); sum = int_wrap-add_left w128 z v.amount i }) vs).lines)
    ∙ (kept-from (z +ℤ v.amount) (front ++ (line ∷ [])) vs fits.1 ∙ append_assoc front (line ∷ []) (journal_from (z +ℤ v.amount) vs))

zero-wrapped : int_wrap w128 (pos 0) ≡ pos 0
unfolding int_wrap
zero-wrapped = refl

-- Every sum fits.

abbrev HALF : ℕ
HALF = 9_223_372_036_854_775_808

abbrev TOP : ℕ
TOP = 170_141_183_460_469_231_731_687_303_715_884_105_727

word-within : (z : ℤ) → FitsSigned w64 z → IsWithin HALF z
word-within z is = grind (arith, ints)

both-sum : (n m : ℕ) (a b : ℤ) → IsWithin n a → IsWithin m b → IsWithin (n + m) (a +ℤ b)
both-sum n m a b x y = record { low = omega (arith, ints, x.low, y.low); high = omega (arith, ints, x.high, y.high) }

sums-fit : (n : ℕ) (z : ℤ) (vs : List Movement) → IsWithin n z → AllByRecursion IsMovementInRange vs → n + length vs * HALF ≤ TOP → AllByRecursion (λ l. FitsSigned w128 l.sum) (journal_from z vs)
sums-fit n z [] is all le = tt
sums-fit n z (v ∷ vs) is all le =
    grind (arith, ints, both-sum, word-within, fits, wider, (sums-fit (n + HALF) (z +ℤ v.amount) vs))

zero-within : IsWithin 0 (pos 0)
zero-within = record { low = omega (arith, ints); high = omega (arith, ints) }

pub journal-kept : JournalIsKept
journal-kept movements is =
    let few = is.few in
    (λ i. (fold with_moved (record { lines = []; sum = sym zero-wrapped i }) movements).lines)
    ∙ kept-from (pos 0) [] movements (sums-fit 0 (pos 0) movements zero-within is.ranged (omega (arith, few)))

-- The trial balance.

-- what a head adds, where its matter is open
abbrev open_share : (ℕ → ℤ) → ℕ × Row → ℤ
open_share f (m, HeadRow h) = cond (is_none h.closed) (f m) (pos 0)
open_share f (m, SeatRow seat) = pos 0
open_share f (m, EntryRow number entry) = pos 0

open-sum : (f : ℕ → ℤ) (xs : List (ℕ × Row)) → sum_of (λ (l : TrialLine). l.ledger) (map (λ m. record { matter = m; ledger = f m }) (open_matters xs)) ≡ sum_of (open_share f) xs
open-sum f [] = refl
open-sum f (q ∷ xs) = grind (arith, ints, is_none, (open-sum f xs))

seats-none : (f : ℕ → ℤ) (m : ℕ) (ss : List Seat) → sum_of (open_share f) (seat_pairs m ss) ≡ pos 0
seats-none f m [] = refl
seats-none f m (s ∷ ss) = omega (arith, ints, seats-none f m ss)

entries-none : (f : ℕ → ℤ) (m n : ℕ) (es : List Entry) → sum_of (open_share f) (entry_pairs m n es) ≡ pos 0
entries-none f m n [] = refl
entries-none f m n (e ∷ es) = omega (arith, ints, entries-none f m (n + 1) es)

pairs-open : (f : ℕ → ℤ) (m : ℕ) (rows : Rows) → sum_of (open_share f) (pairs m rows) ≡ sum_of (open_share f) (head_pairs m rows.head)
pairs-open f m rows = grind (arith, ints, sum-append, seats-none, entries-none)

-- a matter that is not open has nothing in its ledger
head-open : (f : ℕ → ℤ) (m : ℕ) (rows : Rows) → Sound rows → f m ≡ ledger rows.entries → sum_of (open_share f) (head_pairs m rows.head) ≡ ledger rows.entries
head-open f m rows sound is = grind (arith, ints, is_none)

-- TOTAL is what all entries and the firm's lines add up to
pub trial-sum : (firm : Firm) → FirmSound firm → sum_of (λ l. l.ledger) (trial_lines firm) ≡ ledger_sum firm
trial-sum firm sound =
    let f : ℕ → ℤ = λ m. ledger (of m firm).entries in
    let of_matter : (m : ℕ) → sum_of (at (λ (p : ℕ × Row). p.0) (open_share f) m) firm.rows ≡ sum_of (at (λ (p : ℕ × Row). p.0) (λ (p : ℕ × Row). row_share p.1) m) firm.rows = λ m.
    let own : passing (λ x. x == m) firm.rows ≡ pairs m (of m firm) = ap (passing (λ x. x == m)) (sym (sound.in_order.rows m)) ∙ own-put m (of m firm) firm.rows in
    sym (sum-filter (λ (p : ℕ × Row). p.0 == m) (open_share f) firm.rows)
    ∙ (ap (sum_of (open_share f)) own
    ∙ (pairs-open f m (of m firm)
    ∙ (head-open f m (of m firm) (sound.matters m) refl
    ∙ (sym (shares-ledger (of m firm).entries)
    ∙ (sym (rows-entries ledger_share m firm.rows)
    ∙ sum-same (at (λ (p : ℕ × Row). p.0) (λ (p : ℕ × Row). of_row ledger_share p.1) m) (at (λ (p : ℕ × Row). p.0) (λ (p : ℕ × Row). row_share p.1) m) firm.rows (λ p. ap (λ z. cond (p.0 == m) z (pos 0)) (row-share p.1))))))) in
    open-sum f firm.rows ∙ sum-agree (λ (p : ℕ × Row). p.0) (open_share f) firm.rows (λ (p : ℕ × Row). p.0) (λ (p : ℕ × Row). row_share p.1) firm.rows of_matter

pub lists-agree : Covered → ListsAlwaysAgree
lists-agree law firm sound =
    let solvent = sound-solvent law firm sound in
    record {
      covered = all-least (pos 0) firm.movements (λ k. omega (arith, ints, solvent.journal k));
      total = last-whole (pos 0) firm.movements ∙ omega (arith, ints, solvent.agree, trial-sum firm sound);
    }

-- The retention list.

rows-retained : (s : Retained) (xs : List (ℕ × Row)) → fold with_row_retained s xs ≡ record s { lines = s.lines ++ flat_map (retention_line s.today) xs }
rows-retained s [] = λ i. record s { lines = sym (append-nil s.lines) i }
rows-retained s (x ∷ xs) =
    search (append_assoc, (rows-retained (record s { lines = s.lines ++ retention_line s.today x }) xs))

pub retention-kept : RetentionIsKept
retention-kept today firm = rows-retained (none_retained today) firm.rows
