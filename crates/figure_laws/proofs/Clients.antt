-- The list of clients adds up to the ledgers.
use Rattle.figure_laws.proofs.Names.{◌≡◌, ℕ, ◌+◌, ◌<◌, Bool, true, false, not, cond, List, [], ◌∷◌, ◌++◌, map, Option, Some, None, refl, sym, ap, ◌∙◌, arith, ℤ, pos, ◌+ℤ◌, ◌≤ℤ◌, ◌==◌, ◌&&◌, nat_le, AllByRecursion, ints, nat_tests, Head, Seat, Entry, Rows, events_of, IsHeaded, IsAtRestIfClosed, IsRising, Sound, Covered, sum_of, Row, HeadRow, SeatRow, EntryRow, Firm, of, pairs, head_pairs, seat_pairs, entry_pairs, FirmSound, at, sum-append, sum-filter, sum-agree, passing, own-put, of_row, rows-entries, all-entries, is_by}
use Rattle.matter_rows.specs.Rows.{book_day, is_of_nobody}
use Rattle.matter_rows.specs.Sound.{AreRising, IsBare, IsBareIfPurged}
use Rattle.matter_rows.specs.declared.head.Holder.{Holder}
use Rattle.matter_rows.specs.declared.head.Holder.TheVariants as holder
use Rattle.firm_figures.specs.declared.clients_sink.ClientLine.{ClientLine}
use Rattle.firm_figures.specs.Clients.{is_listed, is_open_by, ledger_as_of, open_heads, client_line, client_lines, clients_total}
use Rattle.figure_laws.specs.Agree.{ClientsAlwaysAgree}
use Rattle.firm_figures.specs.Figures.{ledgers}
use Rattle.firm_figures.proofs.Shares.{ledger_by, ledger-shares}
use Rattle.figure_laws.proofs.DifferenceTold.{journal-ledgers}
use Rattle.firm_figures.proofs.OneMatter.{as-shares, as_of-least}
use Rattle.figure_laws.proofs.PurgedFigures.{at-rest}

-- A matter that was not open as of the day had moved nothing.

entry-before : (p : ℕ) (e : Entry) → p < book_day e → IsRising e → ledger_by p e ≡ pos 0
unfolding events_of
entry-before p e lt up = grind (arith, ints, nat_tests)

none-before : (p from : ℕ) (es : List Entry) → p < from → AreRising from (map book_day es) → AllByRecursion IsRising es → sum_of (ledger_by p) es ≡ pos 0
none-before p from [] lt made up = refl
none-before p from (e ∷ es) lt made up =
    let after : p < book_day e = omega (arith, lt, made.0) in
    omega (arith, ints, entry-before p e after up.0, none-before p (book_day e) es after made.1 up.1)

left-out : (a b : Bool) → (a && not b) ≡ false → a ≡ true → b ≡ true
left-out a b is one = grind arith

not-open : (p : ℕ) (h : Head) (rows : Rows) → Covered → Sound rows → IsHeaded (Some h) rows.seats rows.entries → is_open_by p h ≡ false → sum_of (ledger_by p) rows.entries ≡ pos 0
not-open p h rows law sound headed shut = cases (nat_le h.opened p) refl
  where
    closed : (o : Option ℕ) → IsAtRestIfClosed h o rows.entries → is_by p o ≡ true → sum_of (ledger_by p) rows.entries ≡ pos 0
    closed None rest by = absurd (cc)
    closed (Some day) rest by = (at-rest p h day rows law sound rest (grind (arith, nat_tests))).moved

    cases : (b : Bool) → nat_le h.opened p ≡ b → sum_of (ledger_by p) rows.entries ≡ pos 0
    cases true is = closed h.closed headed.1 (left-out (nat_le h.opened p) (is_by p h.closed) shut is)
    cases false is = none-before p h.opened rows.entries (grind (arith, nat_tests)) headed.0.made headed.0.changed

-- Nor had one that was purged since.
not-listed : (p : ℕ) (h : Head) (rows : Rows) → Covered → Sound rows → IsHeaded (Some h) rows.seats rows.entries → IsBareIfPurged (Some h) rows.seats rows.entries → is_listed p h ≡ false → sum_of (ledger_by p) rows.entries ≡ pos 0
not-listed p h rows law sound headed bare out = cases (is_open_by p h) refl
  where
    purged : (o : Holder) → IsBare o h.closed h.last rows.seats rows.entries → is_of_nobody o ≡ true → sum_of (ledger_by p) rows.entries ≡ pos 0
    purged (holder.Client c) left is = absurd (cc)
    purged (holder.Purged day) left is = ap (sum_of (ledger_by p)) left.1.1.1

    cases : (b : Bool) → is_open_by p h ≡ b → sum_of (ledger_by p) rows.entries ≡ pos 0
    cases true is = purged h.holder bare (left-out (is_open_by p h) (is_of_nobody h.holder) out is)
    cases false is = not-open p h rows law sound headed is

-- The lines are the shares of the heads.

abbrev open_share : ℕ → (ℕ → ℤ) → ℕ × Row → ℤ
open_share p f (m, HeadRow h) = cond (is_listed p h) (f m) (pos 0)
open_share p f (m, SeatRow seat) = pos 0
open_share p f (m, EntryRow number entry) = pos 0

abbrev as_of : ℕ → Firm → ℕ → ℤ
as_of p firm m = ledger_as_of p (of m firm).entries

open-sum : (p : ℕ) (firm : Firm) (xs : List (ℕ × Row)) → sum_of (λ (l : ClientLine). l.ledger) (map (client_line p firm) (open_heads p xs)) ≡ sum_of (open_share p (as_of p firm)) xs
open-sum p firm [] = refl
open-sum p firm ((m, HeadRow h) ∷ xs) = cases (is_listed p h) (open-sum p firm xs)
  where
    cases : (b : Bool) → sum_of (λ (l : ClientLine). l.ledger) (map (client_line p firm) (open_heads p xs)) ≡ sum_of (open_share p (as_of p firm)) xs → sum_of (λ (l : ClientLine). l.ledger) (map (client_line p firm) (cond b ((m, h) ∷ open_heads p xs) (open_heads p xs))) ≡ cond b (as_of p firm m) (pos 0) +ℤ sum_of (open_share p (as_of p firm)) xs
    cases true more = ap (λ z. as_of p firm m +ℤ z) more
    cases false more = omega (arith, ints, more)
open-sum p firm ((m, SeatRow seat) ∷ xs) = omega (arith, ints, open-sum p firm xs)
open-sum p firm ((m, EntryRow n e) ∷ xs) = omega (arith, ints, open-sum p firm xs)

seats-none : (p : ℕ) (f : ℕ → ℤ) (m : ℕ) (ss : List Seat) → sum_of (open_share p f) (seat_pairs m ss) ≡ pos 0
seats-none p f m [] = refl
seats-none p f m (s ∷ ss) = omega (arith, ints, seats-none p f m ss)

entries-none : (p : ℕ) (f : ℕ → ℤ) (m n : ℕ) (es : List Entry) → sum_of (open_share p f) (entry_pairs m n es) ≡ pos 0
entries-none p f m n [] = refl
entries-none p f m n (e ∷ es) = omega (arith, ints, entries-none p f m (n + 1) es)

pairs-open : (p : ℕ) (f : ℕ → ℤ) (m : ℕ) (rows : Rows) → sum_of (open_share p f) (pairs m rows) ≡ sum_of (open_share p f) (head_pairs m rows.head)
pairs-open p f m rows =
    omega (arith, ints, sum-append (open_share p f) (head_pairs m rows.head) (seat_pairs m rows.seats ++ entry_pairs m 1 rows.entries), sum-append (open_share p f) (seat_pairs m rows.seats) (entry_pairs m 1 rows.entries), seats-none p f m rows.seats, entries-none p f m 1 rows.entries)

head-open : (p : ℕ) (f : ℕ → ℤ) (m : ℕ) (rows : Rows) → Covered → Sound rows → f m ≡ sum_of (ledger_by p) rows.entries → sum_of (open_share p f) (head_pairs m rows.head) ≡ sum_of (ledger_by p) rows.entries
head-open p f m rows law sound is = cases rows.head sound.headed sound.bare
  where
    by : (h : Head) → IsHeaded (Some h) rows.seats rows.entries → IsBareIfPurged (Some h) rows.seats rows.entries → (b : Bool) → is_listed p h ≡ b → cond b (f m) (pos 0) +ℤ pos 0 ≡ sum_of (ledger_by p) rows.entries
    by h headed bare true at = omega (arith, ints, is)
    by h headed bare false at = omega (arith, ints, not-listed p h rows law sound headed bare at)

    cases : (o : Option Head) → IsHeaded o rows.seats rows.entries → IsBareIfPurged o rows.seats rows.entries → sum_of (open_share p f) (head_pairs m o) ≡ sum_of (ledger_by p) rows.entries
    cases None headed bare = ap (sum_of (ledger_by p)) (sym headed.1)
    cases (Some h) headed bare = by h headed bare (is_listed p h) refl

-- what the listed matters have is what all entries had moved by the day
pub clients-sum : Covered → (p : ℕ) (firm : Firm) → FirmSound firm → sum_of (λ (l : ClientLine). l.ledger) (client_lines p firm) ≡ sum_of (λ (q : ℕ × Row). of_row (ledger_by p) q.1) firm.rows
clients-sum law p firm sound =
    let f : ℕ → ℤ = as_of p firm in
    let of_matter : (m : ℕ) → sum_of (at (λ (q : ℕ × Row). q.0) (open_share p f) m) firm.rows ≡ sum_of (at (λ (q : ℕ × Row). q.0) (λ (q : ℕ × Row). of_row (ledger_by p) q.1) m) firm.rows = λ m.
    let own : passing (λ x. x == m) firm.rows ≡ pairs m (of m firm) = ap (passing (λ x. x == m)) (sym (sound.in_order.rows m)) ∙ own-put m (of m firm) firm.rows in
    sym (sum-filter (λ (q : ℕ × Row). q.0 == m) (open_share p f) firm.rows)
    ∙ (ap (sum_of (open_share p f)) own
    ∙ (pairs-open p f m (of m firm)
    ∙ (head-open p f m (of m firm) law (sound.matters m) (as-shares p (of m firm).entries)
    ∙ sym (rows-entries (ledger_by p) m firm.rows)))) in
    open-sum p firm firm.rows ∙ sum-agree (λ (q : ℕ × Row). q.0) (open_share p f) firm.rows (λ (q : ℕ × Row). q.0) (λ (q : ℕ × Row). of_row (ledger_by p) q.1) firm.rows of_matter

each-least : (p : ℕ) (firm : Firm) → FirmSound firm → (hs : List (ℕ × Head)) → AllByRecursion (λ (l : ClientLine). pos 0 ≤ℤ l.ledger) (map (client_line p firm) hs)
each-least p firm sound [] = tt
each-least p firm sound ((m, h) ∷ hs) = (as_of-least p m firm sound, each-least p firm sound hs)

pub clients-agree : Covered → ClientsAlwaysAgree
clients-agree law p firm sound =
    let sum = clients-sum law p firm sound in
    let same : clients_total p firm ≡ ledgers p firm = omega (arith, ints, sum, ledger-shares p firm, all-entries (ledger_by p) firm.rows) in
    record {
      ledgers = same;
      journal = same ∙ sym (journal-ledgers p firm sound);
      covered = each-least p firm sound (open_heads p firm.rows);
    }
