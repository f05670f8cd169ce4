-- What is kept of the firm's own lines and of the balances stays kept.
use Rattle.firm_rows.proofs.Names.{◌≡◌, ℕ, Bool, true, false, cond, List, [], ◌∷◌, Option, Some, None, refl, sym, ap, ◌∙◌, ℤ, find, list_any, option_map, option_or, Ordering, Less, Equal, Greater, is_lt, nat_cmp, ordering_reverse, ordering_then, false≢true, arith, nat_tests, Decides-eqb, Decides-int_eq, tied_back, tied_itself, Line, Edit, BalanceRow, is_kept_as, as_firm_line, place_of, balance_cmp, balance_row, is_balance_on, kept_balance, with_balance, Firm, after_edit, after_change, matched_by, ints}
use Rattle.std.proofs.Common.{filter}
use Rattle.std.proofs.Math.Bool.{or-true}
use Rattle.std.proofs.lemmas.List.Folds.{find-append, list_any-append}
use Rattle.std.proofs.lemmas.Slice.Eq.{bytes_eq-Decides}
use Rattle.firm_rows.specs.declared.ledger.BalanceKind.{BalanceKind}
use Rattle.firm_rows.specs.LinesStay.{FirmLineIsKept, FirmLinesStay, BalanceIsKept, BalancesStay}
use Rattle.firm_rows.proofs.Balances.{balance_total, tied-on}

-- an edit of a matter, purging too, leaves the firm's own lines and the balances
pub edit-leaves : (m : ℕ) (e : Edit) (last : ℕ) (firm : Firm) → ((after_edit m e last firm).firm_lines ≡ firm.firm_lines) × ((after_edit m e last firm).balances ≡ firm.balances)
edit-leaves m e last firm = (grind (arith), grind (arith))

matched-leaves : (line : Option Line) (firm : Firm) → ((matched_by line firm).firm_lines ≡ firm.firm_lines) × ((matched_by line firm).balances ≡ firm.balances)
matched-leaves o firm = (grind (arith), grind (arith))

-- A line of the firm's own.

kept-itself : (line : Line) → is_kept_as line (as_firm_line line) ≡ true
kept-itself line = rw ((Decides-eqb line.date line.date).1 refl, (bytes_eq-Decides line.bank_ref line.bank_ref).1 refl, (Decides-int_eq line.amount line.amount).1 refl) refl

pub line-kept : FirmLineIsKept
line-kept line firm = list_any-append (is_kept_as line) firm.firm_lines (as_firm_line line ∷ []) ∙ rw (kept-itself line) (or-true (list_any (is_kept_as line) firm.firm_lines))

pub lines-stay : FirmLinesStay
lines-stay line h1 firm kept =
    grind (arith, nat_tests, list_any, matched-leaves, after_change, edit-leaves, list_any-append)

-- What a search finds of a filtered list, where the filter answers the same at all that is looked for.

find-filter : {X : Type 0} (p q : X → Bool) (b : Bool) → ((x : X) → p x ≡ true → q x ≡ b) → (xs : List X) → find p (filter q xs) ≡ cond b (find p xs) None
find-filter p q true tells [] = refl
find-filter p q false tells [] = refl
find-filter p q b tells (x ∷ xs) = grind (arith, find-filter p q b tells xs, tells x)

-- A balance.

-- of the kind and day
on-parts : (kind : BalanceKind) (day : ℕ) (row : BalanceRow) → is_balance_on kind day row ≡ true → (place_of row.kind ≡ place_of kind) × (row.day ≡ day)
on-parts kind day row is = (grind (arith, nat_tests), grind (arith, nat_tests))

-- all of one kind and day stand alike beside another
alike : (kind : BalanceKind) (day : ℕ) (one other row : BalanceRow) → is_balance_on kind day one ≡ true → is_balance_on kind day other ≡ true → balance_cmp one row ≡ balance_cmp other row
alike kind day one other row is also = grind (arith, nat_tests, on-parts, ordering_then, nat_cmp)

turned : (one other : BalanceRow) (r : Ordering) → balance_cmp one other ≡ r → balance_cmp other one ≡ ordering_reverse r
turned one other r is = balance_total.antisymm other one ∙ ap ordering_reverse is

on-itself : (row : BalanceRow) → is_balance_on row.kind row.day row ≡ true
on-itself row = tied-on row row (tied_itself balance_total row)

-- what is put in is found
put-found : (row : BalanceRow) (rows : List BalanceRow) → kept_balance row.kind row.day (with_balance row rows) ≡ Some row.amount
put-found row rows =
    let p = is_balance_on row.kind row.day in
    let before = filter (λ r. is_lt (balance_cmp r row)) rows in
    let behind = filter (λ r. is_lt (balance_cmp row r)) rows in
    let none : find p before ≡ None =
    find-filter p (λ r. is_lt (balance_cmp r row)) false (λ x on. ap is_lt (alike row.kind row.day x row row on (on-itself row) ∙ tied_itself balance_total row)) rows in
    grind (arith, ints, nat_tests, find, on-itself, option_map, find-append, option_or)

-- what is kept is found where another is put in
module _ (kind : BalanceKind) (day : ℕ) (amount : ℤ) (row : BalanceRow) (rows : List BalanceRow) (off : is_balance_on kind day row ≡ false) where
  abbrev p : BalanceRow → Bool
  p = is_balance_on kind day

  abbrev before : List BalanceRow
  before = filter (λ r. is_lt (balance_cmp r row)) rows

  abbrev behind : List BalanceRow
  behind = filter (λ r. is_lt (balance_cmp row r)) rows

  abbrev own : BalanceRow
  own = record { kind = kind; day = day; amount = amount }

  low : balance_cmp own row ≡ Less → find p before ≡ find p rows
  low is = find-filter p (λ r. is_lt (balance_cmp r row)) true (λ x on. ap is_lt (alike kind day x own row on (on-itself own) ∙ is)) rows

  high : balance_cmp own row ≡ Greater → (find p before ≡ None) × (find p behind ≡ find p rows)
  high is = (
    find-filter p (λ r. is_lt (balance_cmp r row)) false (λ x on. ap is_lt (alike kind day x own row on (on-itself own) ∙ is)) rows,
    find-filter p (λ r. is_lt (balance_cmp row r)) true (λ x on. ap is_lt (turned x row Greater (alike kind day x own row on (on-itself own) ∙ is))) rows,
  )

  first : (o : Option BalanceRow) (more : Option BalanceRow) → option_map (λ (r : BalanceRow). r.amount) o ≡ Some amount → option_map (λ (r : BalanceRow). r.amount) (option_or o more) ≡ Some amount
  first o more is = grind (arith)

  found : (r : Ordering) → balance_cmp own row ≡ r → kept_balance kind day rows ≡ Some amount → option_map (λ (x : BalanceRow). x.amount) (option_or (find p before) (find p (row ∷ behind))) ≡ Some amount
  found Less is kept = first (find p before) (find p (row ∷ behind)) (ap (option_map (λ (x : BalanceRow). x.amount)) (low is) ∙ kept)
  found Equal is kept = absurd (false≢true (sym off ∙ tied-on own row (tied_back balance_total own row is)))
  found Greater is kept = rw (off, (high is).0, (high is).1) kept

  pub stays-found : kept_balance kind day rows ≡ Some amount → kept_balance kind day (with_balance row rows) ≡ Some amount
  stays-found kept = ap (option_map (λ (x : BalanceRow). x.amount)) (find-append p before (row ∷ behind)) ∙ found (balance_cmp own row) refl kept

pub balance-kept : BalanceIsKept
balance-kept kind line firm = put-found (balance_row kind line) firm.balances

-- another of a kind and day of which none is kept
is-other : (kind : BalanceKind) (day : ℕ) (amount : ℤ) (row : BalanceRow) (rows : List BalanceRow) → kept_balance row.kind row.day rows ≡ None → kept_balance kind day rows ≡ Some amount → is_balance_on kind day row ≡ false
is-other kind day amount row rows none kept = grind (arith, nat_tests, on-parts, option_map)

pub balances-stay : BalancesStay
balances-stay kind day amount x3 firm fits kept =
    grind (arith, ints, nat_tests, matched-leaves, edit-leaves, stays-found, is-other)
