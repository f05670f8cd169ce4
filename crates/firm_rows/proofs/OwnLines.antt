-- A line of the firm's own, and a balance, leave a sound firm sound.
use Rattle.firm_rows.proofs.Names.{◌≡◌, ℕ, Bool, true, List, [], ◌∷◌, ◌++◌, length, take, sym, ap, ◌∙◌, subst, arith, append-nil, ℤ, pos, ◌+ℤ◌, ◌≤ℤ◌, ◌&&◌, nat_le, int_eq, ints, map-append, take_all, last_of, Movement, FirmLine, BalanceRow, balance_of, IsOwnBalance, is_own_balance, kept_balance, balance_verdict, Firm, of, own_movement, with_firm_line, with_balance_row, by_balance, events_moved, line_event, days_moved, amount_for, moved_for, AreMovedInTime, FirmSound, FirmLineFits, BalanceFits, nat_tests}
use Rattle.firm_rows.proofs.Sums.{sum-append}
use Rattle.firm_rows.proofs.InTime.{RiseTo, days-append}
use Rattle.firm_rows.proofs.Told.{events-append, firm-append}
use Rattle.firm_rows.proofs.Kept.{take-more}
use Rattle.firm_rows.proofs.Balances.{balances-sorted}
use Rattle.firm_rows.proofs.Lines.{with-others}
use Rattle.firm_rows.specs.FirmLines.{with_balance}

module _ (l : FirmLine) (firm : Firm) (sound : FirmSound firm) (may : IsOwnBalance (balance_of firm.firm_lines +ℤ l.amount)) where
  abbrev new : List Movement
  new = own_movement l ∷ []

  in_time : (m : ℕ) → AreMovedInTime m (with_firm_line l firm)
  in_time m =
      let old = sound.in_time m in
      let same : days_moved m firm.movements ≡ days_moved m (firm.movements ++ new) = sym (days-append m firm.movements new ∙ append-nil (days_moved m firm.movements)) in
      let rise : RiseTo (last_of (of m firm).head) (days_moved m (firm.movements ++ new)) = subst (RiseTo (last_of (of m firm).head)) same (old.rising, old.by_last) in
      record { rising = rise.0; by_last = rise.1 }

  moved-same : (m : ℕ) → moved_for m (firm.movements ++ new) ≡ moved_for m firm.movements
  moved-same m = omega (arith, ints, sum-append (amount_for m) firm.movements new)

  covered : (m k : ℕ) → pos 0 ≤ℤ moved_for m (take k (firm.movements ++ new))
  covered m k =
      let all : take (length firm.movements) firm.movements ≡ firm.movements = take_all (length firm.movements) firm.movements (omega arith) in
      let whole : pos 0 ≤ℤ moved_for m firm.movements = subst (λ (vs : List Movement). pos 0 ≤ℤ moved_for m vs) all (sound.covered m (length firm.movements)) in
      take-more (λ (vs : List Movement). pos 0 ≤ℤ moved_for m vs) firm.movements (own_movement l) k (sound.covered m k) (omega (arith, ints, moved-same m, whole))

  within : (k : ℕ) → IsOwnBalance (balance_of (take k (firm.firm_lines ++ l ∷ [])))
  within k =
      let more : balance_of firm.firm_lines +ℤ l.amount ≡ balance_of (firm.firm_lines ++ l ∷ []) = omega (arith, ints, sum-append (λ (x : FirmLine). x.amount) firm.firm_lines (l ∷ [])) in
      take-more (λ (ls : List FirmLine). IsOwnBalance (balance_of ls)) firm.firm_lines l k (sound.within k) (subst IsOwnBalance more may)

  pub own_line-sound : FirmSound (with_firm_line l firm)
  own_line-sound = record {
    in_order = record { rows = sound.in_order.rows; exceptions = sound.in_order.exceptions; balances = sound.in_order.balances };
    matters = sound.matters;
    events = λ m n. events-append m n firm.movements new ∙ (append-nil (events_moved m n firm.movements) ∙ sound.events m n);
    own = firm-append firm.movements new ∙ (ap (λ es. es ++ line_event l ∷ []) sound.own ∙ sym (map-append line_event firm.firm_lines (l ∷ [])));
    in_time = in_time;
    ledgers = λ m. moved-same m ∙ sound.ledgers m;
    covered = covered;
    within = within;
  }

-- what a test of an own balance says
own-balance : (z : ℤ) (b : Bool) → is_own_balance z ≡ b → b ≡ true → IsOwnBalance z
own-balance z b is holds = let passed : is_own_balance z ≡ true = is ∙ holds in (grind (arith, ints), grind (arith, ints))

-- a line that may be booked leaves a balance that the firm may have
and-last : (a b c : Bool) → (a && b && c) ≡ true → c ≡ true
and-last a b c is = grind (arith)

-- so a line that is decided fits
pub firm_line-fits : FirmLineFits
firm_line-fits firm line v is = grind (arith, ints, nat_tests, own-balance, and-last, nat_le)

-- and so does a balance: it is applied where none of its kind and day is kept
pub balance-fits : BalanceFits
balance-fits firm kind line v is = grind (arith, ints, by_balance, kept_balance, balance_verdict, nat_le, int_eq)

-- balances are no matter's rows, and move nothing
pub statement-sound : (row : BalanceRow) (firm : Firm) → FirmSound firm → FirmSound (with_balance_row row firm)
statement-sound row firm sound = grind (arith, ints, with-others, with_balance, balances-sorted)
