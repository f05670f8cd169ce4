-- What an entry's days say of the lists on which it stands, and of the sums to which it is added.
use Rattle.firm_figures.proofs.Names.{◌≡◌, ℕ, Bool, [], cond, Option, None, arith, ints, ℤ, pos, ◌-ℤ◌, if◌then◌else◌, Entry, nat_tests, booked_on, undone_on, returned_on, banked_on, back_on, is_in_transit, is_outstanding, is_banked_early, is_back_early, transit_share, outstanding_share, ledger_share_by, matched_share, early_share, is_some, option_or, cleared_amount, day_by, day_where, entry_line}

pub line-if : (m n : ℕ) (b : Bool) (day : Option ℕ) (z : ℤ) → entry_line m n (if b then day else None) z ≡ cond b (entry_line m n day z) []
line-if m n b day z = grind arith

-- the amount if it has come, less the amount if it has gone
abbrev left : Entry → Option ℕ → Option ℕ → ℤ
left e come gone = cond (is_some come) (cleared_amount e) (pos 0) -ℤ cond (is_some gone) (cleared_amount e) (pos 0)

pub transit-left : (p : ℕ) (e : Entry) → left e (day_where (is_in_transit p) booked_on e) None ≡ transit_share p e
transit-left p e = grind (arith, ints, nat_tests)

pub out-left : (p : ℕ) (e : Entry) → left e None (day_where (is_outstanding p) booked_on e) ≡ outstanding_share p e
out-left p e = grind (arith, ints, nat_tests)

pub ledger-left : (p : ℕ) (e : Entry) → left e (day_by p (booked_on e)) (option_or (day_by p (undone_on e)) (day_by p (returned_on e))) ≡ ledger_share_by p e
ledger-left p e = grind (arith, ints, nat_tests)

pub matched-left : (p : ℕ) (e : Entry) → left e (day_by p (banked_on e)) (day_by p (back_on e)) ≡ matched_share p e
matched-left p e = grind (arith, ints, nat_tests)

pub early-left : (p : ℕ) (e : Entry) → left e (day_where (is_banked_early p) banked_on e) (day_where (is_back_early p) back_on e) ≡ early_share p e
early-left p e = grind (arith, ints, nat_tests)

pub ruleset shares = (transit-left, out-left, ledger-left, matched-left, early-left)
