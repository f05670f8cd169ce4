-- What a change moves is what its entry's events say, and what the ledger gains.
use Rattle.firm_rows.proofs.Names.{◌≡◌, ◌≢◌, ℕ, ◌+◌, false, cond, List, [], ◌∷◌, ◌++◌, length, Option, Some, None, sym, ap, ◌∙◌, arith, append-nil, eqb, map, pos, ◌+ℤ◌, ◌-ℤ◌, ◌==◌, slice_get, ints, nat_tests, map-append, filter-append, Entry, Edit, Rows, entry_at, with_entry, ledger, Event, events_of, events_in, cancelling, payments, received, as_movement, edited, movement_of, events_by, AreMoved, IsPlace, Movement, joined_movement, sum_of, event_of, is_of_entry, is_of_firm, events_moved, firm_events, moved_for, ledger_share}
use Rattle.std.specs.Prelude.{option_map}
use Rattle.trust_matter.specs.deposit.DepositState.{DepositState}
use Rattle.trust_matter.specs.payment.PaymentState.{PaymentState}
use Rattle.trust_matter.specs.edit.Numbered.{Numbered}
use Rattle.trust_matter.specs.edit.Edit.TheVariants as edit
use Rattle.trust_matter.specs.movement.EntryMovement as change
use Rattle.trust_matter.specs.Shares.{total_share, held_share, held_deposit, cleared_deposit, paid}
use Rattle.trust_matter.specs.Changes as changes
use Rattle.trust_matter.proofs.Entries.{entry_at-append, entry_at-with, none-past}
use Rattle.trust_matter.proofs.Sums.{total-append, total-with}
use Rattle.firm_rows.proofs.Changed.{IsNoPurge}
use Rattle.firm_rows.proofs.Sums.{sum-append}

pub events-append : (m n : ℕ) (xs ys : List Movement) → events_moved m n (xs ++ ys) ≡ events_moved m n xs ++ events_moved m n ys
events-append m n xs ys = ap (map event_of) (filter-append (λ v. is_of_entry m n v.owner) xs ys) ∙ map-append event_of _ _

pub firm-append : (xs ys : List Movement) → firm_events (xs ++ ys) ≡ firm_events xs ++ firm_events ys
firm-append xs ys = ap (map event_of) (filter-append (λ v. is_of_firm v.owner) xs ys) ∙ map-append event_of _ _

-- The movement of a change, if it has one.

-- what it says of entry n of its matter
abbrev by_entry : ℕ → Option change.EntryMovement → List Event
by_entry n None = []
by_entry n (Some v) = cond (v.entry == n) (changes.entry_event v ∷ []) []

pub joined-other : (m k n : ℕ) (o : Option change.EntryMovement) → k ≢ m → events_moved k n (joined_movement m o) ≡ []
joined-other m k n o apart = grind (arith, nat_tests)

joined-own : (m n : ℕ) (o : Option change.EntryMovement) → events_moved m n (joined_movement m o) ≡ by_entry n o
joined-own m n o = grind (arith, nat_tests)

pub joined-firm : (m : ℕ) (o : Option change.EntryMovement) → firm_events (joined_movement m o) ≡ []
joined-firm m o = grind (arith)

pub moved-other : (m k : ℕ) (o : Option change.EntryMovement) → k ≢ m → moved_for k (joined_movement m o) ≡ pos 0
moved-other m k o apart = grind (arith, ints, nat_tests)

moved-own : (m : ℕ) (o : Option change.EntryMovement) → moved_for m (joined_movement m o) ≡ sum_of (λ e. e.amount) (events_by o)
moved-own m o = grind (arith, ints, nat_tests)

-- the movement of entry n says what was moved of n, and nothing of another
by-own : (n k : ℕ) (o : Option Event) → k ≡ n → by_entry k (option_map (λ e. as_movement n e) o) ≡ events_by (option_map (λ e. as_movement n e) o)
by-own n k o same = grind (arith, nat_tests)

by-other : (n k : ℕ) (o : Option Event) → (k == n) ≡ false → by_entry k (option_map (λ e. as_movement n e) o) ≡ []
by-other n k o apart = grind (arith, nat_tests)

-- The events of the entries after an edit.

events-append_entry : (es : List Entry) (x : Numbered) (k : ℕ) → x.number ≡ length es + 1 → AreMoved es (edit.Append x) (movement_of es (edit.Append x)) → events_in (entry_at (es ++ x.entry ∷ []) k) ≡ events_in (entry_at es k) ++ by_entry k (movement_of es (edit.Append x))
events-append_entry es x k next moved =
    grind (arith, ints, nat_tests, entry_at-append, eqb, none-past, by-own, by-other, append-nil)

events-with : (es : List Entry) (x : Numbered) (old : Entry) (k : ℕ) → entry_at es x.number ≡ Some old → AreMoved es (edit.Exchange x) (movement_of es (edit.Exchange x)) → events_in (entry_at (with_entry es x.number x.entry) k) ≡ events_in (entry_at es k) ++ by_entry k (movement_of es (edit.Exchange x))
events-with es x old k there moved =
    grind (arith, ints, nat_tests, entry_at-with, eqb, by-own, slice_get, by-other, append-nil)

events-same : (es : List Entry) (k : ℕ) → events_in (entry_at es k) ≡ events_in (entry_at es k) ++ []
events-same es k = sym (append-nil (events_in (entry_at es k)))

events-edited : (rows : Rows) (e : Edit) (k : ℕ) → IsNoPurge e → IsPlace rows e → AreMoved rows.entries e (movement_of rows.entries e) → events_in (entry_at (edited rows.entries e) k) ≡ events_in (entry_at rows.entries k) ++ by_entry k (movement_of rows.entries e)
events-edited rows e k keeps place moved = grind (arith, ints, nat_tests, events-same, events-append_entry, events-with)

-- the events of a matter's entries after a change are those before it, and then what it moved
pub events-told : (m : ℕ) (rows : Rows) (e : Edit) (k : ℕ) → IsNoPurge e → IsPlace rows e → AreMoved rows.entries e (movement_of rows.entries e) → events_in (entry_at (edited rows.entries e) k) ≡ events_in (entry_at rows.entries k) ++ events_moved m k (joined_movement m (movement_of rows.entries e))
events-told m rows e k keeps place moved = events-edited rows e k keeps place moved ∙ ap (λ ys. events_in (entry_at rows.entries k) ++ ys) (sym (joined-own m k (movement_of rows.entries e)))

-- The ledger after an edit.

deposit-share : (s : DepositState) (day a : ℕ) → cleared_deposit s a +ℤ held_deposit s a ≡ sum_of (λ e. e.amount) (received day a ∷ cancelling s a)
deposit-share s day a = grind (arith, ints)

payment-share : (s : PaymentState) (a : ℕ) → (pos 0 -ℤ paid s a) +ℤ pos 0 ≡ sum_of (λ e. e.amount) (payments s a)
payment-share s a = grind (arith, ints)

-- an entry adds to the ledger what it has moved
pub share-events : (e : Entry) → ledger_share e ≡ sum_of (λ e. e.amount) (events_of e)
unfolding total_share held_share events_of
share-events e = grind (arith, ints, nat_tests, deposit-share, payment-share)

ledger-append : (es : List Entry) (x : Entry) (news : List Event) → events_of x ≡ news → ledger (es ++ x ∷ []) ≡ ledger es +ℤ sum_of (λ e. e.amount) news
ledger-append es x news moved =
    let share = share-events x ∙ ap (sum_of (λ e. e.amount)) moved in
    omega (arith, ints, total-append total_share es x, total-append held_share es x, share)

ledger-with : (es : List Entry) (n : ℕ) (old x : Entry) (news : List Event) → entry_at es n ≡ Some old → events_of x ≡ events_in (entry_at es n) ++ news → ledger (with_entry es n x) ≡ ledger es +ℤ sum_of (λ e. e.amount) news
ledger-with es n old x news there moved =
    let share = share-events x ∙ (ap (sum_of (λ e. e.amount)) (moved ∙ ap (λ o. events_in o ++ news) there) ∙ sum-append (λ (e : Event). e.amount) (events_of old) news) in
    omega (arith, ints, total-with total_share es n old x there, total-with held_share es n old x there, share, share-events old)

ledger-edited : (rows : Rows) (e : Edit) → IsNoPurge e → IsPlace rows e → AreMoved rows.entries e (movement_of rows.entries e) → ledger (edited rows.entries e) ≡ ledger rows.entries +ℤ sum_of (λ v. v.amount) (events_by (movement_of rows.entries e))
ledger-edited rows e keeps place moved = grind (arith, ints, nat_tests, ledger-append, ledger-with)

-- the ledger of a matter after a change is that before it, and what it moved
pub ledger-told : (m : ℕ) (rows : Rows) (e : Edit) → IsNoPurge e → IsPlace rows e → AreMoved rows.entries e (movement_of rows.entries e) → ledger (edited rows.entries e) ≡ ledger rows.entries +ℤ moved_for m (joined_movement m (movement_of rows.entries e))
ledger-told m rows e keeps place moved = ledger-edited rows e keeps place moved ∙ ap (λ z. ledger rows.entries +ℤ z) (sym (moved-own m (movement_of rows.entries e)))
