-- A change of a sound firm leaves it sound.
use Rattle.firm_rows.proofs.Names.{◌≡◌, ◌≢◌, ℕ, ◌≤◌, List, [], ◌∷◌, ◌++◌, map, take, Option, Some, None, sym, ap, ◌∙◌, subst, arith, rules, append-nil, length-append, inl, inr, pos, ◌+ℤ◌, ◌≤ℤ◌, ints, cases_lt, take-append-le, take_all, IsStrictlySortedBy, Edit, Rows, unopened, entry_at, last_of, ledger, events_in, Sound, Covered, MatterChange, IsChange, changed_by, movement_of, AreMoved, IsMovedWithin, IsPlace, Movement, Firm, empty_firm, of, joined_movement, moved_by, rewritten_by, after_edit, after_change, balance_of, events_moved, firm_events, line_event, days_moved, amount_for, moved_for, AreMovedInTime, FirmSound}
use Rattle.std.proofs.Math.Seq.{take-nil}
use Rattle.trust_matter.specs.movement.EntryMovement as change
use Rattle.firm_rows.proofs.Trail.{sound-trail}
use Rattle.firm_rows.proofs.Sums.{sum-append}
use Rattle.firm_rows.proofs.InTime.{RiseTo, days-same, rise-own}
use Rattle.firm_rows.proofs.Order.{in_order-rewritten_by}
use Rattle.firm_rows.proofs.Clearing.{sound-cleared}
use Rattle.firm_rows.proofs.Changed.{each-matter, IsNoPurge, EditCases, edit-cases, of-rewritten_by, of_other-rewritten_by}
use Rattle.firm_rows.proofs.Told.{events-append, firm-append, joined-other, joined-firm, moved-other, events-told, ledger-told}

-- no ledger of a sound matter is below zero
pub ledger-least : Covered → (rows : Rows) → Sound rows → pos 0 ≤ℤ ledger rows.entries
ledger-least covered rows sound = let c = covered rows.entries sound.backed in omega (arith, ints, c.total, c.held)

-- what is so of a list up to a place, and of the whole with one element more, is so of that up to the place
pub take-more : {A : Type 0} (P : List A → Type 0) (xs : List A) (y : A) (k : ℕ) → P (take k xs) → P (xs ++ y ∷ []) → P (take k (xs ++ y ∷ []))
take-more P xs y k some whole = grind (arith, ints, cases_lt, take-append-le, length-append, take_all)

-- the sums so far, where the whole is at least zero
covered-more : (k : ℕ) (m : ℕ) (xs : List Movement) (n : ℕ) (o : Option change.EntryMovement) → ((j : ℕ) → pos 0 ≤ℤ moved_for k (take j xs)) → pos 0 ≤ℤ moved_for k (xs ++ joined_movement m o) → pos 0 ≤ℤ moved_for k (take n (xs ++ joined_movement m o))
covered-more k m xs n None so_far whole = subst (λ (ys : List Movement). pos 0 ≤ℤ moved_for k (take n ys)) (sym (append-nil xs)) (so_far n)
covered-more k m xs n (Some v) so_far whole = take-more (λ (ys : List Movement). pos 0 ≤ℤ moved_for k ys) xs _ n (so_far n) whole

-- an edit that fits these rows and leaves them sound, and what it moves, which is not before their last day
pub record IsKept (rows : Rows) (e : Edit) (last : ℕ) : Type 0 where
  pub place : IsPlace rows e
  pub sound : Sound (changed_by e last rows)
  pub moved : AreMoved rows.entries e (movement_of rows.entries e)
  pub not_before : last_of rows.head ≤ last
  pub seen : last_of (changed_by e last rows).head ≡ last
  pub dated : IsMovedWithin (last_of rows.head) last (movement_of rows.entries e)

module _ (m : ℕ) (e : Edit) (last : ℕ) (firm : Firm) (sound : FirmSound firm) (is : IsKept (of m firm) e last) (keeps : IsNoPurge e) where
  abbrev old : Rows
  old = of m firm

  abbrev after : Firm
  after = rewritten_by m e last firm

  own : of m after ≡ changed_by e last old
  own = of-rewritten_by m e last firm

  matters : (k : ℕ) → Sound (of k after)
  matters = each-matter (λ k. Sound (of k after)) m (subst Sound (sym own) is.sound) (λ k apart. subst Sound (sym (of_other-rewritten_by k m e last firm apart)) (sound.matters k))

  events : (k n : ℕ) → events_moved k n after.movements ≡ events_in (entry_at (of k after).entries n)
  events k n =
      events-append k n firm.movements (moved_by m e old) ∙ each-matter (λ j. events_moved j n firm.movements ++ events_moved j n (moved_by m e old) ≡ events_in (entry_at (of j after).entries n)) m
      (ap (λ xs. xs ++ events_moved m n (moved_by m e old)) (sound.events m n) ∙ (sym (events-told m old e n keeps is.place is.moved) ∙ ap (λ (r : Rows). events_in (entry_at r.entries n)) (sym own)))
      (λ k apart. ap (λ xs. events_moved k n firm.movements ++ xs) (joined-other m k n (movement_of old.entries e) apart) ∙ (append-nil (events_moved k n firm.movements) ∙ (sound.events k n ∙ ap (λ (r : Rows). events_in (entry_at r.entries n)) (sym (of_other-rewritten_by k m e last firm apart)))))
      k

  own_money : firm_events after.movements ≡ map line_event firm.firm_lines
  own_money = firm-append firm.movements (moved_by m e old) ∙ ((λ i. sound.own i ++ joined-firm m (movement_of old.entries e) i) ∙ append-nil (map line_event firm.firm_lines))

  in_time : (k : ℕ) → AreMovedInTime k after
  in_time = each-matter (λ k. AreMovedInTime k after) m here other
    where
      here : AreMovedInTime m after
      here =
          let before = sound.in_time m in
          let rise : RiseTo last (days_moved m after.movements) = rise-own m (last_of old.head) last firm.movements (movement_of old.entries e) (before.rising, before.by_last) is.not_before is.dated in
          let seen : last_of (of m after).head ≡ last = ap (λ (r : Rows). last_of r.head) own ∙ is.seen in
          record { rising = rise.0; by_last = (subst (λ n. RiseTo n (days_moved m after.movements)) (sym seen) rise).1 }

      other : (k : ℕ) → k ≢ m → AreMovedInTime k after
      other k apart =
          let before = sound.in_time k in
          let rise : RiseTo (last_of (of k firm).head) (days_moved k after.movements) = subst (RiseTo (last_of (of k firm).head)) (sym (days-same m k firm.movements (movement_of old.entries e) apart)) (before.rising, before.by_last) in
          let same : last_of (of k firm).head ≡ last_of (of k after).head = ap (λ (r : Rows). last_of r.head) (sym (of_other-rewritten_by k m e last firm apart)) in
          record { rising = rise.0; by_last = (subst (λ n. RiseTo n (days_moved k after.movements)) same rise).1 }

  ledgers : (k : ℕ) → moved_for k after.movements ≡ ledger (of k after).entries
  ledgers k =
      sum-append (amount_for k) firm.movements (moved_by m e old) ∙ each-matter (λ j. moved_for j firm.movements +ℤ moved_for j (moved_by m e old) ≡ ledger (of j after).entries) m
      (ap (λ z. z +ℤ moved_for m (moved_by m e old)) (sound.ledgers m) ∙ (sym (ledger-told m old e keeps is.place is.moved) ∙ ap (λ (r : Rows). ledger r.entries) (sym own)))
      (λ k apart. let none = moved-other m k (movement_of old.entries e) apart in let same : moved_for k firm.movements +ℤ moved_for k (moved_by m e old) ≡ moved_for k firm.movements = omega (arith, ints, none) in same ∙ (sound.ledgers k ∙ ap (λ (r : Rows). ledger r.entries) (sym (of_other-rewritten_by k m e last firm apart))))
      k

  covered : Covered → (k n : ℕ) → pos 0 ≤ℤ moved_for k (take n after.movements)
  covered law k n = covered-more k m firm.movements n (movement_of old.entries e) (sound.covered k) (subst (λ z. pos 0 ≤ℤ z) (sym (ledgers k)) (ledger-least law (of k after) (matters k)))

  pub sound-rewritten : Covered → FirmSound after
  sound-rewritten law = record {
    in_order = in_order-rewritten_by m e last firm sound.in_order;
    matters = matters;
    events = events;
    own = own_money;
    in_time = in_time;
    ledgers = ledgers;
    covered = covered law;
    within = sound.within;
  }

pub edit-sound : Covered → (m : ℕ) (e : Edit) (last : ℕ) (firm : Firm) → FirmSound firm → IsKept (of m firm) e last → FirmSound (after_edit m e last firm)
edit-sound law m e last firm sound is = cases (edit-cases m e last firm)
  where
    cases : EditCases m e last firm → FirmSound (after_edit m e last firm)
    cases (inl same) = subst FirmSound (sym same.1) sound
    cases (inr (inl to)) = subst FirmSound (sym to.0) (sound-rewritten m e last firm sound is to.1 law)
    cases (inr (inr to)) = subst FirmSound (sym to.after) (sound-cleared m (changed_by e last (of m firm)) firm sound (record { none = ap (λ (x : Edit). (changed_by x last (of m firm)).entries) to.edit; sound = is.sound }))

-- a change of a matter leaves a sound firm sound
pub stays-sound : Covered → (m : ℕ) (change : MatterChange) (firm : Firm) → FirmSound firm → IsChange (of m firm) change → FirmSound (after_change m change firm)
stays-sound law m change firm sound is =
    let edited : FirmSound (after_edit m change.edit change.last firm) = grind (arith, ints, (edit-sound law m change.edit change.last firm sound)) in
    sound-trail _ _ (after_edit m change.edit change.last firm) edited

-- A firm without rows.

pub unopened-sound : Sound unopened
unopened-sound = grind (arith, ints, rules)

pub empty-sound : FirmSound empty_firm
unfolding IsStrictlySortedBy
empty-sound = grind (arith, ints, rules, unopened-sound, take-nil, balance_of)
