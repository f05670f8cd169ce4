-- A firm stays sound where a matter is left without an entry and its movements go.
use Rattle.firm_rows.proofs.Names.{◌≡◌, ◌≢◌, ℕ, zero, suc, ◌≤◌, Bool, true, false, not, cond, List, [], ◌∷◌, map, take, refl, sym, ap, ◌∙◌, subst, arith, pos, ◌≤ℤ◌, filter, AllByRecursion, ints, nat_tests, Entry, Rows, entry_at, last_of, ledger, events_in, Sound, Movement, Owner, Firm, of, is_of_matter, moved_without, purged_by, event_of, is_of_entry, is_of_firm, events_moved, days_moved, moved_for, AreMovedInTime, FirmSound, PurgedMovesNothing, PurgeLeavesOthers}
use Rattle.firm_rows.proofs.Changed.{each-matter, of-purged_by, of_other-purged_by}
use Rattle.firm_rows.proofs.Order.{in_order-purged_by}

-- rows that a matter may be left with: sound, and without an entry
pub record IsClear (rows : Rows) : Type 0 where
  pub none : rows.entries ≡ []
  pub sound : Sound rows

-- The movements that stay.

-- a test that only movements of others pass
module _ (m : ℕ) (t : Owner → Bool) (h : (o : Owner) → is_of_matter m o ≡ true → t o ≡ false) where
  pub passing-kept : (vs : List Movement) → filter (λ v. t v.owner) (moved_without m vs) ≡ filter (λ v. t v.owner) vs
  passing-kept [] = refl
  passing-kept (v ∷ vs) = grind (arith, passing-kept vs, h v.owner)

-- a test that only movements of the matter pass
module _ (m : ℕ) (t : Owner → Bool) (h : (o : Owner) → is_of_matter m o ≡ false → t o ≡ false) where
  pub passing-gone : (vs : List Movement) → filter (λ v. t v.owner) (moved_without m vs) ≡ []
  passing-gone [] = refl
  passing-gone (v ∷ vs) = grind (arith, passing-gone vs, h v.owner)

-- Whose they are.

entry-other : (m k n : ℕ) (o : Owner) → k ≢ m → is_of_matter m o ≡ true → is_of_entry k n o ≡ false
entry-other m k n o apart is = grind (arith, nat_tests)

matter-other : (m k : ℕ) (o : Owner) → k ≢ m → is_of_matter m o ≡ true → is_of_matter k o ≡ false
matter-other m k o apart is = grind (arith, nat_tests)

firm-other : (m : ℕ) (o : Owner) → is_of_matter m o ≡ true → is_of_firm o ≡ false
firm-other m o is = grind (arith)

entry-own : (m n : ℕ) (o : Owner) → is_of_matter m o ≡ false → is_of_entry m n o ≡ false
entry-own m n o is = grind (arith)

-- Sums so far: those of the movements that stay are those of some place of the old list.

own-sum : (m k : ℕ) (vs : List Movement) → moved_for m (take k (moved_without m vs)) ≡ pos 0
own-sum m zero vs = refl
own-sum m (suc k) [] = refl
own-sum m (suc k) (v ∷ vs) = grind (arith, ints, own-sum m (suc k) vs, own-sum m k vs)

-- up to a place the list without them is the list up to some place without them
place-kept : (m k : ℕ) (vs : List Movement) → (j : ℕ) × (take k (moved_without m vs) ≡ moved_without m (take j vs))
place-kept m zero vs = (0, refl)
place-kept m (suc k) [] = (0, refl)
place-kept m (suc k) (v ∷ vs) = cases (is_of_matter m v.owner) refl (place-kept m (suc k) vs) (place-kept m k vs)
  where
    cases : (b : Bool) → is_of_matter m v.owner ≡ b → (j : ℕ) × (take (suc k) (moved_without m vs) ≡ moved_without m (take j vs)) → (j : ℕ) × (take k (moved_without m vs) ≡ moved_without m (take j vs)) → (j : ℕ) × (take (suc k) (cond (not b) (v ∷ moved_without m vs) (moved_without m vs)) ≡ moved_without m (take j (v ∷ vs)))
    cases true is past here = (suc past.0, rw is past.1)
    cases false is past here = (suc here.0, rw is (ap (λ xs. v ∷ xs) here.1))

-- another matter's sum is what it was
other-sum : (m k : ℕ) (vs : List Movement) → k ≢ m → moved_for k (moved_without m vs) ≡ moved_for k vs
other-sum m k [] apart = refl
other-sum m k (v ∷ vs) apart = grind (arith, ints, other-sum m k vs apart, matter-other m k v.owner apart)

-- Soundness.

module _ (m : ℕ) (rows : Rows) (firm : Firm) (sound : FirmSound firm) (is : IsClear rows) where
  abbrev after : Firm
  after = purged_by m rows firm

  matters : (k : ℕ) → Sound (of k after)
  matters = each-matter (λ k. Sound (of k after)) m (subst Sound (sym (of-purged_by m rows firm)) is.sound) (λ k apart. subst Sound (sym (of_other-purged_by k m rows firm apart)) (sound.matters k))

  none : (of m after).entries ≡ []
  none = ap (λ (r : Rows). r.entries) (of-purged_by m rows firm) ∙ is.none

  events : (k n : ℕ) → events_moved k n after.movements ≡ events_in (entry_at (of k after).entries n)
  events k n =
      each-matter (λ j. events_moved j n after.movements ≡ events_in (entry_at (of j after).entries n)) m
      (ap (map event_of) (passing-gone m (is_of_entry m n) (entry-own m n) firm.movements) ∙ ap (λ (es : List Entry). events_in (entry_at es n)) (sym none))
      (λ k apart. ap (map event_of) (passing-kept m (is_of_entry k n) (λ o own. entry-other m k n o apart own) firm.movements) ∙ (sound.events k n ∙ ap (λ (r : Rows). events_in (entry_at r.entries n)) (sym (of_other-purged_by k m rows firm apart))))
      k

  days : (k : ℕ) → k ≢ m → days_moved k after.movements ≡ days_moved k firm.movements
  days k apart = ap (map (λ v. v.day)) (passing-kept m (is_of_matter k) (λ o own. matter-other m k o apart own) firm.movements)

  no_days : days_moved m after.movements ≡ []
  no_days = ap (map (λ v. v.day)) (passing-gone m (is_of_matter m) (λ o other. other) firm.movements)

  in_time : (k : ℕ) → AreMovedInTime k after
  in_time k =
      each-matter (λ j. AreMovedInTime j after) m
      (record { rising = rw no_days tt; by_last = rw no_days tt })
      (λ k apart. let before = sound.in_time k in let same : last_of (of k firm).head ≡ last_of (of k after).head = ap (λ (r : Rows). last_of r.head) (sym (of_other-purged_by k m rows firm apart)) in record { rising = rw (days k apart) before.rising; by_last = subst (λ last. AllByRecursion (λ day. day ≤ last) (days_moved k after.movements)) same (rw (days k apart) before.by_last) })
      k

  ledgers : (k : ℕ) → moved_for k after.movements ≡ ledger (of k after).entries
  ledgers =
      each-matter (λ k. moved_for k after.movements ≡ ledger (of k after).entries) m
      (gone firm.movements ∙ ap ledger (sym none))
      (λ k apart. other-sum m k firm.movements apart ∙ (sound.ledgers k ∙ ap (λ (r : Rows). ledger r.entries) (sym (of_other-purged_by k m rows firm apart))))
    where
      gone : (vs : List Movement) → moved_for m (moved_without m vs) ≡ pos 0
      gone [] = refl
      gone (v ∷ vs) = grind (arith, ints, gone vs)

  covered : (k n : ℕ) → pos 0 ≤ℤ moved_for k (take n after.movements)
  covered k n =
      each-matter (λ j. pos 0 ≤ℤ moved_for j (take n after.movements)) m
      (let z = own-sum m n firm.movements in omega (arith, ints, z))
      (λ k apart. let place = place-kept m n firm.movements in let so_far : moved_for k (take n after.movements) ≡ moved_for k (take place.0 firm.movements) = ap (moved_for k) place.1 ∙ other-sum m k (take place.0 firm.movements) apart in subst (λ z. pos 0 ≤ℤ z) (sym so_far) (sound.covered k place.0))
      k

  pub sound-cleared : FirmSound after
  sound-cleared = record {
    in_order = in_order-purged_by m rows firm sound.in_order;
    matters = matters;
    events = events;
    own = ap (map event_of) (passing-kept m is_of_firm (firm-other m) firm.movements) ∙ sound.own;
    in_time = in_time;
    ledgers = ledgers;
    covered = covered;
    within = sound.within;
  }

-- Whose movements go.

pub purged-moves-nothing : PurgedMovesNothing
purged-moves-nothing m day last firm = passing-gone m (is_of_matter m) (λ o other. other) firm.movements

pub purge-leaves-others : PurgeLeavesOthers
purge-leaves-others n m day last firm apart = passing-kept m (is_of_matter n) (λ o own. matter-other m n o apart own) firm.movements
