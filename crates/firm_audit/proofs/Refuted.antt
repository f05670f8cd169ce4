-- Sound rows have no flaw.
use Rattle.firm_audit.proofs.Names.{inl, inr, ◌≡◌, ◌↔◌, ℕ, zero, suc, Bool, true, false≢true, is_some, List, [], ◌∷◌, Option, Some, None, take, filter, slice_get, refl, sym, ap, ◌∙◌, subst, arith, ints, nat_tests, cases_Bool, IfSome, events_in, Movement, is_of_matter, is_of_entry, moved_for, KeptMatter, AreKeptWhole, IsKeptWhole, Firm, of, firm_of, firm_of_all, moved_of, moved_sum, balance_cmp, AreSound, IsFlawIn, IsFlawOf, IsFlawedJournal, IsFlawedMatter, IsMatterFlaw, IsMisplaced, IsOverdrawn, IsStray, IsUnowned}
use Rattle.trust_base.specs.LineOrder.{line_cmp}
use Rattle.std.specs.List.Sorted.{IsStrictlySortedBy}
use Rattle.std.specs.declared.cmp.Ordering.{Ordering}
use Rattle.std.specs.declared.cmp.Ordering.TheVariants.{Less}
use Rattle.trust_store.specs.declared.all_rows.AllRows.{AllRows}
use Rattle.firm_rows.proofs.Trail.{sound-trail}
use Rattle.firm_rows.specs.FirmSound.{FirmSound}
use Rattle.firm_rows.specs.Firm.{with_trail}
use Rattle.firm_rows.specs.declared.dismissal.Dismissal.{Dismissal}
use Rattle.firm_rows.specs.declared.matter_act.MatterAct.{MatterAct}
use Rattle.firm_rows.specs.declared.movement.Owner.{Owner}
use Rattle.firm_rows.specs.declared.movement.Owner.TheVariants as owner
use Rattle.firm_audit.specs.declared.flaw.Flaw.{Flaw}
use Rattle.firm_audit.specs.declared.flaw.Flaw.TheVariants as flaw
use Rattle.firm_audit.proofs.Fronts.{all-at, some-passed}
use Rattle.firm_audit.proofs.Journals.{moved_for-is}
use Rattle.firm_audit.proofs.Strays.{ascends-at}

-- Places.

sorted-at : {K : Type 0} (cmp : K → K → Ordering) (xs : List K) (i : ℕ) (a b : K) → IsStrictlySortedBy cmp xs → slice_get xs i ≡ Some a → slice_get xs (suc i) ≡ Some b → cmp a b ≡ Less
unfolding IsStrictlySortedBy
sorted-at cmp [] i a b sorted at behind = absurd (cc)
sorted-at cmp (x ∷ xs) zero a b sorted at behind =
    let same : x ≡ a = cc in subst (λ y. cmp y b ≡ Less) same (all-at (λ y. cmp x y ≡ Less) xs 0 b behind sorted.0)
sorted-at cmp (x ∷ xs) (suc i) a b sorted at behind = sorted-at cmp xs i a b sorted.1 at behind

none-misplaced : {K : Type 0} (cmp : K → K → Ordering) (xs : List K) (n : ℕ) → IsStrictlySortedBy cmp xs → IsMisplaced (λ a b. cmp a b ≡ Less) xs n → ⊥
none-misplaced cmp xs n sorted wrong = wrong.apart (sorted-at cmp xs wrong.index wrong.one wrong.next sorted wrong.before wrong.behind)

-- Matters.

none-flawed : (ks : List KeptMatter) (m : ℕ) → AreKeptWhole ks → IsFlawedMatter ks m → ⊥
none-flawed ks m kept wrong = elim wrong.flawed [
  | inl apart ↦ apart (all-at IsKeptWhole ks wrong.index wrong.kept wrong.there kept.whole)
  | inr low ↦ low.apart (ascends-at ks low.index low.one low.next kept.ascends low.before low.behind)
]

-- The journal.

-- the first of the movements that pass are among the first of all
taken-of : (p : Movement → Bool) (k : ℕ) (vs : List Movement) → (j : ℕ) × (take k (filter p vs) ≡ filter p (take j vs))
taken-of p k [] = (0, none k)
  where
    none : (k : ℕ) → take {A = Movement} k [] ≡ []
    none zero = refl
    none (suc k) = refl
taken-of p zero (v ∷ vs) = (0, refl)
taken-of p (suc k) (v ∷ vs) = elim (cases_Bool (p v)) [
  | inl t ↦ let more = taken-of p k vs in (suc more.0, rw t (ap (λ ys. v ∷ ys) more.1))
  | inr f ↦ let more = taken-of p (suc k) vs in (suc more.0, rw f more.1)
]

module _ (firm : Firm) (sound : FirmSound firm) where
  never-overdrawn : (m : ℕ) → IsOverdrawn (moved_of m firm.movements) → ⊥
  never-overdrawn m (k, low) =
      let among = taken-of (λ v. is_of_matter m v.owner) k firm.movements in
      let same : moved_sum (take k (moved_of m firm.movements)) ≡ moved_for m (take among.0 firm.movements) = ap moved_sum among.1 ∙ sym (moved_for-is m (take among.0 firm.movements)) in
      omega (arith, ints, low, same, sound.covered m among.0)

  none-journal : (m : ℕ) → IsFlawedJournal (of m firm) (moved_of m firm.movements) → ⊥
  none-journal m (inl apart) = apart ((sound.in_time m).rising, (sound.in_time m).by_last)
  none-journal m (inr (inl low)) = never-overdrawn m low
  none-journal m (inr (inr apart)) = apart (sym (moved_for-is m firm.movements) ∙ sound.ledgers m)

  its-own : (m n : ℕ) → is_of_entry m n (owner.Matter m n) ≡ true
  its-own m n = grind (arith, nat_tests, cases_Bool)

  none-stray : (n : ℕ) → IsStray (λ m. of m firm) firm.movements n → ⊥
  none-stray n stray = cases stray.movement.owner refl stray.unowned
    where
      cases : (o : Owner) → stray.movement.owner ≡ o → IsUnowned (λ m. of m firm) o → ⊥
      cases (owner.Matter m e) is none =
          some-passed (λ v. is_of_entry m e v.owner) firm.movements stray.index stray.movement stray.there
          (ap (is_of_entry m e) is ∙ its-own m e)
          (sound.events m e ∙ ap events_in none)
      cases owner.Firm is none = none

  pub refuted : (f : Flaw) → IsFlawOf firm f → ⊥
  refuted (flaw.Matter m) is = is
  refuted (flaw.Entry m n) is = is.unlike (sound.events m n ∙ ap events_in is.there)
  refuted (flaw.Journal m) is = none-journal m is
  refuted (flaw.Movement n) is = none-stray n is
  refuted flaw.OwnMovements is = is sound.own
  refuted (flaw.FirmLine n) is = is.outside (sound.within n)
  refuted (flaw.Exception n) is = none-misplaced line_cmp firm.exceptions n sound.in_order.exceptions is
  refuted (flaw.Balance n) is = none-misplaced balance_cmp firm.balances n sound.in_order.balances is

-- All rows.

-- a flaw of a firm is one whatever the trail is
flaw-trail : (acts : List MatterAct) (dismissals : List Dismissal) (firm : Firm) (f : Flaw) → IsFlawOf firm f → IsFlawOf (with_trail acts dismissals firm) f
flaw-trail acts dismissals firm (flaw.Matter m) is = is
flaw-trail acts dismissals firm (flaw.Entry m n) is = is
flaw-trail acts dismissals firm (flaw.Journal m) is = is
flaw-trail acts dismissals firm (flaw.Movement n) is = is
flaw-trail acts dismissals firm flaw.OwnMovements is = is
flaw-trail acts dismissals firm (flaw.FirmLine n) is = is
flaw-trail acts dismissals firm (flaw.Exception n) is = is
flaw-trail acts dismissals firm (flaw.Balance n) is = is

pub none_of_matters : (ks : List KeptMatter) (f : Flaw) → AreKeptWhole ks → IsMatterFlaw ks f → ⊥
none_of_matters ks (flaw.Matter m) kept is = none-flawed ks m kept is
none_of_matters ks (flaw.Entry m n) kept is = is
none_of_matters ks (flaw.Journal m) kept is = is
none_of_matters ks (flaw.Movement n) kept is = is
none_of_matters ks flaw.OwnMovements kept is = is
none_of_matters ks (flaw.FirmLine n) kept is = is
none_of_matters ks (flaw.Exception n) kept is = is
none_of_matters ks (flaw.Balance n) kept is = is

-- the firm that has these rows, but for its trail
abbrev without_trail : AllRows → Firm
without_trail rows = firm_of rows.matters.items rows.movements.items rows.firm_lines.items rows.exceptions.items rows.balances.items

pub among-all : (rows : AllRows) (f : Flaw) → IsFlawOf (without_trail rows) f → IsFlawIn rows f
among-all rows f is = inr (flaw-trail rows.acts.items rows.dismissals.items (without_trail rows) f is)

none-in : (rows : AllRows) (f : Flaw) → AreSound rows → IsFlawIn rows f → ⊥
none-in rows f sound (inl is) = none_of_matters rows.matters.items f sound.matters is
none-in rows f sound (inr is) =
    refuted (firm_of_all rows) (sound-trail rows.acts.items rows.dismissals.items (without_trail rows) sound.firm) f is

-- a flaw that is there is found exactly if the rows are not sound
pub none-found : (rows : AllRows) (found : Option Flaw) → (found ≡ None → AreSound rows) → IfSome found (IsFlawIn rows) → (found ≡ None ↔ AreSound rows)
none-found rows None sound is = (sound, λ so. refl)
none-found rows (Some f) sound is = (sound, λ so. absurd (none-in rows f so is))

pub some-found : (rows : AllRows) (found : Option Flaw) → is_some found ≡ true → IfSome found (IsFlawIn rows) → (found ≡ None ↔ AreSound rows)
some-found rows found some is = none-found rows found (λ none. absurd (false≢true (sym (ap is_some none) ∙ some))) is
