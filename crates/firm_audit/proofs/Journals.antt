-- The journal of each matter, and that of the firm.
use Rattle.firm_audit.proofs.Names.{inl, inr, cases_Bool, ◌≡◌, ℕ, zero, suc, ◌+◌, ◌-◌, ◌<◌, Bool, false, List, [], ◌∷◌, Option, Some, None, map, take, refl, sym, ap, ◌∙◌, subst, arith, filter, ℤ, pos, ◌≤ℤ◌, AllByRecursion, false≢true, nat_tests, ints, Rows, entry_at, last_of, unopened, events_of, events_in, within, Kept, AreNumbered, entries_kept, Movement, is_of_matter, is_of_entry, event_of, events_moved, moved_for, sum-filter, KeptMatter, rows_kept, IsKeptWhole, rows_in, moved_of, RiseWithin, moved_sum, AreCovered, AreMoved, IsJournal, IsOwned, IsJournalOf}
use Rattle.matter_rows.specs.declared.entry.Entry.{Entry}
use Rattle.matter_rows.specs.Balances.{ledger}
use Rattle.firm_rows.specs.declared.movement.Owner.{Owner}
use Rattle.firm_audit.proofs.KeptRows.{at-each}

-- A matter's own movements.

-- the movements of an entry are among those of its matter
not-its : (m n : ℕ) (o : Owner) → is_of_matter m o ≡ false → is_of_entry m n o ≡ false
not-its m n o other = grind (arith, ints, nat_tests)

pub moved-twice : (m n : ℕ) (vs : List Movement) → filter (λ v. is_of_entry m n v.owner) (moved_of m vs) ≡ filter (λ v. is_of_entry m n v.owner) vs
moved-twice m n [] = refl
moved-twice m n (v ∷ vs) = grind (arith, ints, nat_tests, cases_Bool, not-its, (moved-twice m n vs))

-- the first movements of a matter are those among the first of all
pub taken-among : {A : Type 0} (p : A → Bool) (k : ℕ) (xs : List A) → (j : ℕ) × (filter p (take k xs) ≡ take j (filter p xs))
taken-among p zero xs = (0, refl)
taken-among p (suc k) [] = (0, refl)
taken-among p (suc k) (x ∷ xs) = let more = taken-among p k xs in elim (cases_Bool (p x)) [
  | inl t ↦ (suc more.0, rw t (ap (λ ys. x ∷ ys) more.1))
  | inr f ↦ (more.0, rw f more.1)
]

pub moved_for-is : (m : ℕ) (vs : List Movement) → moved_for m vs ≡ moved_sum (moved_of m vs)
moved_for-is m vs = sym (sum-filter (λ v. is_of_matter m v.owner) (λ v. v.amount) vs)

pub covered-by : (m : ℕ) (vs : List Movement) → AreCovered (moved_of m vs) → (k : ℕ) → pos 0 ≤ℤ moved_for m (take k vs)
covered-by m vs covered k =
    let among = taken-among (λ v. is_of_matter m v.owner) k vs in
    subst (λ (z : ℤ). pos 0 ≤ℤ z) (sym (moved_for-is m (take k vs) ∙ ap moved_sum among.1)) (covered among.0)

-- Movements of what is not there.

-- no movement is of an entry that is not there
not-of : (m n : ℕ) (ks : List KeptMatter) (o : Owner) → IsOwned ks o → entry_at (rows_in m ks).entries n ≡ None → is_of_entry m n o ≡ false
not-of m n ks o there none = grind (arith, ints, nat_tests, cases_Bool, false≢true)

pub none-moved : (m n : ℕ) (ks : List KeptMatter) (vs : List Movement) → AllByRecursion (λ v. IsOwned ks v.owner) vs → entry_at (rows_in m ks).entries n ≡ None → filter (λ v. is_of_entry m n v.owner) vs ≡ []
none-moved m n ks [] all none = refl
none-moved m n ks (v ∷ vs) all none = rw (not-of m n ks v.owner all.0 none) (none-moved m n ks vs all.1 none)

-- nor of a matter that was never opened
not-of_matter : (m : ℕ) (ks : List KeptMatter) (o : Owner) → IsOwned ks o → rows_in m ks ≡ unopened → is_of_matter m o ≡ false
not-of_matter m ks o there none = grind (arith, ints, nat_tests, cases_Bool, false≢true)

pub none-moved_of : (m : ℕ) (ks : List KeptMatter) (vs : List Movement) → AllByRecursion (λ v. IsOwned ks v.owner) vs → rows_in m ks ≡ unopened → moved_of m vs ≡ []
none-moved_of m ks [] all none = refl
none-moved_of m ks (v ∷ vs) all none = rw (not-of_matter m ks v.owner all.0 none) (none-moved_of m ks vs all.1 none)

-- A matter's journal beside its rows.

pub record IsMovedAs (vs : List Movement) (m : ℕ) (rows : Rows) : Type 0 where
  pub events : (n : ℕ) (e : Entry) → entry_at rows.entries n ≡ Some e → events_moved m n vs ≡ events_of e
  pub in_time : RiseWithin 0 (last_of rows.head) (map (λ v. v.day) (moved_of m vs))
  pub ledger : moved_for m vs ≡ ledger rows.entries
  pub covered : (k : ℕ) → pos 0 ≤ℤ moved_for m (take k vs)

-- kept entries have their numbers
events-at : (m base n i : ℕ) (ks : List Kept) (own : List Movement) (e : Entry) → AreNumbered base ks → AreMoved m ks own → entry_at (entries_kept ks) n ≡ Some e → 0 < n → i + 1 ≡ base + n → events_moved m i own ≡ events_of e
events-at m base n i [] own e numbered all there some at = absurd (cc)
events-at m base n i (k ∷ ks) own e numbered all there some at =
    grind (arith, ints, nat_tests, cases_Bool, (events-at m (base + 1) (n - 1) i ks own e numbered.1 all.1))

moved-as : (vs : List Movement) (k : KeptMatter) → IsKeptWhole k → IsJournal k (moved_of k.number vs) → IsMovedAs vs k.number (rows_kept k.matter)
moved-as vs k whole journal =
    grind (arith, ints, nat_tests, within, event_of, moved-twice, events-at, moved_for-is, covered-by)

all-moved : (vs : List Movement) (ks : List KeptMatter) → AllByRecursion IsKeptWhole ks → AllByRecursion (λ k. IsJournal k (moved_of k.number vs)) ks → AllByRecursion (λ k. IsMovedAs vs k.number (rows_kept k.matter)) ks
all-moved vs [] whole all = tt
all-moved vs (k ∷ ks) whole all = (moved-as vs k whole.0 all.0, all-moved vs ks whole.1 all.1)

-- a matter that was never opened moved nothing
nothing-moved : (vs : List Movement) (m : ℕ) → moved_of m vs ≡ [] → IsMovedAs vs m unopened
nothing-moved vs m none = let zero : moved_sum [] ≡ ledger [] = omega (arith, ints) in record {
  events = λ n e there. absurd (cc);
  in_time = subst (λ (own : List Movement). RiseWithin 0 0 (map (λ v. v.day) own)) (sym none) (tt, tt);
  ledger = moved_for-is m vs ∙ (ap moved_sum none ∙ zero);
  covered = covered-by m vs (subst AreCovered (sym none) (λ k. nothing k));
}
  where
    nothing : (k : ℕ) → pos 0 ≤ℤ moved_sum (take k [])
    nothing zero = omega (arith, ints)
    nothing (suc k) = omega (arith, ints)

pub moved-in : (m : ℕ) (ks : List KeptMatter) (vs : List Movement) → AllByRecursion IsKeptWhole ks → IsJournalOf ks vs → IsMovedAs vs m (rows_in m ks)
moved-in m ks vs whole journal = at-each (IsMovedAs vs) m ks (λ none. nothing-moved vs m (none-moved_of m ks vs journal.owned none)) (all-moved vs ks whole journal.matters)

-- the movements of each entry are its events, and there are no others
pub events-in : (m n : ℕ) (ks : List KeptMatter) (vs : List Movement) → AllByRecursion IsKeptWhole ks → IsJournalOf ks vs → events_moved m n vs ≡ events_in (entry_at (rows_in m ks).entries n)
events-in m n ks vs whole journal = cases (entry_at (rows_in m ks).entries n) refl
  where
    cases : (o : Option Entry) → entry_at (rows_in m ks).entries n ≡ o → events_moved m n vs ≡ events_in o
    cases None none = ap (map event_of) (none-moved m n ks vs journal.owned none)
    cases (Some e) there = (moved-in m ks vs whole journal).events n e there
