-- Flaws of the movements, beside the rows of each matter and beside the firm.
use Rattle.firm_audit.proofs.Names.{◌≡◌, ℕ, zero, suc, ◌+◌, ◌<◌, true, List, [], ◌∷◌, Option, Some, None, Result, Ok, Err, IfOk, IfSome, map, slice_get, is_some, refl, sym, ap, ◌∙◌, subst, arith, nat_tests, nat_lt, cases_Bool, Rows, entry_at, Movement, FirmLine, BalanceRow, Line, Firm, of, event_of, Kept, AreNumbered, entries_kept, KeptMatter, rows_kept, rows_in, Ascends, IsBefore, AreKeptWhole, IsKeptWhole, firm_of, rows_of-joined, moved_of, IsOwned, IsFlawOf, IsFlawedJournal, IsJournalFlaw, IsJournalFlawAmong, IsStray, IsUnlike, IsUnlikeAmong, IsUnowned}
use Rattle.matter_rows.specs.declared.entry.Entry.{Entry}
use Rattle.firm_rows.specs.declared.movement.Owner.{Owner}
use Rattle.firm_rows.specs.declared.movement.Owner.TheVariants as owner
use Rattle.firm_audit.specs.declared.flaw.Flaw.{Flaw}
use Rattle.firm_audit.specs.declared.flaw.Flaw.TheVariants as flaw
use Rattle.firm_audit.proofs.Journals.{moved-twice}

-- Movements of no entry.

no-entry : (o : Option Entry) → (is_some o ≡ true → ⊥) → o ≡ None
no-entry None none = refl
no-entry (Some e) none = absurd (none refl)

pub not-owned : (ks : List KeptMatter) (o : Owner) → (IsOwned ks o → ⊥) → IsUnowned (λ m. rows_in m ks) o
not-owned ks (owner.Matter m n) apart = no-entry (entry_at (rows_in m ks).entries n) apart
not-owned ks owner.Firm apart = apart tt

-- One matter's entries.

-- a loaded entry has its number
pub numbered-at : (base : ℕ) (ks : List Kept) (i : ℕ) (k : Kept) → AreNumbered base ks → slice_get ks i ≡ Some k → (k.number ≡ base + i) × (entry_at (entries_kept ks) (i + 1) ≡ Some k.entry)
numbered-at base [] i k numbered at = absurd (cc)
numbered-at base (j ∷ ks) zero k numbered at = let same : j ≡ k = cc in grind (arith, nat_tests)
numbered-at base (j ∷ ks) (suc i) k numbered at =
    let more = numbered-at (base + 1) ks i k numbered.1 at in grind (arith, nat_tests, cases_Bool)

pub unlike-of : (k : KeptMatter) (vs : List Movement) (n : ℕ) → IsKeptWhole k → IsUnlikeAmong k.number k.matter.kept (moved_of k.number vs) n → IsUnlike (rows_kept k.matter) vs k.number n
unlike-of k vs n whole among =
    let numbered = numbered-at 1 k.matter.kept among.index among.kept whole.whole.numbered among.there in
    let place : among.index + 1 ≡ n = omega (arith, numbered.0, among.number) in
    record {
      entry = among.kept.entry;
      there = subst (λ (i : ℕ). entry_at (entries_kept k.matter.kept) i ≡ Some among.kept.entry) place numbered.1;
      unlike = λ same. among.unlike (ap (map event_of) (moved-twice k.number n vs) ∙ same);
    }

-- The matters by their numbers.

pub below-at : (m : ℕ) (ks : List KeptMatter) (i : ℕ) (k : KeptMatter) → IsBefore m ks → slice_get ks i ≡ Some k → m < k.number
below-at m [] i k before at = absurd (cc)
below-at m (j ∷ ks) zero k before at = let same : j ≡ k = cc in subst (λ (x : KeptMatter). m < x.number) same before.0
below-at m (j ∷ ks) (suc i) k before at = below-at m ks i k before.1 at

pub ascends-at : (ks : List KeptMatter) (i : ℕ) (a b : KeptMatter) → Ascends ks → slice_get ks i ≡ Some a → slice_get ks (suc i) ≡ Some b → a.number < b.number
ascends-at [] i a b up at behind = absurd (cc)
ascends-at (j ∷ ks) zero a b up at behind =
    let same : j ≡ a = cc in subst (λ (x : KeptMatter). x.number < b.number) same (below-at j.number ks 0 b up.0 behind)
ascends-at (j ∷ ks) (suc i) a b up at behind = ascends-at ks i a b up.1 at behind

pub rows-there : (ks : List KeptMatter) (i : ℕ) (k : KeptMatter) → Ascends ks → slice_get ks i ≡ Some k → rows_in k.number ks ≡ rows_kept k.matter
rows-there [] i k up at = absurd (cc)
rows-there (j ∷ ks) zero k up at = let same : j ≡ k = cc in grind (arith, nat_tests, nat_lt, cases_Bool)
rows-there (j ∷ ks) (suc i) k up at =
    let below = below-at j.number ks i k up.0 at in
    let more = rows-there ks i k up.1 at in
    grind (arith, nat_tests, nat_lt, cases_Bool)

-- The firm, whatever its other rows are.

module _ (ks : List KeptMatter) (vs : List Movement) (own : List FirmLine) (lines : List Line) (balances : List BalanceRow) (kept : AreKeptWhole ks) where
  abbrev firm : Firm
  firm = firm_of ks vs own lines balances

  own-rows : (m : ℕ) → rows_in m ks ≡ of m firm
  own-rows m = sym (rows_of-joined m ks kept.ascends)

  unowned-of : (o : Owner) → IsUnowned (λ m. rows_in m ks) o → IsUnowned (λ m. of m firm) o
  unowned-of (owner.Matter m n) none = subst (λ (rows : Rows). entry_at rows.entries n ≡ None) (own-rows m) none
  unowned-of owner.Firm none = none

  pub stray-of : (n : ℕ) → IsStray (λ m. rows_in m ks) vs n → IsStray (λ m. of m firm) vs n
  stray-of n stray = record {
    index = stray.index;
    number = stray.number;
    movement = stray.movement;
    there = stray.there;
    unowned = unowned-of stray.movement.owner stray.unowned;
  }

  journal-of : (f : Flaw) → IsJournalFlawAmong ks vs f → IsFlawOf firm f
  journal-of f among = cases f among.flawed
    where
      here : (m : ℕ) → among.kept.number ≡ m → rows_kept among.kept.matter ≡ of m firm
      here m number =
          sym (rows-there ks among.index among.kept kept.ascends among.there) ∙ (ap (λ n. rows_in n ks) number ∙ own-rows m)

      cases : (g : Flaw) → IsJournalFlaw among.kept vs g → IsFlawOf firm g
      cases (flaw.Matter m) flawed = flawed
      cases (flaw.Entry m n) flawed = subst (λ (rows : Rows). IsUnlike rows vs m n) (here m flawed.0) flawed.1
      cases (flaw.Journal m) flawed = subst (λ (rows : Rows). IsFlawedJournal rows (moved_of m vs)) (here m flawed.0) flawed.1
      cases (flaw.Movement n) flawed = absurd flawed
      cases flaw.OwnMovements flawed = absurd flawed
      cases (flaw.FirmLine n) flawed = absurd flawed
      cases (flaw.Exception n) flawed = absurd flawed
      cases (flaw.Balance n) flawed = absurd flawed

  pub among-of : {E : Type 0} (found : Result (Option Flaw) E) → IfOk found (λ o. IfSome o (IsJournalFlawAmong ks vs)) → IfOk found (λ o. IfSome o (IsFlawOf firm))
  among-of (Ok None) is = tt
  among-of (Ok (Some f)) is = journal-of f is
  among-of (Err e) is = tt
