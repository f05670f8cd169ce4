-- A change of a matter changes the rows of that matter alone.
use Rattle.firm_rows.proofs.Names.{◌≡◌, ◌≢◌, ℕ, ◌⊎◌, inl, inr, ⊎_elim, refl, sym, ap, ◌∙◌, subst, ◌++◌, List, append-nil, cases_eq, Edit, Rows, MatterChange, changed, changed_by, Movement, Firm, of, among, rewritten_by, purged_by, moved_by, moved_without, kept_movements, put, after_edit, after_change, arith, ints, nat_tests}
use Rattle.trust_matter.specs.edit.Edit.TheVariants as edit
use Rattle.firm_rows.proofs.Joined.{rows_of-put_same, rows_of-put_other}

-- what is so of one matter, and of each other, is so of all
pub each-matter : (P : ℕ → Type 0) (m : ℕ) → P m → ((k : ℕ) → k ≢ m → P k) → (k : ℕ) → P k
each-matter P m here other k = ⊎_elim (λ same. subst P (sym same) here) (other k) (cases_eq k m)

-- the edit purges the matter, and its movements go
pub record IsCleared (m : ℕ) (e : Edit) (last : ℕ) (firm : Firm) : Type 0 where
  pub day : ℕ
  pub edit : e ≡ edit.Purge day
  pub after : after_edit m e last firm ≡ purged_by m (changed_by e last (of m firm)) firm

-- the edit purges no matter
abbrev pub IsNoPurge : Edit → Type 0
IsNoPurge e = (day : ℕ) → e ≡ edit.Purge day → ⊥

-- an edit is nothing, or the firm is written anew, or the matter is purged
abbrev pub EditCases : ℕ → Edit → ℕ → Firm → Type 0
EditCases m e last firm = (e ≡ edit.Nothing) × (after_edit m e last firm ≡ firm) ⊎ (((after_edit m e last firm ≡ rewritten_by m e last firm) × IsNoPurge e) ⊎ IsCleared m e last firm)

pub edit-cases : (m : ℕ) (e : Edit) (last : ℕ) (firm : Firm) → EditCases m e last firm
edit-cases m edit.Nothing last firm = inl (refl, refl)
edit-cases m (edit.Open opening) last firm = inr (inl (refl, λ day is. cc))
edit-cases m (edit.Seat seat) last firm = inr (inl (refl, λ day is. cc))
edit-cases m (edit.Unseat person) last firm = inr (inl (refl, λ day is. cc))
edit-cases m (edit.Close day) last firm = inr (inl (refl, λ day is. cc))
edit-cases m (edit.Purge day) last firm = inr (inr (record { day = day; edit = refl; after = refl }))
edit-cases m (edit.Append entry) last firm = inr (inl (refl, λ day is. cc))
edit-cases m (edit.Exchange entry) last firm = inr (inl (refl, λ day is. cc))

pub of-rewritten_by : (m : ℕ) (e : Edit) (last : ℕ) (firm : Firm) → of m (rewritten_by m e last firm) ≡ changed_by e last (of m firm)
of-rewritten_by m e last firm = rows_of-put_same m (changed_by e last (of m firm)) firm.rows

pub of_other-rewritten_by : (n m : ℕ) (e : Edit) (last : ℕ) (firm : Firm) → n ≢ m → of n (rewritten_by m e last firm) ≡ of n firm
of_other-rewritten_by n m e last firm apart = ap among (rows_of-put_other n m (changed_by e last (of m firm)) firm.rows apart)

pub of-purged_by : (m : ℕ) (rows : Rows) (firm : Firm) → of m (purged_by m rows firm) ≡ rows
of-purged_by m rows firm = rows_of-put_same m rows firm.rows

pub of_other-purged_by : (n m : ℕ) (rows : Rows) (firm : Firm) → n ≢ m → of n (purged_by m rows firm) ≡ of n firm
of_other-purged_by n m rows firm apart = ap among (rows_of-put_other n m rows firm.rows apart)

-- an edit makes of the matter's rows what it says, and leaves those of each other
pub of-after_edit : (m : ℕ) (e : Edit) (last : ℕ) (firm : Firm) → of m (after_edit m e last firm) ≡ changed_by e last (of m firm)
of-after_edit m e last firm =
    grind (arith, ints, nat_tests, edit-cases, of, after_edit, changed_by, of-rewritten_by, of-purged_by)

pub of_other-after_edit : (n m : ℕ) (e : Edit) (last : ℕ) (firm : Firm) → n ≢ m → of n (after_edit m e last firm) ≡ of n firm
of_other-after_edit n m e last firm apart = cases (edit-cases m e last firm)
  where
    cases : EditCases m e last firm → of n (after_edit m e last firm) ≡ of n firm
    cases (inl same) = ap (of n) same.1
    cases (inr (inl is)) = ap (of n) is.0 ∙ of_other-rewritten_by n m e last firm apart
    cases (inr (inr is)) = ap (of n) is.after ∙ of_other-purged_by n m (changed_by e last (of m firm)) firm apart

-- a change makes of the matter's rows what it says
pub changes-own : (m : ℕ) (change : MatterChange) (firm : Firm) → of m (after_change m change firm) ≡ changed change (of m firm)
changes-own m change firm = of-after_edit m change.edit change.last firm

-- and leaves those of each other
pub changes-no_other : (n m : ℕ) (change : MatterChange) (firm : Firm) → n ≢ m → of n (after_change m change firm) ≡ of n firm
changes-no_other n m change firm apart = of_other-after_edit n m change.edit change.last firm apart

-- an edit that is not nothing writes the matter's rows, and of the movements those that it leaves and what it moves
pub edit-written : (m : ℕ) (e : Edit) (last : ℕ) (firm : Firm) → (e ≡ edit.Nothing → ⊥) → after_edit m e last firm ≡ record firm { rows = put m (changed_by e last (of m firm)) firm.rows; movements = kept_movements m e firm.movements ++ moved_by m e (of m firm) }
edit-written m edit.Nothing last firm some = absurd (some refl)
edit-written m (edit.Open opening) last firm some = refl
edit-written m (edit.Seat seat) last firm some = refl
edit-written m (edit.Unseat person) last firm some = refl
edit-written m (edit.Close day) last firm some = refl
edit-written m (edit.Purge day) last firm some = ap (λ (vs : List Movement). record firm { rows = put m (changed_by (edit.Purge day) last (of m firm)) firm.rows; movements = vs }) (sym (append-nil (moved_without m firm.movements)))
edit-written m (edit.Append entry) last firm some = refl
edit-written m (edit.Exchange entry) last firm some = refl
