-- What acts say of a matter's entries, by their numbers.
use Rattle.firm_audit.proofs.Names.{◌≡◌, inl, ℕ, Bool, true, false, List, [], ◌∷◌, Option, Some, None, refl, arith, nat_tests, ints, cases_Bool, false≢true, cond, subst, entry_at, entries_kept, AreNumbered, AllByRecursion, within, Kept}
use Rattle.std.specs.Prelude.{◌+◌, ◌-◌, ◌<◌, ◌==◌, ◌&&◌}
use Rattle.std.specs.List.{list_any}
use Rattle.matter_rows.specs.declared.act.Act.{Act}
use Rattle.matter_rows.specs.declared.entry.Entry.{Entry}
use Rattle.matter_rows.specs.Rows.{is_number}
use Rattle.trail_laws.specs.Signed.{approves, days_of_approval, days_of_issue, is_approval}
use Rattle.firm_audit.specs.Trails.{IsApprovedAs, IsOfEntry}

-- Entries that are not there.

-- no act is of one
not-of : (es : List Entry) (o : Option ℕ) (n : ℕ) → IsOfEntry es o → entry_at es n ≡ None → is_number o n ≡ false
not-of es o n there none = grind (arith, ints, nat_tests, cases_Bool, false≢true)

pub none-of : (es : List Entry) (acts : List Act) (n : ℕ) → AllByRecursion (λ act. IsOfEntry es act.entry) acts → entry_at es n ≡ None → list_any (λ act. is_number act.entry n) acts ≡ false
none-of es [] n all none = refl
none-of es (act ∷ acts) n all none = rw (not-of es act.entry n all.0 none) (none-of es acts n all.1 none)

both : (b c : Bool) → c ≡ false → (b && c) ≡ false
both true c is = is
both false c is = refl

none-approved : (es : List Entry) (acts : List Act) (n : ℕ) → AllByRecursion (λ act. IsOfEntry es act.entry) acts → entry_at es n ≡ None → days_of_approval n acts ≡ []
none-approved es [] n all none = refl
none-approved es (act ∷ acts) n all none =
    let other : approves n act ≡ false = both (is_approval act.deed) (is_number act.entry n) (not-of es act.entry n all.0 none) in
    rw other (none-approved es acts n all.1 none)

-- Loaded entries.

-- one that is there, with its number
kept-at : (P : Kept → Type 0) (i : ℕ) (ks : List Kept) (n : ℕ) (e : Entry) → AreNumbered i ks → AllByRecursion P ks → entry_at (entries_kept ks) n ≡ Some e
    → (k : Kept) × (k.number + 1 ≡ i + n) × (k.entry ≡ e) × P k
kept-at P i [] n e numbered all is = absurd (cc)
kept-at P i (k ∷ ks) n e numbered all is =
    let some = within (entries_kept (k ∷ ks)) n e is in
    elim (n == 1) as (λ b. (n == 1) ≡ b → cond b (Some k.entry) (entry_at (entries_kept ks) (n - 1)) ≡ Some e → (k : Kept) × (k.number + 1 ≡ i + n) × (k.entry ≡ e) × P k) [
      | true ↦ λ one same. let first : n ≡ 1 = grind (arith, nat_tests) in (k, omega (arith, numbered.0, first), cc, all.0)
      | false ↦ λ other rest.
          let later : 1 < n = grind (arith, nat_tests, some) in
          let found = kept-at P (i + 1) ks (n - 1) e numbered.1 all.1 rest in
          (found.0, omega (arith, found.1, later), found.2, found.3)
    ] refl is

-- what holds of each loaded entry, and of what is not there, is so of every number
pub each-approved : (acts : List Act) (ks : List Kept) (b : Bool) → AreNumbered 1 ks → AllByRecursion (λ act. IsOfEntry (entries_kept ks) act.entry) acts
    → AllByRecursion (λ k. IsApprovedAs b (days_of_approval k.number acts) (days_of_issue (Some k.entry))) ks
    → (n : ℕ) → IsApprovedAs b (days_of_approval n acts) (days_of_issue (entry_at (entries_kept ks) n))
each-approved acts ks b numbered there all n = cases (entry_at (entries_kept ks) n) refl
  where
    nothing : (c : Bool) → days_of_approval n acts ≡ [] → IsApprovedAs c (days_of_approval n acts) []
    nothing true empty = empty
    nothing false empty = inl empty

    cases : (o : Option Entry) → entry_at (entries_kept ks) n ≡ o → IsApprovedAs b (days_of_approval n acts) (days_of_issue o)
    cases None is = nothing b (none-approved (entries_kept ks) acts n there is)
    cases (Some e) is =
        let found = kept-at (λ k. IsApprovedAs b (days_of_approval k.number acts) (days_of_issue (Some k.entry))) 1 ks n e numbered all is in
        let same : found.0.number ≡ n = omega (arith, found.1) in
        subst (λ (m : ℕ). IsApprovedAs b (days_of_approval m acts) (days_of_issue (Some e))) same
        (subst (λ (x : Entry). IsApprovedAs b (days_of_approval found.0.number acts) (days_of_issue (Some x))) found.2 found.3)
