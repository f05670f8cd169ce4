-- What the audit finds of a matter's acts is so of its dossier.
use Rattle.firm_audit.proofs.Names.{◌≡◌, inr, ℕ, Bool, true, false, List, [], Option, Some, refl, arith, subst, entry_at, entries_kept, AreNumbered, AllByRecursion, KeptMatter, Sound, rows_kept}
use Rattle.std.specs.Prelude.{◌+◌}
use Rattle.matter_rows.specs.declared.act.Act.{Act}
use Rattle.matter_rows.specs.declared.entry.Entry.{Entry}
use Rattle.matter_rows.specs.Rows.{is_gone}
use Rattle.trail_laws.specs.Replayed.{IsReplayed}
use Rattle.trail_laws.specs.Signed.{begins_with_opening, days_of_approval, days_of_issue}
use Rattle.trail_replay.proofs.Signing.{replayed-is_signed}
use Rattle.firm_audit.specs.Trails.{AreEntriesFound, IsApproved, IsApprovedAs, IsKeptApproved, IsMatterTrail, IsOfEntry, IsSignedFrom, IsTrailOf, IsTrailWhere, MayBeAllowed, dossier_kept}
use Rattle.firm_audit.specs.declared.trail.TrailCounts.{TrailCounts}
use Rattle.firm_audit.specs.declared.trail.TrailFlaw.TheVariants as flaw
use Rattle.firm_audit.specs.declared.trail.TrailFound.{TrailFound}
use Rattle.firm_audit.specs.declared.trail.TrailFound.TheVariants as found
use Rattle.firm_audit.proofs.Approvals.{each-approved}
use Rattle.firm_audit.proofs.Strays.{numbered-at}

-- the same days are approved alike
pub approved-as : {b c : Bool} {days here issued there : List ℕ} → b ≡ c → days ≡ here → issued ≡ there → IsApprovedAs b days issued → IsApprovedAs c here there
approved-as {c = c} {days = days} {here = here} {issued = issued} begins of_approval of_issue is =
    subst (λ (xs : List ℕ). IsApprovedAs c here xs) of_issue
    (subst (λ (xs : List ℕ). IsApprovedAs c xs issued) of_approval
    (subst (λ (x : Bool). IsApprovedAs x days issued) begins is))

-- A matter.

module _ (k : KeptMatter) (acts : List Act) (numbered : AreNumbered 1 k.matter.kept) (gone : is_gone k.matter.head ≡ true → acts ≡ []) (replayed : begins_with_opening acts ≡ true → IsReplayed k.number (dossier_kept k acts)) (sound : Sound (rows_kept k.matter)) (allowed : begins_with_opening acts ≡ false → AllByRecursion MayBeAllowed acts) (there : AllByRecursion (λ act. IsOfEntry (entries_kept k.matter.kept) act.entry) acts) where
  fits-of : AllByRecursion (IsKeptApproved acts) k.matter.kept → IsTrailOf k.number (dossier_kept k acts)
  fits-of all = cases (is_gone k.matter.head) refl
    where
      each : (n : ℕ) → IsApproved (dossier_kept k acts) n
      each = each-approved acts k.matter.kept (begins_with_opening acts) numbered there all

      signed : (b : Bool) → begins_with_opening acts ≡ b → IsSignedFrom b k.number (dossier_kept k acts)
      signed true begins =
          let again = replayed begins in
          (again, replayed-is_signed k.number (dossier_kept k acts) sound again)
      signed false later = record { allowed = allowed later; approved = each }

      cases : (b : Bool) → is_gone k.matter.head ≡ b → IsTrailWhere b k.number (dossier_kept k acts)
      cases true is = gone is
      cases false is = (there, signed (begins_with_opening acts) refl)

  -- what was found of its entries is so of the matter
  pub entries-tell : (before : TrailCounts) (told : TrailFound) → AreEntriesFound k.number k.matter.kept acts before told → IsMatterTrail k acts before told
  entries-tell before (found.Fits after) is = (fits-of is.0, is.1)
  entries-tell before (found.Flawed (flaw.Matter m)) is = absurd is
  entries-tell before (found.Flawed (flaw.Act m n)) is = absurd is
  entries-tell before (found.Flawed (flaw.Entry m n)) is = (is.0, inr apart)
    where
      apart : IsApproved (dossier_kept k acts) n → ⊥
      apart approved =
          let one = is.1 in
          let at = numbered-at 1 k.matter.kept one.index one.kept numbered one.there in
          let place : one.index + 1 ≡ n = omega (arith, at.0, one.number) in
          let entry : entry_at (entries_kept k.matter.kept) n ≡ Some one.kept.entry =
          subst (λ (i : ℕ). entry_at (entries_kept k.matter.kept) i ≡ Some one.kept.entry) place at.1 in
          one.amiss
          (subst (λ (i : ℕ). IsApprovedAs (begins_with_opening acts) (days_of_approval i acts) (days_of_issue (Some one.kept.entry))) one.number
          (subst (λ (o : Option Entry). IsApprovedAs (begins_with_opening acts) (days_of_approval n acts) (days_of_issue o)) entry approved))
