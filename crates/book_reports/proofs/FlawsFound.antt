-- What was found of rows that a book returned, said of its firm.
use Rattle.std.proofs.Common.{inl, inr, ◌≡◌, [], Option, None, sym, subst}
use Rattle.std.specs.Prelude.{◌↔◌, IfSome}
use Rattle.std.proofs.lemmas.Option.{IfSome_then}
use Rattle.firm_rows.proofs.Trail.{sound-trail}
use Rattle.firm_rows.specs.Firm.{Firm}
use Rattle.firm_rows.specs.FirmSound.{FirmSound}
use Rattle.trust_store.specs.declared.all_rows.AllRows.{AllRows}
use Rattle.trust_store.specs.Kept.{AreKeptWhole, firm_of, firm_of_all}
use Rattle.firm_audit.specs.Flaws.{AreSound, IsFlawIn, IsFlawOf}
use Rattle.firm_audit.specs.declared.flaw.Flaw.{Flaw}
use Rattle.firm_audit.proofs.Refuted.{none_of_matters}

module _ (rows : AllRows) (firm : Firm) (same : firm_of_all rows ≡ firm) (whole : AreKeptWhole rows.matters.items) where
  -- the firm that has these rows, but for its trail
  abbrev without_trail : Firm
  without_trail = firm_of rows.matters.items rows.movements.items rows.firm_lines.items rows.exceptions.items rows.balances.items

  pub checked-sound : (flaw : Option Flaw) → (flaw ≡ None ↔ AreSound rows) → (flaw ≡ None ↔ FirmSound firm)
  checked-sound flaw sound = (
    λ none. subst FirmSound same (sound-trail rows.acts.items rows.dismissals.items without_trail (sound.0 none).firm),
    λ so. sound.1 (record { matters = whole; firm = sound-trail [] [] (firm_of_all rows) (subst FirmSound (sym same) so) }),
  )

  one-of_firm : (f : Flaw) → IsFlawIn rows f → IsFlawOf firm f
  one-of_firm f (inl is) = absurd (none_of_matters rows.matters.items f whole is)
  one-of_firm f (inr is) = subst (λ (x : Firm). IsFlawOf x f) same is

  pub checked-flaw : (flaw : Option Flaw) → IfSome flaw (IsFlawIn rows) → IfSome flaw (IsFlawOf firm)
  checked-flaw flaw is = IfSome_then flaw is one-of_firm
