-- Which figures and lists a purge leaves unchanged.
use Rattle.std.specs.Prelude.{◌≡◌, ℕ, false}
use Rattle.trust_matter.specs.Changes.{MatterChange}
use Rattle.firm_rows.specs.Firm.{Firm, of, after_change}
use Rattle.firm_rows.specs.FirmSound.{FirmSound}
use Rattle.firm_figures.specs.Clients.{client_lines}
use Rattle.firm_figures.specs.Figures.{figures_on}
use Rattle.firm_figures.specs.Purged.{IsPurge, is_period_purged, is_purged_at, IsClosedBy, AreListsLeft}

-- purging a matter of a sound firm changes no figure of the day on which it was closed or of a later day, whatever the
-- closing balance is, or if there is none
abbrev pub PurgeChangesNoFigure : Type 0
PurgeChangesNoFigure =
    (p m : ℕ) (change : MatterChange) (firm : Firm)
    → FirmSound firm → IsClosedBy p (of m firm).head → IsPurge m firm change
    → figures_on p (after_change m change firm) ≡ figures_on p firm

-- nor does it change any of the lists
abbrev pub PurgeChangesNoList : Type 0
PurgeChangesNoList =
    (p m : ℕ) (change : MatterChange) (firm : Firm)
    → FirmSound firm → IsClosedBy p (of m firm).head → IsPurge m firm change
    → AreListsLeft p firm (after_change m change firm)

-- purging a matter of a sound firm changes no figure of a day whose records are still complete afterwards
abbrev pub PurgeChangesNoFigureLeft : Type 0
PurgeChangesNoFigureLeft =
    (p m : ℕ) (change : MatterChange) (firm : Firm)
    → FirmSound firm → IsPurge m firm change → is_period_purged p (after_change m change firm) ≡ false
    → figures_on p (after_change m change firm) ≡ figures_on p firm

-- nor does it change any of the lists
abbrev pub PurgeChangesNoListLeft : Type 0
PurgeChangesNoListLeft =
    (p m : ℕ) (change : MatterChange) (firm : Firm)
    → FirmSound firm → IsPurge m firm change → is_period_purged p (after_change m change firm) ≡ false
    → AreListsLeft p firm (after_change m change firm)

-- purging a matter of a sound firm changes nothing of the list of the clients of a day if no purged matter was open as
-- of it
abbrev pub PurgeChangesNoClientLeft : Type 0
PurgeChangesNoClientLeft =
    (p m : ℕ) (change : MatterChange) (firm : Firm)
    → FirmSound firm → IsPurge m firm change → is_purged_at p (after_change m change firm) ≡ false
    → client_lines p (after_change m change firm) ≡ client_lines p firm
