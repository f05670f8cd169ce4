-- What a crash may leave.
use Rattle.std.specs.Prelude.{◌≡◌, ◌⊎◌}
use Rattle.firm_rows.specs.Firm.{Firm}

-- nothing that could not be left before
abbrev pub LeavesBefore : (Firm → Type 0) → (Firm → Type 0) → Type 0
LeavesBefore old new = (found : Firm) → new found → old found

-- what could be left before, or these rows
abbrev pub LeavesOr : Firm → (Firm → Type 0) → (Firm → Type 0) → Type 0
LeavesOr firm old new = (found : Firm) → new found → old found ⊎ (found ≡ firm)

-- only these rows
abbrev pub LeavesAlone : Firm → (Firm → Type 0) → Type 0
LeavesAlone firm new = (found : Firm) → new found → found ≡ firm
