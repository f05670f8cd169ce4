-- A book that only this program wrote passes the audit of its trail: each matter's acts fit its rows.
use Rattle.std.specs.Prelude.{◌≡◌, List, []}
use Rattle.firm_rows.specs.Firm.{Firm, empty_firm}
use Rattle.firm_rows.specs.FirmSound.{FirmSound}
use Rattle.firm_audit.specs.Trails.{HasItsTrail}
use Rattle.desk_laws.specs.OnceOnly.{DayRun}
use Rattle.desk_trail.specs.SignedRuns.{RunsSoundlyOn}

-- in a book that was empty, the trail fits after all runs on whatever days, whatever stopped their steps
abbrev pub TrailsFit : Type 0
TrailsFit = (firm : Firm) (runs : List DayRun) → RunsSoundlyOn empty_firm runs firm → HasItsTrail firm

-- so it does in one that is older than its acts
abbrev pub OlderTrailsFit : Type 0
OlderTrailsFit =
    (first firm : Firm) (runs : List DayRun) → FirmSound first → first.acts ≡ [] → RunsSoundlyOn first runs firm
    → HasItsTrail firm
