-- Each run keeps the acts of each matter fitting its rows, and so the trail of the firm passes its audit.
use Rattle.std.proofs.Common.{refl, ap}
use Rattle.firm_audit.specs.Trails.{acts_among}
use Rattle.firm_rows.proofs.Kept.{empty-sound}
use Rattle.firm_rows.specs.Firm.{empty_firm}
use Rattle.trust_desk.specs.Acts.{dossier_of}
use Rattle.desk_trail.proofs.AuditedSteps.{IsWell, steps-well, trail-by, well-none}
use Rattle.desk_trail.proofs.KeptRuns.{days-keep}
use Rattle.desk_trail.specs.AuditedRuns.{OlderTrailsFit, TrailsFit}

pub older-trails_fit : OlderTrailsFit
older-trails_fit first firm runs sound none run m =
    let bare = well-none m (dossier_of m first) (ap (acts_among m) none) in
    trail-by m (dossier_of m firm) (days-keep (IsWell m) (steps-well m) m first firm runs sound run bare)

pub trails-fit : TrailsFit
trails-fit firm runs run = older-trails_fit empty_firm firm runs empty-sound refl run
