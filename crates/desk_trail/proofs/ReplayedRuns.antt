-- Each run keeps each matter's dossier replayed, and its acts complete.
use Rattle.std.proofs.Common.{ℕ, refl}
use Rattle.firm_rows.proofs.Kept.{empty-sound}
use Rattle.firm_rows.specs.Firm.{empty_firm}
use Rattle.trail_laws.specs.Replayed.{AreComplete, IsReplayedIfOpened}
use Rattle.trail_laws.proofs.Replayed.{complete-none, opened-none, steps-keep_complete, steps-keep_replayed}
use Rattle.trust_desk.specs.Acts.{dossier_of}
use Rattle.desk_trail.proofs.KeptRuns.{StepsKeep, days-keep, runs-keep}
use Rattle.desk_trail.specs.ReplayedRuns.{LaterMattersAreReplayed, MattersAreReplayed, RunsStayComplete, RunsStayReplayed}

pub steps-replayed : (m : ℕ) → StepsKeep (IsReplayedIfOpened m)
steps-replayed m p step sound is = steps-keep_replayed m p step sound is

pub steps-complete : StepsKeep AreComplete
steps-complete p step sound is = steps-keep_complete p step sound is

pub runs-stay_replayed : RunsStayReplayed
runs-stay_replayed m day firm new hs replies sound run is =
    runs-keep (IsReplayedIfOpened m) (steps-replayed m) m day firm new hs replies sound run is

pub runs-stay_complete : RunsStayComplete
runs-stay_complete m day firm new hs replies sound run is =
    runs-keep AreComplete steps-complete m day firm new hs replies sound run is

pub later-matters_are_replayed : LaterMattersAreReplayed
later-matters_are_replayed first firm runs m sound none run =
    days-keep (IsReplayedIfOpened m) (steps-replayed m) m first firm runs sound run (opened-none m (dossier_of m first) none)

pub matters-are_replayed : MattersAreReplayed
matters-are_replayed firm runs m run =
    let none = complete-none (dossier_of m empty_firm) refl refl in
    let complete : AreComplete (dossier_of m firm) =
    days-keep AreComplete steps-complete m empty_firm firm runs empty-sound run none in
    (complete, λ there. later-matters_are_replayed empty_firm firm runs m empty-sound refl run (complete.there there))
