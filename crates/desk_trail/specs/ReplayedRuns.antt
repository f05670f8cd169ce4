-- Every run leaves each matter's dossier replayed: its acts, with what its rows say, make the matter again.
use Rattle.std.specs.Prelude.{◌≡◌, ℕ, false, List, []}
use Rattle.matter_rows.specs.Rows.{is_gone}
use Rattle.firm_rows.specs.Firm.{Firm, empty_firm, of, acts_of}
use Rattle.firm_rows.specs.FirmSound.{FirmSound}
use Rattle.trail_laws.specs.Replayed.{AreComplete, IsReplayed, IsReplayedIfOpened}
use Rattle.trust_desk.specs.declared.requests.Reply.{Reply}
use Rattle.trust_desk.specs.Acts.{dossier_of}
use Rattle.trust_desk.specs.FirmStep.{RunsSoundly}
use Rattle.trust_desk.specs.Heard.{Heard}
use Rattle.desk_laws.specs.OnceOnly.{DayRun}
use Rattle.desk_trail.specs.SignedRuns.{RunsSoundlyOn}

-- each run of a sound firm keeps each matter's dossier replayed, if its acts begin with its opening, whatever stopped
-- its steps
abbrev pub RunsStayReplayed : Type 0
RunsStayReplayed =
    (m day : ℕ) (firm new : Firm) (hs : List Heard) (replies : List Reply) → FirmSound firm
    → RunsSoundly day firm hs replies new → IsReplayedIfOpened m (dossier_of m firm)
    → IsReplayedIfOpened m (dossier_of m new)

-- and each matter's acts complete
abbrev pub RunsStayComplete : Type 0
RunsStayComplete =
    (m day : ℕ) (firm new : Firm) (hs : List Heard) (replies : List Reply) → FirmSound firm
    → RunsSoundly day firm hs replies new → AreComplete (dossier_of m firm) → AreComplete (dossier_of m new)

-- in a book that was empty each matter's acts are complete, and a matter that is not gone is replayed
abbrev pub MattersAreReplayed : Type 0
MattersAreReplayed =
    (firm : Firm) (runs : List DayRun) (m : ℕ) → RunsSoundlyOn empty_firm runs firm
    → AreComplete (dossier_of m firm) × (is_gone (of m firm).head ≡ false → IsReplayed m (dossier_of m firm))

-- in one that is older than its acts, a matter is replayed if its acts begin with its opening
abbrev pub LaterMattersAreReplayed : Type 0
LaterMattersAreReplayed =
    (first firm : Firm) (runs : List DayRun) (m : ℕ) → FirmSound first → acts_of m first ≡ []
    → RunsSoundlyOn first runs firm → IsReplayedIfOpened m (dossier_of m firm)
