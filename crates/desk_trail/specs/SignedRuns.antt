-- Every run leaves each matter's dossier signed: each act was allowed, and each payment issued has its approval.
use Rattle.std.specs.Prelude.{◌≡◌, ◌⊎◌, ℕ, true, List, [], ◌∷◌}
use Rattle.matter_rows.specs.Rows.{entry_at, is_purged}
use Rattle.firm_rows.specs.Firm.{Firm, empty_firm, of, acts_of}
use Rattle.firm_rows.specs.FirmSound.{FirmSound}
use Rattle.firm_audit.specs.Trails.{AreSeatedBy}
use Rattle.trail_laws.specs.Dossier.{Dossier}
use Rattle.trail_laws.specs.Signed.{Beginning, IsApprovedOnce, IsSigned, beginning_of, days_of_issue, nothing_before}
use Rattle.trust_desk.specs.declared.requests.Reply.{Reply}
use Rattle.trust_desk.specs.Acts.{dossier_of}
use Rattle.trust_desk.specs.FirmStep.{RunsSoundly}
use Rattle.trust_desk.specs.Heard.{Heard}
use Rattle.desk_laws.specs.OnceOnly.{DayRun}

-- the matter was purged, which left nothing of its dossier
pub record IsSignedPurged (p : Dossier) : Type 0 where
  pub purged : is_purged p.rows.head ≡ true
  pub signed : IsSigned nothing_before p

-- a dossier is signed from where its acts begin: where they began at first, unless its matter was purged since
abbrev pub IsSignedSince : Beginning → Dossier → Type 0
IsSignedSince b p = IsSigned b p ⊎ IsSignedPurged p

-- a matter without acts, as each one is in a book that is older than they are, is signed from what its rows say
abbrev pub OlderFirmsAreSigned : Type 0
OlderFirmsAreSigned =
    (m : ℕ) (firm : Firm) → acts_of m firm ≡ [] → IsSigned (beginning_of (of m firm)) (dossier_of m firm)

-- each run of a sound firm keeps each matter's dossier signed, whatever stopped its steps
abbrev pub RunsStaySigned : Type 0
RunsStaySigned =
    (m day : ℕ) (b : Beginning) (firm new : Firm) (hs : List Heard) (replies : List Reply) → FirmSound firm
    → RunsSoundly day firm hs replies new → IsSignedSince b (dossier_of m firm) → IsSignedSince b (dossier_of m new)

-- runs on days, in sequence, with the firm sound after each step
abbrev pub RunsSoundlyOn : Firm → List DayRun → Firm → Type 0
RunsSoundlyOn firm [] new = new ≡ firm
RunsSoundlyOn firm (run ∷ runs) new =
    (mid : Firm) × RunsSoundly run.day firm run.heard run.replies mid × RunsSoundlyOn mid runs new

-- in a book that was empty, the policy allowed each act with the seats of its moment, and they left the matter's seats
abbrev pub ActsAreAllowed : Type 0
ActsAreAllowed =
    (firm : Firm) (runs : List DayRun) (m : ℕ) → RunsSoundlyOn empty_firm runs firm
    → AreSeatedBy (acts_of m firm) (of m firm).seats

-- in a book that was empty, each payment that is or was issued has exactly one act of approval among its matter's acts,
-- on the day of its issue, by a person who had a lawyer's seat then
abbrev pub PaymentsAreApproved : Type 0
PaymentsAreApproved =
    (firm : Firm) (runs : List DayRun) (m n day : ℕ) → RunsSoundlyOn empty_firm runs firm
    → days_of_issue (entry_at (of m firm).entries n) ≡ day ∷ [] → IsApprovedOnce [] n day (acts_of m firm)

-- in one that is older than its acts, this is so of each payment that was not issued before; seats count from those of
-- that time
abbrev pub LaterPaymentsAreApproved : Type 0
LaterPaymentsAreApproved =
    (first firm : Firm) (runs : List DayRun) (m n day : ℕ) → FirmSound first → acts_of m first ≡ []
    → RunsSoundlyOn first runs firm → days_of_issue (entry_at (of m first).entries n) ≡ []
    → days_of_issue (entry_at (of m firm).entries n) ≡ day ∷ []
    → IsApprovedOnce (of m first).seats n day (acts_of m firm)
