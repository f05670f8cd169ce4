-- Whatever the desk does keeps the trail: one ask, one item of a statement, one dismissal, and what a stop leaves of it.
use Rattle.std.specs.Prelude.{◌≡◌, ℕ, false, List, [], ◌∷◌, ◌++◌, length}
use Rattle.std.specs.List.{Contains}
use Rattle.trust_base.specs.Periods.{Span}
use Rattle.matter_rows.specs.Rows.{entry_at, is_gone}
use Rattle.firm_rows.specs.Firm.{Firm, acts_of, empty_firm, of}
use Rattle.firm_rows.specs.FirmSound.{FirmSound}
use Rattle.firm_audit.specs.Trails.{AreSeatedBy, HasItsTrail}
use Rattle.firm_periods.specs.Approvals.{approvals}
use Rattle.firm_periods.specs.declared.approvals_sink.IssuedPayment.{IssuedPayment}
use Rattle.trail_laws.specs.Replayed.{AreComplete, IsReplayed, IsReplayedIfOpened}
use Rattle.trail_laws.specs.Signed.{Beginning, IsApprovedOnce, days_of_issue}
use Rattle.statement_csv.specs.declared.item.Item.{Item}
use Rattle.trust_desk.specs.Acts.{dossier_of}
use Rattle.trust_desk.specs.Crashes.{AreNoFaultsButLast, IsAfterFirst, IsMade, IsMadeInRun, before_fault}
use Rattle.trust_desk.specs.FirmStep.{RunsSoundly, Steps}
use Rattle.trust_desk.specs.Heard.{Heard}
use Rattle.trust_desk.specs.Imports.{Told}
use Rattle.trust_desk.specs.ItemStep.{after_item}
use Rattle.trust_desk.specs.declared.requests.Reply.{Reply}
use Rattle.desk_trail.specs.Approvers.{IsApproverNamed}
use Rattle.desk_trail.specs.SignedRuns.{IsSignedSince}

-- the later firm has what the earlier one had of its trail: the acts of each matter fit its rows; each matter's dossier
-- is signed, from where its acts began; its acts make it again, if they begin with its opening; and they are complete
pub record KeepsTrail (firm new : Firm) : Type 0 where
  pub fits : HasItsTrail firm → HasItsTrail new
  pub signed : (m : ℕ) (b : Beginning) → IsSignedSince b (dossier_of m firm) → IsSignedSince b (dossier_of m new)
  pub replayed : (m : ℕ) → IsReplayedIfOpened m (dossier_of m firm) → IsReplayedIfOpened m (dossier_of m new)
  pub complete : (m : ℕ) → AreComplete (dossier_of m firm) → AreComplete (dossier_of m new)

-- What keeps it.

-- one request or record on a day, whatever it asks, and whatever stopped it
abbrev pub StepsKeepTrails : Type 0
StepsKeepTrails =
    (day : ℕ) (firm new : Firm) (h : Heard) (reply : Reply) → FirmSound firm → Steps day firm h reply new
    → KeepsTrail firm new

-- one item of a statement
abbrev pub ItemsKeepTrails : Type 0
ItemsKeepTrails = (day : ℕ) (firm : Firm) (it : Item) → FirmSound firm → KeepsTrail firm (after_item day firm it)

-- the first items of a statement
abbrev pub FirstItemsKeepTrails : Type 0
FirstItemsKeepTrails =
    (day : ℕ) (firm found : Firm) (told : Told) → FirmSound firm → IsAfterFirst day firm told found
    → KeepsTrail firm found

-- what a crash may leave of one request or record
abbrev pub StopsKeepTrails : Type 0
StopsKeepTrails =
    (day : ℕ) (firm found : Firm) (h : Heard) → FirmSound firm → IsMade day firm h found → KeepsTrail firm found

-- a run
abbrev pub RunsKeepTrails : Type 0
RunsKeepTrails =
    (day : ℕ) (firm new : Firm) (hs : List Heard) (replies : List Reply) → FirmSound firm
    → RunsSoundly day firm hs replies new → KeepsTrail firm new

-- what a crash may leave of a run of which no reply but the last told of a fault; those before that are of these
abbrev pub RunStopsKeepTrails : Type 0
RunStopsKeepTrails =
    (day : ℕ) (firm mid found : Firm) (front rest : List Heard) (replies : List Reply) → FirmSound firm
    → RunsSoundly day firm front (before_fault replies) mid → AreNoFaultsButLast replies
    → length replies ≡ length (front ++ rest) → IsMadeInRun day firm (front ++ rest) found → KeepsTrail firm found

-- nothing at all, and one thing after another
abbrev pub UnchangedKeepTrails : Type 0
UnchangedKeepTrails = (firm : Firm) → KeepsTrail firm firm

abbrev pub TrailsGoOn : Type 0
TrailsGoOn = (a b c : Firm) → KeepsTrail a b → KeepsTrail b c → KeepsTrail a c

-- What a kept trail tells.

-- of a book that was empty: its trail fits; the policy allowed each act with the seats of its moment; each payment that
-- is or was issued has exactly one act of approval, on the day of its issue, by a person who had a lawyer's seat then,
-- whom the approvals of a period name; and the acts of each matter that is not gone make it again
pub record HasWholeTrail (firm : Firm) : Type 0 where
  pub fits : HasItsTrail firm
  pub allowed : (m : ℕ) → AreSeatedBy (acts_of m firm) (of m firm).seats
  pub approved : (m n day : ℕ) → days_of_issue (entry_at (of m firm).entries n) ≡ day ∷ []
      → IsApprovedOnce [] n day (acts_of m firm)
  pub named : (s : Span) (v : IssuedPayment) → FirmSound firm → Contains (approvals s firm) v
      → IsApproverNamed [] firm v
  pub complete : (m : ℕ) → AreComplete (dossier_of m firm)
  pub replayed : (m : ℕ) → is_gone (of m firm).head ≡ false → IsReplayed m (dossier_of m firm)

abbrev pub BegunTrailsAreWhole : Type 0
BegunTrailsAreWhole = (firm : Firm) → KeepsTrail empty_firm firm → HasWholeTrail firm

-- of a book that is older than its acts, as the firm was then: its trail fits; each payment that was not issued before
-- has its approval, with seats counted from those of that time; and the acts of a matter make it again, if they begin
-- with its opening
pub record HasLaterTrail (first firm : Firm) : Type 0 where
  pub fits : HasItsTrail firm
  pub approved : (m n day : ℕ) → days_of_issue (entry_at (of m first).entries n) ≡ []
      → days_of_issue (entry_at (of m firm).entries n) ≡ day ∷ []
      → IsApprovedOnce (of m first).seats n day (acts_of m firm)
  pub replayed : (m : ℕ) → IsReplayedIfOpened m (dossier_of m firm)

abbrev pub OlderTrailsAreKept : Type 0
OlderTrailsAreKept =
    (first firm : Firm) → first.acts ≡ [] → FirmSound firm → KeepsTrail first firm → HasLaterTrail first firm
