-- Whatever the desk does keeps the trail, and what a kept trail tells.
use Rattle.std.proofs.Common.{◌≡◌, ℕ, List, [], ◌∷◌, ◌++◌, length, inl, inr, refl, sym, ap, subst, arith}
use Rattle.std.specs.Prelude.{if◌then◌else◌}
use Rattle.matter_rows.specs.Rows.{entry_at}
use Rattle.firm_audit.specs.Trails.{acts_among}
use Rattle.firm_rows.specs.Firm.{Firm, acts_of, empty_firm, of}
use Rattle.firm_rows.specs.FirmSound.{FirmSound}
use Rattle.trail_laws.specs.Dossier.{Dossier}
use Rattle.trail_laws.specs.Replayed.{AreComplete, IsReplayedIfOpened}
use Rattle.trail_laws.specs.Signed.{IsApprovedOnce, IsSigned, beginning_of, days_of_issue, nothing_before}
use Rattle.trail_laws.proofs.Approved.{issues-are_approved}
use Rattle.trail_laws.proofs.Replayed.{complete-none, opened-none}
use Rattle.statement_csv.specs.declared.item.Item.{Item}
use Rattle.trust_desk.specs.Acts.{dossier_of}
use Rattle.trust_desk.proofs.MadeRows.{plain-step}
use Rattle.trust_desk.specs.Crashes.{AreNoFaultsButLast, IsMadeInRun, before_fault}
use Rattle.trust_desk.specs.FirmStep.{RunsSoundly, Steps}
use Rattle.trust_desk.specs.Heard.{Heard, kind_of}
use Rattle.trust_desk.specs.declared.requests.Reply.{Reply}
use Rattle.trust_desk.specs.ItemStep.{after_items}
use Rattle.desk_trail.proofs.Approvers.{approver-named}
use Rattle.desk_trail.proofs.AuditedSteps.{IsWell, steps-well, trail-by, well-none, well-of}
use Rattle.desk_trail.proofs.KeptRuns.{StepsKeep, items-keep, left-keeps, runs-keep, step-keeps}
use Rattle.desk_trail.proofs.ListedPayments.{of-entry}
use Rattle.desk_trail.proofs.ReplayedRuns.{steps-complete, steps-replayed}
use Rattle.desk_trail.proofs.SignedRuns.{either, empty-signed, issued-since, older-firms_are_signed, steps-signed}
use Rattle.desk_trail.specs.KeptTrails.{BegunTrailsAreWhole, FirstItemsKeepTrails, ItemsKeepTrails, KeepsTrail, OlderTrailsAreKept, RunStopsKeepTrails, RunsKeepTrails, StepsKeepTrails, StopsKeepTrails, TrailsGoOn, UnchangedKeepTrails}
use Rattle.desk_trail.specs.SignedRuns.{IsSignedSince}

-- What keeps it.

-- whatever each step of a matter keeps of its dossier, the later firm has of each matter
abbrev Carries : Firm → Firm → Type 1
Carries firm new =
    (P : Dossier → Type 0) → StepsKeep P → (m : ℕ) → P (dossier_of m firm) → P (dossier_of m new)

carried : (firm new : Firm) → Carries firm new → KeepsTrail firm new
carried firm new carries = record {
  fits = λ fits m.
      trail-by m (dossier_of m new) (carries (IsWell m) (steps-well m) m (well-of m (dossier_of m firm) (fits m)));
  signed = λ m b. carries (IsSignedSince b) (steps-signed b) m;
  replayed = λ m. carries (IsReplayedIfOpened m) (steps-replayed m) m;
  complete = λ m. carries AreComplete steps-complete m;
}

pub unchanged : UnchangedKeepTrails
unchanged firm = record {
  fits = λ fits. fits;
  signed = λ m b s. s;
  replayed = λ m is. is;
  complete = λ m is. is;
}

pub onward : TrailsGoOn
onward a b c first next = record {
  fits = λ fits. next.fits (first.fits fits);
  signed = λ m from s. next.signed m from (first.signed m from s);
  replayed = λ m is. next.replayed m (first.replayed m is);
  complete = λ m is. next.complete m (first.complete m is);
}

pub steps-keep_trails : StepsKeepTrails
steps-keep_trails day firm new h reply sound step =
    carried firm new (λ P keeps m is. step-keeps P keeps m day firm new h reply sound step is)

pub items-keep_trails : (day : ℕ) (firm : Firm) (items : List Item) → FirmSound firm
    → KeepsTrail firm (after_items day firm items)
items-keep_trails day firm items sound =
    carried firm (after_items day firm items) (λ P keeps m is. items-keep P keeps m day firm items sound is)

pub each-item_keeps : ItemsKeepTrails
each-item_keeps day firm it sound = items-keep_trails day firm (it ∷ []) sound

pub first-items_keep : FirstItemsKeepTrails
first-items_keep day firm found told sound first =
    subst (KeepsTrail firm) (sym first.leaves) (items-keep_trails day firm first.front sound)

pub stops-keep_trails : StopsKeepTrails
stops-keep_trails day firm found h sound left =
    carried firm found (λ P keeps m is. left-keeps P keeps m day firm found (kind_of h) left sound is)

pub runs-keep_trails : RunsKeepTrails
runs-keep_trails day firm new hs replies sound run =
    carried firm new (λ P keeps m is. runs-keep P keeps m day firm new hs replies sound run is)

run-left : (day : ℕ) (firm mid found : Firm) (hs front rest : List Heard) (replies : List Reply) → FirmSound firm
    → front ++ rest ≡ hs → RunsSoundly day firm front (before_fault replies) mid → AreNoFaultsButLast replies
    → length replies ≡ length hs → IsMadeInRun day firm hs found → KeepsTrail firm found
run-left day firm mid found [] front rest replies sound parts run plain long made = absurd made
run-left day firm mid found (h ∷ hs) front rest replies sound parts run plain long (inl made) =
    stops-keep_trails day firm found h sound made
run-left day firm mid found (h ∷ hs) front rest [] sound parts run plain long (inr later) = absurd (omega arith)
run-left day firm mid found (h ∷ []) front rest (r ∷ []) sound parts run plain long (inr later) = absurd later
run-left day firm mid found (h ∷ k ∷ hs) front rest (r ∷ []) sound parts run plain long (inr later) = absurd (omega arith)
run-left day firm mid found (h ∷ hs) [] rest (r ∷ next ∷ replies) sound parts run plain long (inr later) =
    let replied = before_fault (next ∷ replies) in
    absurd (subst (λ fault. RunsSoundly day firm [] (if fault then [] else r ∷ replied) mid) plain.0 run)
run-left day firm mid found (h ∷ hs) (g ∷ front) rest (r ∷ next ∷ replies) sound parts run plain long (inr later) =
    let replied = before_fault (next ∷ replies) in
    let ran : RunsSoundly day firm (g ∷ front) (r ∷ replied) mid =
    subst (λ fault. RunsSoundly day firm (g ∷ front) (if fault then [] else r ∷ replied) mid) plain.0 run in
    let same : g ≡ h = cc in
    let behind : front ++ rest ≡ hs = cc in
    let step : Steps day firm h r ran.0 = subst (λ x. Steps day firm x r ran.0) same ran.1 in
    let is = plain-step day firm ran.0 h r plain.0 step in
    let shorter : length (next ∷ replies) ≡ length hs = omega arith in
    let left = subst (λ (f : Firm). IsMadeInRun day f hs found) (sym is) later in
    onward firm ran.0 found (steps-keep_trails day firm ran.0 h r sound step)
    (run-left day ran.0 mid found hs front rest (next ∷ replies) ran.2 behind ran.3 plain.1 shorter left)

pub run-stops_keep_trails : RunStopsKeepTrails
run-stops_keep_trails day firm mid found front rest replies sound run plain long made =
    run-left day firm mid found (front ++ rest) front rest replies sound refl run plain long made

-- What a kept trail tells.

signed-whole : (firm : Firm) (m : ℕ) → KeepsTrail empty_firm firm → IsSigned nothing_before (dossier_of m firm)
signed-whole firm m kept = either (dossier_of m firm) (kept.signed m nothing_before (inl (empty-signed m)))

approved-whole : (firm : Firm) (m n day : ℕ) → KeepsTrail empty_firm firm
    → days_of_issue (entry_at (of m firm).entries n) ≡ day ∷ [] → IsApprovedOnce [] n day (acts_of m firm)
approved-whole firm m n day kept issued =
    issues-are_approved nothing_before (dossier_of m firm) n day (signed-whole firm m kept) refl issued

complete-whole : (firm : Firm) (m : ℕ) → KeepsTrail empty_firm firm → AreComplete (dossier_of m firm)
complete-whole firm m kept = kept.complete m (complete-none (dossier_of m empty_firm) refl refl)

pub begun-trails_are_whole : BegunTrailsAreWhole
begun-trails_are_whole firm kept = record {
  fits = kept.fits (λ m. trail-by m (dossier_of m empty_firm) (well-none m (dossier_of m empty_firm) refl));
  allowed = λ m. let s = signed-whole firm m kept in record { allowed = s.allowed; left = s.seats };
  approved = λ m n day issued. approved-whole firm m n day kept issued;
  named = λ s v sound there.
      let line = of-entry s firm v sound there in
      approver-named [] firm v line (approved-whole firm v.matter v.number v.issued kept line.issued);
  complete = λ m. complete-whole firm m kept;
  replayed = λ m here.
      kept.replayed m (opened-none m (dossier_of m empty_firm) refl) ((complete-whole firm m kept).there here);
}

pub older-trails_are_kept : OlderTrailsAreKept
older-trails_are_kept first firm none sound kept = record {
  fits = kept.fits (λ m. trail-by m (dossier_of m first) (well-none m (dossier_of m first) (bare m)));
  approved = λ m n day before issued.
      let b = beginning_of (of m first) in
      let since = kept.signed m b (inl (older-firms_are_signed m first (bare m))) in
      let signed = issued-since b (dossier_of m firm) n day (sound.matters m) since issued in
      issues-are_approved b (dossier_of m firm) n day signed before issued;
  replayed = λ m. kept.replayed m (opened-none m (dossier_of m first) (bare m));
}
  where
    bare : (m : ℕ) → acts_of m first ≡ []
    bare m = ap (acts_among m) none
