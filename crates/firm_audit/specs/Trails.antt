-- What the audit of a firm's trail checks, what each flaw of it says, and what it counts.
use Rattle.std.specs.Prelude.{◌≡◌, ◌≢◌, ◌⊎◌, ◌==◌, ◌+◌, ◌-◌, ◌^◌, ℕ, Bool, true, false, not, ◌&&◌, List, [], ◌∷◌, count_by, fold, is_some, map, min, slice_get, Option, Some, None}
use Rattle.std.specs.List.{AllByRecursion, list_any, sum_by}
use Rattle.matter_rows.specs.declared.act.Act.{Act}
use Rattle.matter_rows.specs.declared.entry.Entry.{Entry}
use Rattle.matter_rows.specs.declared.head.Head.{Head}
use Rattle.matter_rows.specs.declared.seat.Seat.{Seat}
use Rattle.matter_rows.specs.Rows.{entry_at, is_gone, is_number, unopened}
use Rattle.matter_parts.specs.declared.kept.Kept.{Kept}
use Rattle.trust_store.specs.Kept.{rows_in, rows_kept}
pub use Rattle.trust_store.specs.MatterActs.{acts_in}
use Rattle.trust_store.specs.declared.plain.KeptMatter.{KeptMatter}
use Rattle.firm_rows.specs.declared.matter_act.MatterAct.{MatterAct}
use Rattle.firm_rows.specs.Firm.{EntryRow, Firm, HeadRow, Row, SeatRow, acts_of, of}
use Rattle.trail_laws.specs.Dossier.{Dossier}
use Rattle.trail_laws.specs.Replayed.{IsReplayed}
use Rattle.trail_laws.specs.Signed.{AreAllowed, IsSigned, begins_with_opening, days_of_approval, days_of_issue, is_allowed, nothing_before, seats_by}
use Rattle.trail_replay.specs.Follows.{IsMisfit}
use Rattle.firm_audit.specs.declared.trail.TrailCounts.{TrailCounts}
use Rattle.firm_audit.specs.declared.trail.TrailFlaw.{TrailFlaw}
use Rattle.firm_audit.specs.declared.trail.TrailFlaw.TheVariants as flaw
use Rattle.firm_audit.specs.declared.trail.TrailFound.{TrailFound}
use Rattle.firm_audit.specs.declared.trail.TrailFound.TheVariants as found

-- One matter.

-- an act of an entry is of one that is there
abbrev pub IsOfEntry : List Entry → Option ℕ → Type 0
IsOfEntry es None = Unit {0}
IsOfEntry es (Some n) = is_some (entry_at es n) ≡ true

abbrev pub AreOfEntries : Dossier → Type 0
AreOfEntries p = AllByRecursion (λ act. IsOfEntry p.rows.entries act.entry) p.acts

-- where the acts begin with the opening, the days of approval are that of the issue: exactly one if there is one, and
-- otherwise none. A matter that is older than its acts may have none of what was issued before
abbrev pub IsApprovedAs : Bool → List ℕ → List ℕ → Type 0
IsApprovedAs true days issued = days ≡ issued
IsApprovedAs false days issued = (days ≡ []) ⊎ (days ≡ issued)

abbrev pub IsApproved : Dossier → ℕ → Type 0
IsApproved p n =
    IsApprovedAs (begins_with_opening p.acts) (days_of_approval n p.acts) (days_of_issue (entry_at p.rows.entries n))

-- the policy allowed each act with the seats of its moment, and they leave these
pub record AreSeatedBy (acts : List Act) (seats : List Seat) : Type 0 where
  pub allowed : AreAllowed [] acts
  pub left : fold seats_by [] acts ≡ seats

-- the policy allows the act to its caller with some seats
abbrev pub MayBeAllowed : Act → Type 0
MayBeAllowed act = (seats : List Seat) × (is_allowed seats act ≡ true)

-- of a matter that is older than its acts: the policy allows each act with some seats, since no row tells those of its
-- moment. Each entry is approved as above
pub record IsSignedLater (p : Dossier) : Type 0 where
  pub allowed : AllByRecursion MayBeAllowed p.acts
  pub approved : (n : ℕ) → IsApproved p n

-- where the acts begin with the opening, they make the matter again (`IsReplayed`). So the policy allowed each with the
-- seats of its moment, they leave the matter's seats, and each payment that is or was issued has its approval (by a
-- lawyer of the matter, `IssuesAreApproved`)
abbrev pub IsSignedFrom : Bool → ℕ → Dossier → Type 0
IsSignedFrom true m p = IsReplayed m p × IsSigned nothing_before p
IsSignedFrom false m p = IsSignedLater p

-- a matter that was never opened, or was purged, has no acts
abbrev pub IsTrailWhere : Bool → ℕ → Dossier → Type 0
IsTrailWhere true m p = p.acts ≡ []
IsTrailWhere false m p = AreOfEntries p × IsSignedFrom (begins_with_opening p.acts) m p

-- the acts of matter m fit its rows
abbrev pub IsTrailOf : ℕ → Dossier → Type 0
IsTrailOf m p = IsTrailWhere (is_gone p.rows.head) m p

-- the matter has no such entry, and has an act of it
pub record IsOfNoEntry (p : Dossier) (n : ℕ) : Type 0 where
  pub none : entry_at p.rows.entries n ≡ None
  pub some : list_any (λ act. is_number act.entry n) p.acts ≡ true

-- an entry that is not there has an act, or its approvals are not what they are to be
abbrev pub IsEntryFlaw : Dossier → ℕ → Type 0
IsEntryFlaw p n = IsOfNoEntry p n ⊎ (¬ IsApproved p n)

-- the acts begin with the opening, and the one in this place, counted from 1, is the first that does not follow from
-- those before it
pub record IsActFlaw (m : ℕ) (p : Dossier) (n : ℕ) : Type 0 where
  pub begins : begins_with_opening p.acts ≡ true
  pub place : ℕ
  pub number : n ≡ place + 1
  pub misfit : IsMisfit m p place

-- All of a firm.

abbrev pub dossier_of : ℕ → Firm → Dossier
dossier_of m firm = record { rows = of m firm; acts = acts_of m firm }

abbrev pub HasItsTrail : Firm → Type 0
HasItsTrail firm = (m : ℕ) → IsTrailOf m (dossier_of m firm)

-- what a flaw says: the matter's acts do not fit its rows; or, more closely, this one does not, or those of one entry
abbrev pub IsTrailFlawOf : Firm → TrailFlaw → Type 0
IsTrailFlawOf firm (flaw.Matter m) = ¬ IsTrailOf m (dossier_of m firm)
IsTrailFlawOf firm (flaw.Act m n) = IsActFlaw m (dossier_of m firm) n
IsTrailFlawOf firm (flaw.Entry m n) = IsEntryFlaw (dossier_of m firm) n

-- What is counted.

abbrev pub has_day : List ℕ → Bool
has_day [] = false
has_day (day ∷ days) = true

-- a payment that is or was issued, and has an approval among these acts
abbrev pub is_approved_issue : List Act → ℕ → Entry → Bool
is_approved_issue acts n e = has_day (days_of_issue (Some e)) && has_day (days_of_approval n acts)

-- one that is or was issued, and has none
abbrev pub is_earlier_issue : List Act → ℕ → Entry → Bool
is_earlier_issue acts n e = has_day (days_of_issue (Some e)) && not (has_day (days_of_approval n acts))

-- it is an entry that passes the test
abbrev pub passes : (ℕ → Entry → Bool) → Row → Bool
passes test (HeadRow head) = false
passes test (SeatRow seat) = false
passes test (EntryRow n e) = test n e

-- how many entries pass a test, which is given the acts of their matter
abbrev pub entries_with : (List Act → ℕ → Entry → Bool) → Firm → ℕ
entries_with test firm = count_by (λ p. passes (test (acts_of p.0 firm)) p.1) firm.rows

-- a matter that is there, and whose acts do not begin with its opening, is older than they are
abbrev pub is_earlier_matter : List Act → Option Head → Bool
is_earlier_matter acts head = not (is_gone head) && not (begins_with_opening acts)

-- it is the head of such a matter
abbrev pub is_earlier_row : List Act → Row → Bool
is_earlier_row acts (HeadRow head) = is_earlier_matter acts (Some head)
is_earlier_row acts (SeatRow seat) = false
is_earlier_row acts (EntryRow n e) = false

-- how many matters are older than their acts
abbrev pub earlier_matters : Firm → ℕ
earlier_matters firm = count_by (λ p. is_earlier_row (acts_of p.0 firm) p.1) firm.rows

-- so many payments that are or were issued have an approval among the acts, so many have none, and so many matters are
-- older than their acts, each up to the greatest 64-bit number
pub record AreTrailCountsOf (firm : Firm) (counts : TrailCounts) : Type 0 where
  pub approved : counts.approved ≡ min (entries_with is_approved_issue firm) (2 ^ 64 - 1)
  pub earlier : counts.earlier ≡ min (entries_with is_earlier_issue firm) (2 ^ 64 - 1)
  pub matters : counts.matters ≡ min (earlier_matters firm) (2 ^ 64 - 1)

-- what was found: a flaw that the trail has, or the counts of one that fits
abbrev pub IsTrailFound : Firm → TrailFound → Type 0
IsTrailFound firm (found.Flawed f) = IsTrailFlawOf firm f
IsTrailFound firm (found.Fits counts) = HasItsTrail firm × AreTrailCountsOf firm counts

-- a trail that has a flaw does not fit
abbrev pub FlawedIsNoTrail : Type 0
FlawedIsNoTrail = (firm : Firm) (f : TrailFlaw) → IsTrailFlawOf firm f → ¬ HasItsTrail firm

-- In the code.

-- what was done in one matter, by these acts
abbrev pub acts_among : ℕ → List MatterAct → List Act
acts_among m acts = map (λ a. a.act) (acts_in m acts)

-- what the acts say of a loaded entry is what it says
abbrev pub IsKeptApproved : List Act → Kept → Type 0
IsKeptApproved acts k =
    IsApprovedAs (begins_with_opening acts) (days_of_approval k.number acts) (days_of_issue (Some k.entry))

-- how many loaded entries pass a test, which is given the acts of their matter
abbrev pub kept_with : (List Act → ℕ → Entry → Bool) → List Act → List Kept → ℕ
kept_with test acts ks = count_by (λ k. test acts k.number k.entry) ks

-- after these more were counted, of a matter that is counted already
pub record AreCountedOn (acts : List Act) (ks : List Kept) (before after : TrailCounts) : Type 0 where
  pub approved : after.approved ≡ min (before.approved + kept_with is_approved_issue acts ks) (2 ^ 64 - 1)
  pub earlier : after.earlier ≡ min (before.earlier + kept_with is_earlier_issue acts ks) (2 ^ 64 - 1)
  pub matters : after.matters ≡ before.matters

-- a loaded entry with this number, of which the acts say something else
pub record IsKeptAmiss (acts : List Act) (ks : List Kept) (n : ℕ) : Type 0 where
  pub index : ℕ
  pub kept : Kept
  pub there : slice_get ks index ≡ Some kept
  pub number : n ≡ kept.number
  pub amiss : ¬ IsKeptApproved acts kept

-- what was found of loaded entries
abbrev pub AreEntriesFound : ℕ → List Kept → List Act → TrailCounts → TrailFound → Type 0
AreEntriesFound m ks acts before (found.Fits after) =
    AllByRecursion (IsKeptApproved acts) ks × AreCountedOn acts ks before after
AreEntriesFound m ks acts before (found.Flawed (flaw.Matter k)) = ⊥
AreEntriesFound m ks acts before (found.Flawed (flaw.Act k n)) = ⊥
AreEntriesFound m ks acts before (found.Flawed (flaw.Entry k n)) = (k ≡ m) × IsKeptAmiss acts ks n

-- the dossier of a loaded matter
abbrev pub dossier_kept : KeptMatter → List Act → Dossier
dossier_kept k acts = record { rows = rows_kept k.matter; acts = acts }

-- the flaw is one of this matter
abbrev pub IsMatterFlawed : KeptMatter → List Act → TrailFlaw → Type 0
IsMatterFlawed k acts (flaw.Matter m) = (m ≡ k.number) × (¬ IsTrailOf k.number (dossier_kept k acts))
IsMatterFlawed k acts (flaw.Act m n) = (m ≡ k.number) × IsActFlaw k.number (dossier_kept k acts) n
IsMatterFlawed k acts (flaw.Entry m n) = (m ≡ k.number) × IsEntryFlaw (dossier_kept k acts) n

-- what was found of a loaded matter
abbrev pub IsMatterTrail : KeptMatter → List Act → TrailCounts → TrailFound → Type 0
IsMatterTrail k acts before (found.Fits after) =
    IsTrailOf k.number (dossier_kept k acts) × AreCountedOn acts k.matter.kept before after
IsMatterTrail k acts before (found.Flawed f) = IsMatterFlawed k acts f

-- the matter is among these
abbrev pub IsAmong : List KeptMatter → ℕ → Type 0
IsAmong ks m = list_any (λ k. k.number == m) ks ≡ true

-- it has acts and no rows
pub record HasActsAlone (ks : List KeptMatter) (acts : List MatterAct) (m : ℕ) : Type 0 where
  pub gone : rows_in m ks ≡ unopened
  pub some : acts_among m acts ≢ []

-- how many entries of loaded matters pass a test, which is given the acts of their matter
abbrev pub all_with : (List Act → ℕ → Entry → Bool) → List MatterAct → List KeptMatter → ℕ
all_with test acts ks = sum_by (λ k. kept_with test (acts_among k.number acts) k.matter.kept) ks

-- how many loaded matters are older than their acts
abbrev pub earlier_among : List MatterAct → List KeptMatter → ℕ
earlier_among acts ks = count_by (λ k. is_earlier_matter (acts_among k.number acts) k.matter.head) ks

-- all are counted
pub record AreCountedAll (ks : List KeptMatter) (acts : List MatterAct) (counts : TrailCounts) : Type 0 where
  pub approved : counts.approved ≡ min (all_with is_approved_issue acts ks) (2 ^ 64 - 1)
  pub earlier : counts.earlier ≡ min (all_with is_earlier_issue acts ks) (2 ^ 64 - 1)
  pub matters : counts.matters ≡ min (earlier_among acts ks) (2 ^ 64 - 1)

-- the flaw is that of one of them
pub record IsAmissAmong (ks : List KeptMatter) (acts : List MatterAct) (f : TrailFlaw) : Type 0 where
  pub index : ℕ
  pub kept : KeptMatter
  pub there : slice_get ks index ≡ Some kept
  pub flawed : IsMatterFlawed kept (acts_among kept.number acts) f

-- what was found of loaded matters, each with its acts among all
abbrev pub AreMattersFound : List KeptMatter → List MatterAct → TrailFound → Type 0
AreMattersFound ks acts (found.Fits counts) =
    AllByRecursion (λ k. IsTrailOf k.number (dossier_kept k (acts_among k.number acts))) ks
    × AreCountedAll ks acts counts
AreMattersFound ks acts (found.Flawed f) = IsAmissAmong ks acts f
