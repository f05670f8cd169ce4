-- In the code: what an act tells, the rows of a matter in memory, and what was found by replay.
use Rattle.std.specs.Prelude.{◌≡◌, ℕ, Bool, false, true, List, [], ◌∷◌, Option, Some, None}
use Rattle.matter_rows.specs.declared.act.Act.{Act}
use Rattle.matter_rows.specs.declared.act.Deed.{Deed}
use Rattle.matter_rows.specs.declared.act.Deed.TheVariants as deed
use Rattle.matter_rows.specs.Rows.{Rows}
use Rattle.matter_rows.specs.Sound.{Sound}
use Rattle.matter_parts.specs.Parts.{Part, IsWhole}
use Rattle.matter_parts.specs.Audit.{rows_kept}
use Rattle.matter_parts.specs.Changes.{MatterChange, changed}
use Rattle.trust_matter.specs.declared.ask.Ask.{Ask}
use Rattle.trust_matter.specs.declared.bank_line.BankLine.{BankLine}
use Rattle.trust_matter.specs.Laws.{ALine, Doing, after_doing}
use Rattle.trail_laws.specs.Dossier.{Dossier, dossier_after_step}
use Rattle.trail_laws.specs.Replayed.{IsReplayed, asked_by}
use Rattle.trail_replay.specs.declared.told.Told.{Told}
use Rattle.trail_replay.specs.declared.told.Told.TheVariants as told
use Rattle.trail_replay.specs.declared.replay.Replay.{Replay}
use Rattle.trail_replay.specs.declared.replay.Replay.TheVariants as replays
use Rattle.trail_replay.specs.Follows.{IsMisfit, IsNext, bare, rows_next}

-- what an act tells, as asks and lines
abbrev pub doing_of : Act → Told → Doing
doing_of act (told.Asked q) = asked_by act q
doing_of act (told.Shown l) = ALine l act.day

abbrev pub doings_of : Act → Option Told → List Doing
doings_of act None = []
doings_of act (Some t) = doing_of act t ∷ []

abbrev pub lines_of : Act → Option BankLine → List Doing
lines_of act None = []
lines_of act (Some l) = ALine l act.day ∷ []

abbrev pub asks_of : Act → Option Ask → List Doing
asks_of act None = []
asks_of act (Some q) = asked_by act q ∷ []

-- the deed is one of an entry
abbrev pub is_of_entry : Deed → Bool
is_of_entry (deed.Opened lawyer) = false
is_of_entry (deed.Seated seat) = false
is_of_entry (deed.Unseated person) = false
is_of_entry deed.Closed = false
is_of_entry deed.Deposited = true
is_of_entry deed.Cancelled = true
is_of_entry deed.Cleared = true
is_of_entry deed.Returned = true
is_of_entry deed.Proposed = true
is_of_entry deed.Approved = true
is_of_entry deed.Declined = true
is_of_entry deed.Withdrawn = true
is_of_entry deed.Voided = true
is_of_entry deed.Earned = true
is_of_entry deed.Disputed = true
is_of_entry deed.Claimed = true
is_of_entry (deed.Offered part) = true
is_of_entry deed.Accepted = true
is_of_entry deed.Awarded = true

abbrev pub dossier_of : Part → List Act → Dossier
dossier_of m acts = record { rows = rows_kept m; acts = acts }

-- a matter in memory is the whole of sound rows, its own
pub record IsGood (m : Part) : Type 0 where
  pub sound : Sound (rows_kept m)
  pub whole : IsWhole m (rows_kept m)

-- a change was made, exactly if it is remembered as this act
abbrev pub IsMadeAs : Part → MatterChange → Act → Bool → Part → Type 0
IsMadeAs old c act true new = (c.act ≡ Some act) × (IsGood new × (rows_kept new ≡ changed c (rows_kept old)))
IsMadeAs old c act false new = ¬ (c.act ≡ Some act)

-- these rows take the doing, and remember it as this act
abbrev pub Adds : Rows → Doing → Act → Type 0
Adds rows doing act = (dossier_after_step (bare rows) doing).acts ≡ act ∷ []

-- a doing was made, exactly if it is taken and remembered as this act
abbrev pub IsTaken : Part → Doing → Act → Bool → Part → Type 0
IsTaken old doing act true new =
    Adds (rows_kept old) doing act × (IsGood new × (rows_kept new ≡ after_doing (rows_kept old) doing))
IsTaken old doing act false new = ¬ Adds (rows_kept old) doing act

-- what an act tells was made, exactly if the act follows
abbrev pub AreTaken : Part → (Act → List Doing) → Act → Bool → Part → Type 0
AreTaken old own act true new =
    IsNext own (rows_kept old) act × (IsGood new × (rows_kept new ≡ rows_next own (rows_kept old) act))
AreTaken old own act false new = ¬ IsNext own (rows_kept old) act

-- what was found: the dossier is replayed; or the act at this place is the first misfit; or it is not replayed
abbrev pub IsReplayFound : ℕ → Dossier → Replay → Type 0
IsReplayFound n p replays.Made = IsReplayed n p
IsReplayFound n p (replays.Misfit place) = IsMisfit n p place
IsReplayFound n p replays.Other = ¬ IsReplayed n p
