-- What a replay of a matter's acts goes through: act by act, with the rows alone.
use Rattle.std.specs.Prelude.{◌≡◌, ◌↔◌, ◌++◌, ℕ, List, [], ◌∷◌, fold, length}
use Rattle.matter_rows.specs.declared.act.Act.{Act}
use Rattle.matter_rows.specs.Rows.{Rows, unopened}
use Rattle.matter_rows.specs.Sound.{Sound}
use Rattle.trust_matter.specs.Laws.{Doing, all_after}
use Rattle.trail_laws.specs.Dossier.{Dossier, dossier_after_step}
use Rattle.trail_laws.specs.Replayed.{IsReplayed, own_by}
use Rattle.trail_laws.specs.Signed.{IsSigned, nothing_before}

-- these rows, and no act yet
abbrev pub bare : Rows → Dossier
bare rows = record { rows = rows; acts = [] }

-- the act follows from these rows: it is told as one ask or line, which they accept, and remember as this act
pub record IsNext (own : Act → List Doing) (rows : Rows) (act : Act) : Type 0 where
  pub doing : Doing
  pub told : own act ≡ doing ∷ []
  pub added : (dossier_after_step (bare rows) doing).acts ≡ act ∷ []

-- the rows after what the act tells
abbrev pub rows_next : (Act → List Doing) → Rows → Act → Rows
rows_next own rows act = all_after rows (own act)

-- each act follows from the rows that those before it made, and these are the rows at the end
abbrev pub Follow : (Act → List Doing) → Rows → List Act → Rows → Type 0
Follow own rows [] end = rows ≡ end
Follow own rows (act ∷ acts) end = IsNext own rows act × Follow own (rows_next own rows act) acts end

-- a dossier is replayed exactly if its acts follow, from nothing to its rows
abbrev pub ReplayedFollows : Type 0
ReplayedFollows = (m : ℕ) (p : Dossier) → IsReplayed m p ↔ Follow (own_by m p.rows) unopened p.acts p.rows

-- the rows after these acts, whatever they tell
abbrev pub rows_along : (Act → List Doing) → Rows → List Act → Rows
rows_along own rows acts = fold (rows_next own) rows acts

-- the act at this place, counted from 0, is the first that does not follow from the rows that those before it made
pub record IsMisfit (m : ℕ) (p : Dossier) (place : ℕ) : Type 0 where
  pub before : List Act
  pub act : Act
  pub behind : List Act
  pub among : p.acts ≡ before ++ act ∷ behind
  pub at : length before ≡ place
  pub follow : Follow (own_by m p.rows) unopened before (rows_along (own_by m p.rows) unopened before)
  pub not_next : ¬ IsNext (own_by m p.rows) (rows_along (own_by m p.rows) unopened before) act

-- where there is one, the dossier is not replayed
abbrev pub MisfitIsNotReplayed : Type 0
MisfitIsNotReplayed = (m : ℕ) (p : Dossier) (place : ℕ) → IsMisfit m p place → ¬ IsReplayed m p

-- a replayed dossier of sound rows is signed: the policy allowed each act with the seats of its moment, the acts leave
-- the matter's seats, and each payment that is or was issued has its approval
abbrev pub ReplayedIsSigned : Type 0
ReplayedIsSigned = (m : ℕ) (p : Dossier) → Sound p.rows → IsReplayed m p → IsSigned nothing_before p
