-- What is collected from a firm's acts, rows and dismissals for its trail.
use Rattle.std.specs.Prelude.{ℕ, Bool, true, not, ◌==◌, cond, List, [], ◌∷◌, ◌++◌, fold, Option, Some, None}
use Rattle.std.specs.List.{list_any}
use Rattle.matter_rows.specs.Rows.{is_gone}
use Rattle.trail_laws.specs.Signed.{is_opened_by}
use Rattle.firm_rows.specs.declared.dismissal.Dismissal.{Dismissal}
use Rattle.firm_rows.specs.declared.matter_act.MatterAct.{MatterAct}
use Rattle.firm_rows.specs.Firm.{EntryRow, Firm, HeadRow, Row, SeatRow}
use Rattle.trust_reports.specs.TextsOfActs.{act_line, dismissal_line}
use Rattle.book_reports.specs.declared.trail_sink.ActNote.{ActNote}

-- The first act of each matter.

abbrev pub note_of : MatterAct → ActNote
note_of a = record { matter = a.matter; is_opening = is_opened_by a.act.deed }

-- a note counts if it is the first of the matter
abbrev pub with_note : ℕ → Option Bool → ActNote → Option Bool
with_note m None note = cond (note.matter == m) (Some note.is_opening) None
with_note m (Some opening) note = Some opening

-- whether the first act of a matter is its opening; None if the matter has no act
abbrev pub first_noted : ℕ → List ActNote → Option Bool
first_noted m notes = fold (with_note m) None notes

-- so the matter is older than its acts
abbrev pub is_older : Option Bool → Bool
is_older None = true
is_older (Some opening) = not opening

-- All of a firm.

-- the lines, a note of each act, and the matters that are there
pub record TrailKept : Type 0 where
  pub lines : List ℕ
  pub notes : List ActNote
  pub matters : List ℕ

abbrev pub nothing_told : TrailKept
nothing_told = record { lines = []; notes = []; matters = [] }

abbrev pub with_act_told : TrailKept → MatterAct → TrailKept
with_act_told s a = record s { lines = s.lines ++ act_line a; notes = s.notes ++ note_of a ∷ [] }

-- the matter of a head, if it is neither purged nor unopened
abbrev pub matter_there : ℕ × Row → List ℕ
matter_there (m, HeadRow h) = cond (is_gone (Some h)) [] (m ∷ [])
matter_there (m, SeatRow seat) = []
matter_there (m, EntryRow n e) = []

abbrev pub with_matter_there : TrailKept → ℕ × Row → TrailKept
with_matter_there s row = record s { matters = s.matters ++ matter_there row }

abbrev pub with_dismissal_told : TrailKept → Dismissal → TrailKept
with_dismissal_told s d = record s { lines = s.lines ++ dismissal_line d }

-- of all acts, then all rows, then all dismissals
abbrev pub trail_kept : Firm → TrailKept
trail_kept firm =
    fold with_dismissal_told
    (fold with_matter_there (fold with_act_told nothing_told firm.acts) firm.rows)
    firm.dismissals

-- a matter that is there is older than its acts
abbrev pub is_late : TrailKept → Bool
is_late s = list_any (λ m. is_older (first_noted m s.notes)) s.matters
