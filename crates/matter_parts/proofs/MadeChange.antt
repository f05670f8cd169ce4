-- The change that is made by what is kept is one of the rows.
use Rattle.matter_parts.proofs.Names.{◌≡◌, ℕ, refl, ◌∙◌, Rows, Sound, Edit, TotalsAfter, Part, IsPart, MatterChange, IsChange, movement_of, EditMoved, movement_kept, Seat, arith}
use Rattle.matter_parts.specs.declared.edit.Edit.TheVariants as edit
use Rattle.matter_parts.proofs.Moved.{changes-are}
use Rattle.matter_parts.proofs.StepForms.{IsStepOf}

-- what an edit moves is told by what is kept
movement-same : (m : Part) (rows : Rows) (e : Edit) (v : TotalsAfter) → IsPart m rows → EditMoved m e v → movement_kept m e ≡ movement_of rows.entries e
movement-same m rows edit.Nothing v p h = refl
movement-same m rows (edit.Open o) v p h = refl
movement-same m rows (edit.Seat s) v p h = refl
movement-same m rows (edit.Unseat q) v p h = refl
movement-same m rows (edit.Close d) v p h = refl
movement-same m rows (edit.Purge d) v p h = refl
movement-same m rows (edit.Append x) v p h = refl
movement-same m rows (edit.Exchange x) v p h = rw (h.1.kept, (p.kept x.number h.0 h.1.kept).there) refl

-- the change made by what is kept is one of the rows
pub change-is : (m : Part) (rows : Rows) (t n : ℕ) (c : MatterChange) → IsPart m rows → Sound rows → IsStepOf rows t n c.edit c.last → EditMoved m c.edit c.moves → c.movement ≡ movement_kept m c.edit → IsChange rows c
change-is m rows t n c p s step moved movement =
    let all = changes-are m rows t n c.edit c.moves p s.backed step.may moved in
    let same : c.movement ≡ movement_of rows.entries c.edit = movement ∙ movement-same m rows c.edit c.moves p moved in
    grind (arith)
