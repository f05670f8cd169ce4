-- What a line of the bank does to a matter's rows, as laws of the matter.
use Rattle.trust_desk.proofs.Names.{◌≡◌, ℕ, Edit, BankLine, DatedEdit, Rows, Sound, line_on, IsKept}
use Rattle.trust_matter.specs.declared.line_verdict.LineEffect.TheVariants as told
use Rattle.trust_matter.proofs.LineSteps.{applied-step}
use Rattle.matter_parts.proofs.StepForms.{IsStepOf}

-- the step of an ask or of a line is one that a firm keeps its soundness by
pub kept-by_step : {rows : Rows} {t n : ℕ} {e : Edit} {last : ℕ} → IsStepOf rows t n e last → IsKept rows e last
kept-by_step s = record { place = s.place; sound = s.sound; moved = s.moves.moved; not_before = s.not_before; seen = s.seen; dated = s.moves.dated }

-- what a line that is applied edits
pub line-fits : (rows : Rows) (l : BankLine) (day : ℕ) (e : DatedEdit) → Sound rows → line_on rows l day ≡ told.Applied e → IsKept rows e.edit e.last
line-fits rows l day e sound applied = kept-by_step (applied-step rows l day e sound applied)
