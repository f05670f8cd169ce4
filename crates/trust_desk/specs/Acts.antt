-- A matter's dossier in the firm, and how a request for the matter's acts is answered.
use Rattle.std.specs.Prelude.{ℕ, List, Result}
use Rattle.trust_base.specs.declared.refusal.Refusal.{Refusal}
use Rattle.matter_rows.specs.declared.act.Caller.{Caller}
use Rattle.trust_matter.specs.declared.ask.Ask.TheVariants as ask
use Rattle.trust_matter.specs.Facts.{Asked}
use Rattle.trust_matter.specs.Step.{refusal}
use Rattle.trail_laws.specs.Dossier.{Dossier}
pub use Rattle.firm_audit.specs.Trails.{dossier_of}
use Rattle.json_bodies.specs.Acts.{acts_body}
use Rattle.trust_desk.specs.ReportStep.{text_unless}

-- a caller asks to read a matter
abbrev pub reads_on : ℕ → Caller → Asked
reads_on day caller = record { caller = caller; ask = ask.Show; day = day }

-- the result of a caller's request for a matter's acts: their body, unless the caller may not read the matter
abbrev pub acts_for : Caller → ℕ → Dossier → Result (List ℕ) Refusal
acts_for caller day p = text_unless (refusal p.rows (reads_on day caller)) (acts_body p.acts)
