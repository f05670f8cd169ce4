-- A matter's dossier: its rows, and the acts that it is remembered by. What an ask and a bank line leave of them.
use Rattle.std.specs.Prelude.{ℕ, List, [], ◌∷◌, ◌++◌, Option, Some, None, fold}
use Rattle.trust_base.specs.declared.refusal.Refusal.{Refusal}
use Rattle.matter_rows.specs.declared.act.Act.{Act}
use Rattle.matter_rows.specs.Rows.{Rows, unopened, entry_at}
use Rattle.matter_parts.specs.declared.edit.Edit.{Edit}
use Rattle.matter_parts.specs.Changes.{acts_by}
use Rattle.trust_matter.specs.declared.bank_line.BankLine.{BankLine}
use Rattle.trust_matter.specs.declared.line_verdict.LineEffect.{LineEffect}
use Rattle.trust_matter.specs.declared.line_verdict.LineEffect.TheVariants as told
use Rattle.trust_matter.specs.Facts.{Asked}
use Rattle.trust_matter.specs.Laws.{Doing, AnAsk, ALine}
use Rattle.trust_matter.specs.LineStep.{line_on, line_act, rows_after_line}
use Rattle.trust_matter.specs.Step.{refusal, edit_on, act_on, rows_after}

-- the rows of a matter, and what was accepted of it, in order
pub record Dossier : Type 0 where
  pub rows : Rows
  pub acts : List Act

-- those of a matter that was never opened
abbrev pub no_dossier : Dossier
no_dossier = record { rows = unopened; acts = [] }

-- a refusal leaves the acts as they are
abbrev pub acts_after : Option Refusal → Edit → Option Act → List Act → List Act
acts_after None e act acts = acts_by e act acts
acts_after (Some r) e act acts = acts

-- the dossier after an ask
abbrev pub dossier_after : Dossier → Asked → Dossier
dossier_after p a = record {
  rows = rows_after p.rows a;
  acts = acts_after (refusal p.rows a) (edit_on p.rows a) (act_on p.rows a) p.acts;
}

abbrev pub acts_after_line : LineEffect → Act → List Act → List Act
acts_after_line (told.Applied e) act acts = acts ++ act ∷ []
acts_after_line told.Repeat act acts = acts
acts_after_line (told.Unmatched r) act acts = acts

-- the dossier after a bank line on a business day
abbrev pub dossier_after_line : Dossier → BankLine → ℕ → Dossier
dossier_after_line p l today = record {
  rows = rows_after_line p.rows l today;
  acts = acts_after_line (line_on p.rows l today) (line_act (entry_at p.rows.entries l.entry) l today) p.acts;
}

-- the dossier after a step, which is an ask, or a bank line on a business day
abbrev pub dossier_after_step : Dossier → Doing → Dossier
dossier_after_step p (AnAsk a) = dossier_after p a
dossier_after_step p (ALine l today) = dossier_after_line p l today

-- the dossier after a run of steps
abbrev pub dossier_after_run : Dossier → List Doing → Dossier
dossier_after_run p run = fold dossier_after_step p run
