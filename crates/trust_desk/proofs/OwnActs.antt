-- What an ask and a line leave of a matter's acts: those of the matter's own machine, and of each other matter all.
use Rattle.std.proofs.Common.{◌≡◌, ◌≢◌, ℕ, false, cond, List, [], ◌∷◌, ◌++◌, Option, Some, None, refl, sym, ◌∙◌, subst}
use Rattle.std.specs.Prelude.{is_none, ◌==◌}
use Rattle.std.proofs.lemmas.Bool.{cond-false, cond-true, eq-eqb, false≢true, ne_eqb}
use Rattle.trust_base.specs.declared.line.Line.{Line}
use Rattle.trust_base.specs.declared.refusal.Refusal.{Refusal}
use Rattle.matter_rows.specs.declared.act.Act.{Act}
use Rattle.matter_rows.specs.declared.entry.Entry.{Entry}
use Rattle.matter_rows.specs.declared.entry.Entry.TheVariants as entry
use Rattle.matter_rows.specs.Rows.{Rows, entry_at}
use Rattle.matter_parts.specs.Changes.{MatterChange, acts_by, last_after}
use Rattle.matter_parts.specs.declared.edit.Edit.{Edit}
use Rattle.matter_parts.specs.declared.edit.Edit.TheVariants as edit
use Rattle.matter_parts.specs.Parts.{no_figures}
use Rattle.trust_matter.specs.declared.bank_line.BankLine.{BankLine}
use Rattle.trust_matter.specs.declared.line_verdict.DatedEdit.{DatedEdit}
use Rattle.trust_matter.specs.declared.line_verdict.LineEffect.{LineEffect}
use Rattle.trust_matter.specs.declared.line_verdict.LineEffect.TheVariants as told
use Rattle.trust_matter.specs.Facts.{Asked}
use Rattle.trust_matter.specs.LineStep.{has_no_line, line_facts, line_on, told_by}
use Rattle.trust_matter.specs.Step.{act_on, edit_on}
use Rattle.trust_matter.proofs.LineSteps.{applied-matched}
use Rattle.firm_rows.proofs.Acts.{acts-of-one-change}
use Rattle.firm_rows.specs.Firm.{Firm, of, acted, acts_of, after_edit}
use Rattle.firm_rows.specs.FirmChange.{OfMatter}
use Rattle.trail_laws.specs.Dossier.{acts_after, acts_after_line}
use Rattle.trust_desk.specs.FirmStep.{after_asked}
use Rattle.trust_desk.specs.ItemStep.{after_told, told_act}

-- An edit that is remembered.

abbrev change_of : Edit → ℕ → Option Act → MatterChange
change_of e last act = record {
  edit = e;
  last = last;
  moves = record { figures = no_figures; left = 0; other = None };
  movement = None;
  act = act;
}

acts-edited : (n m : ℕ) (e : Edit) (last : ℕ) (act : Option Act) (firm : Firm)
    → acts_of n (acted m e act (after_edit m e last firm)) ≡ cond (n == m) (acts_by e act (acts_of n firm)) (acts_of n firm)
acts-edited n m e last act firm = acts-of-one-change n (OfMatter m None (change_of e last act)) firm

acts-own : (m : ℕ) (e : Edit) (last : ℕ) (act : Option Act) (firm : Firm)
    → acts_of m (acted m e act (after_edit m e last firm)) ≡ acts_by e act (acts_of m firm)
acts-own m e last act firm = acts-edited m m e last act firm ∙ cond-true (m == m) _ _ (eq-eqb m m refl)

pub acts-other : (n m : ℕ) (e : Edit) (last : ℕ) (act : Option Act) (firm : Firm) → n ≢ m
    → acts_of n (acted m e act (after_edit m e last firm)) ≡ acts_of n firm
acts-other n m e last act firm apart = acts-edited n m e last act firm ∙ cond-false (n == m) _ _ (ne_eqb n m apart)

-- An ask.

pub acts-asked : (o : Option Refusal) (m : ℕ) (a : Asked) (firm : Firm)
    → acts_of m (after_asked o m a firm) ≡ acts_after o (edit_on (of m firm) a) (act_on (of m firm) a) (acts_of m firm)
acts-asked None m a firm =
    let e = edit_on (of m firm) a in
    acts-own m e (last_after (of m firm).head e a.day) (act_on (of m firm) a) firm
acts-asked (Some r) m a firm = refl

-- A line.

abbrev IsExchanging : Edit → Type 0
IsExchanging (edit.Exchange x) = Unit {0}
IsExchanging _ = ⊥

exchanged : (n : ℕ) (o : Option Entry) (line : Line) (today : ℕ) → is_none o ≡ false → has_no_line o ≡ false → IsExchanging (told_by n o line today)
exchanged n None line today there kind = absurd (false≢true (sym there))
exchanged n (Some (entry.Deposit d)) line today there kind = tt
exchanged n (Some (entry.Payment p)) line today there kind = tt
exchanged n (Some (entry.Fee f)) line today there kind = absurd (false≢true (sym kind))
exchanged n (Some (entry.Claim c)) line today there kind = absurd (false≢true (sym kind))

-- an applied line writes its entry anew
exchanges : (rows : Rows) (l : BankLine) (day : ℕ) (d : DatedEdit) → line_on rows l day ≡ told.Applied d → IsExchanging d.edit
exchanges rows l day d is =
    let f = line_facts rows l day in
    let m = applied-matched f d is in
    subst (λ (x : DatedEdit). IsExchanging x.edit) m.1 (exchanged l.entry (entry_at rows.entries l.entry) l.line day m.0.there m.0.kind)

written : (e : Edit) (act : Act) (acts : List Act) → IsExchanging e → acts_by e (Some act) acts ≡ acts ++ act ∷ []
written (edit.Exchange x) act acts is = refl
written e act acts is = absurd is

pub acts-told : (l : BankLine) (day : ℕ) (v : LineEffect) (firm : Firm) → line_on (of l.matter firm) l day ≡ v
    → acts_of l.matter (after_told l day v firm) ≡ acts_after_line v (told_act l day firm) (acts_of l.matter firm)
acts-told l day (told.Applied d) firm is =
    acts-own l.matter d.edit d.last (Some (told_act l day firm)) firm
    ∙ written d.edit (told_act l day firm) (acts_of l.matter firm) (exchanges (of l.matter firm) l day d is)
acts-told l day told.Repeat firm is = refl
acts-told l day (told.Unmatched r) firm is = refl
