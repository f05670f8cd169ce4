-- What is made of two firms that differ in one part of their trail alone differs in that part alone.
use Rattle.std.proofs.Common.{◌≡◌, ℕ, Bool, List, [], ◌∷◌, Option, Some, None, refl, sym, ap, ◌∙◌}
use Rattle.trust_base.specs.declared.line.Line.{Line}
use Rattle.trust_base.specs.declared.refusal.Refusal.{Refusal}
use Rattle.matter_rows.specs.declared.act.Act.{Act}
use Rattle.matter_parts.specs.Changes.{last_after}
use Rattle.matter_parts.specs.declared.edit.Edit.{Edit}
use Rattle.json_bodies.specs.declared.bodies.ImportReply.{ImportReply}
use Rattle.trust_matter.specs.declared.bank_line.BankLine.{BankLine}
use Rattle.trust_matter.specs.declared.line_verdict.LineEffect.{LineEffect}
use Rattle.trust_matter.specs.declared.line_verdict.LineEffect.TheVariants as told
use Rattle.trust_matter.specs.Facts.{Asked}
use Rattle.trust_matter.specs.LineStep.{line_on}
use Rattle.trust_matter.specs.Step.{act_on, edit_on, refusal}
use Rattle.firm_rows.proofs.Trail.{acts-decide-nothing, dismissals-decide-nothing, edit-trail}
use Rattle.firm_rows.specs.declared.dismissal.Dismissal.{Dismissal}
use Rattle.firm_rows.specs.declared.ledger.BalanceKind.TheVariants as kind
use Rattle.firm_rows.specs.declared.matter_act.MatterAct.{MatterAct}
use Rattle.firm_rows.specs.Firm.{Firm, acted, after_edit, after_match, of, with_trail}
use Rattle.firm_rows.specs.FirmChange.{Dismissed, FirmChange, Repeated, Unmatched, after, by_balance, by_firm_line}
use Rattle.statement_csv.specs.declared.item.Item.{Item}
use Rattle.statement_csv.specs.declared.item.Item.TheVariants as item
use Rattle.trust_desk.specs.Dismissing.{after_dismissing, dismiss_refusal, dismissed_unless}
use Rattle.trust_desk.specs.FirmStep.{after_ask, after_asked, kind_step}
use Rattle.trust_desk.specs.Heard.{Heard, Kind, OfMatter, OfItems, Dismisses, asked_on}
use Rattle.trust_desk.specs.ItemStep.{after_item, after_items, after_told, balance_on, count_item, counted_of, counts_after, firm_line_on, told_act}
use Rattle.desk_trail.specs.TellNothing.{shows_acts, shows_dismissals}

-- A part of a firm's trail.

pub data Part : Type 0 where
  TheActs : Part
  TheDismissals : Part

abbrev pub acts_beside : Part → List MatterAct → List MatterAct
acts_beside TheActs acts = []
acts_beside TheDismissals acts = acts

abbrev pub dismissals_beside : Part → List Dismissal → List Dismissal
dismissals_beside TheActs dismissals = dismissals
dismissals_beside TheDismissals dismissals = []

-- the firm without it
abbrev pub without : Part → Firm → Firm
without part firm = with_trail (acts_beside part firm.acts) (dismissals_beside part firm.dismissals) firm

-- what is answered with it
abbrev pub shows : Part → Heard → Bool
shows TheActs = shows_acts
shows TheDismissals = shows_dismissals

-- What is made of a firm, and does not depend on a part of its trail.

abbrev pub Ignores : Part → {X : Type 0} → (Firm → X) → Type 0
Ignores part made = (firm : Firm) → made (without part firm) ≡ made firm

pub alike : (part : Part) {X : Type 0} (made : Firm → X) → Ignores part made → (f g : Firm) → without part f ≡ without part g → made f ≡ made g
alike part made ignores f g same = sym (ignores f) ∙ (ap made same ∙ ignores g)

-- what leaves the rest of a firm the same
abbrev Leaves : Part → (Firm → Firm) → Type 0
Leaves part made = Ignores part (λ (f : Firm). without part (made f))

itself-leaves : (part : Part) → Leaves part (λ (f : Firm). f)
itself-leaves TheActs firm = refl
itself-leaves TheDismissals firm = refl

edit-leaves : (part : Part) (m : ℕ) (e : Edit) (last : ℕ) (act : Option Act) → Leaves part (λ (f : Firm). acted m e act (after_edit m e last f))
edit-leaves TheActs m e last act firm =
    let made : Firm → Firm = λ f. without TheActs (acted m e act f) in
    ap made (edit-trail m e last [] firm.dismissals firm)
    ∙ sym (ap made (edit-trail m e last firm.acts firm.dismissals firm))
edit-leaves TheDismissals m e last act firm =
    let made : Firm → Firm = λ f. without TheDismissals (acted m e act f) in
    ap made (edit-trail m e last firm.acts [] firm)
    ∙ sym (ap made (edit-trail m e last firm.acts firm.dismissals firm))

change-leaves : (part : Part) (change : FirmChange) → Leaves part (after change)
change-leaves TheActs change firm = (acts-decide-nothing [] change firm).after
change-leaves TheDismissals change firm = (dismissals-decide-nothing [] change firm).after

-- An ask.

asked-leaves : (part : Part) (o : Option Refusal) (m : ℕ) (a : Asked) → Leaves part (after_asked o m a)
asked-leaves part None m a firm =
    let e = edit_on (of m firm) a in
    edit-leaves part m e (last_after (of m firm).head e a.day) (act_on (of m firm) a) firm
asked-leaves part (Some r) m a firm = itself-leaves part firm

ask-leaves : (part : Part) (m : ℕ) (a : Asked) → Leaves part (after_ask m a)
ask-leaves part m a firm = asked-leaves part (refusal (of m firm) a) m a firm

-- The items of a statement.

told-leaves : (part : Part) (l : BankLine) (day : ℕ) (e : LineEffect) → Leaves part (after_told l day e)
told-leaves part l day (told.Applied e) firm =
    ap (after_match l.line) (edit-leaves part l.matter e.edit e.last (Some (told_act l day firm)) firm)
told-leaves part l day told.Repeat firm = change-leaves part (Repeated l.line) firm
told-leaves part l day (told.Unmatched r) firm = change-leaves part (Unmatched l.line) firm

item-leaves : (part : Part) (day : ℕ) (it : Item) → Leaves part (λ (f : Firm). after_item day f it)
item-leaves part day (item.Opening line) firm =
    change-leaves part (by_balance kind.Opening line (balance_on firm kind.Opening line day)) firm
item-leaves part day (item.Closing line) firm =
    change-leaves part (by_balance kind.Closing line (balance_on firm kind.Closing line day)) firm
item-leaves part day (item.OfMatter l) firm = told-leaves part l day (line_on (of l.matter firm) l day) firm
item-leaves part day (item.OfFirm line) firm =
    change-leaves part (by_firm_line line (firm_line_on firm line day)) firm
item-leaves part day (item.Stray line) firm = change-leaves part (Unmatched line) firm
item-leaves part day (item.Unreadable number) firm = itself-leaves part firm

item-alike : (part : Part) (day : ℕ) (it : Item) (f g : Firm) → without part f ≡ without part g
    → without part (after_item day f it) ≡ without part (after_item day g it)
item-alike part day it f g same = alike part (λ (x : Firm). without part (after_item day x it)) (item-leaves part day it) f g same

pub items-alike : (part : Part) (day : ℕ) (items : List Item) (f g : Firm) → without part f ≡ without part g
    → without part (after_items day f items) ≡ without part (after_items day g items)
items-alike part day [] f g same = same
items-alike part day (it ∷ items) f g same =
    items-alike part day items (after_item day f it) (after_item day g it) (item-alike part day it f g same)

-- and how they are counted

counted-ignores : (part : Part) (day : ℕ) (it : Item) → Ignores part (λ (f : Firm). counted_of day f it)
counted-ignores part day (item.Opening line) firm = refl
counted-ignores part day (item.Closing line) firm = refl
counted-ignores part day (item.OfMatter l) firm = refl
counted-ignores part day (item.OfFirm line) firm = refl
counted-ignores part day (item.Stray line) firm = refl
counted-ignores part day (item.Unreadable number) firm = refl

pub counts-alike : (part : Part) (day : ℕ) (items : List Item) (c : ImportReply) (f g : Firm) → without part f ≡ without part g
    → counts_after day f items c ≡ counts_after day g items c
counts-alike part day [] c f g same = refl
counts-alike part day (it ∷ items) c f g same =
    let counted = alike part (λ (x : Firm). counted_of day x it) (counted-ignores part day it) f g same in
    (λ i. counts_after day (after_item day f it) items (count_item it (counted i) c))
    ∙ counts-alike part day items (count_item it (counted_of day g it) c) (after_item day f it) (after_item day g it)
    (item-alike part day it f g same)

-- A step.

dismissed-leaves : (part : Part) (day : ℕ) (o : Option Refusal) (line : Line) → Leaves part (dismissed_unless day o line)
dismissed-leaves part day None line firm = change-leaves part (Dismissed day line) firm
dismissed-leaves part day (Some r) line firm = itself-leaves part firm

pub made-alike : (part : Part) (day : ℕ) (k : Kind) (f g : Firm) → without part f ≡ without part g
    → without part (kind_step day f k).firm ≡ without part (kind_step day g k).firm
made-alike part day (OfMatter m caller ask) f g same =
    let a = asked_on day caller ask in
    alike part (λ (x : Firm). without part (after_ask m a x)) (ask-leaves part m a) f g same
made-alike part day (OfItems refused items) f g same = items-alike part day items f g same
made-alike part day (Dismisses caller line) f g same =
    alike part (λ (x : Firm). without part (after_dismissing day caller line x))
    (λ firm. dismissed-leaves part day (dismiss_refusal caller line firm) line firm) f g same
made-alike part day _ f g same = same
