-- The trail of a firm, which is its acts and its dismissals: which change adds to it, and that it decides nothing.
use Rattle.firm_rows.proofs.Names.{◌≡◌, ◌↔◌, ℕ, List, [], Some, None, refl, sym, ap, ◌∙◌, Edit, Dismissal, MatterAct, Firm, joined_acts, with_acts, with_dismissals, with_trail, after_edit, matched_by, OfMatter, Repeated, Unmatched, Dismissed, OfFirm, OfBalance, FitsFirm, FirmSound, IsInOrder, ActsDecideNothing, DismissalsOfOneChange, DismissalsDecideNothing}
use Rattle.trust_matter.specs.edit.Edit.TheVariants as edit
use Rattle.firm_rows.specs.Firm.{acted}
use Rattle.firm_rows.specs.FirmChange.{FirmChange, after}
use Rattle.firm_rows.specs.FirmSound.{dismissals_after}

-- A firm is sound, or not, whatever its trail is.

pub order-trail : (acts : List MatterAct) (dismissals : List Dismissal) (firm : Firm) → IsInOrder firm → IsInOrder (with_trail acts dismissals firm)
order-trail acts dismissals firm order =
    record { rows = order.rows; exceptions = order.exceptions; balances = order.balances }

pub sound-trail : (acts : List MatterAct) (dismissals : List Dismissal) (firm : Firm) → FirmSound firm → FirmSound (with_trail acts dismissals firm)
sound-trail acts dismissals firm sound = record {
  in_order = order-trail acts dismissals firm sound.in_order;
  matters = sound.matters;
  events = sound.events;
  own = sound.own;
  in_time = λ m. record { rising = (sound.in_time m).rising; by_last = (sound.in_time m).by_last };
  ledgers = sound.ledgers;
  covered = sound.covered;
  within = sound.within;
}

-- A change makes of the trail what it makes of it whatever the other rows are, and of these what it makes of them
-- whatever the trail is.

pub edit-trail : (m : ℕ) (e : Edit) (last : ℕ) (acts : List MatterAct) (dismissals : List Dismissal) (firm : Firm)
    → after_edit m e last (with_trail acts dismissals firm) ≡ with_trail acts dismissals (after_edit m e last firm)
edit-trail m edit.Nothing last acts dismissals firm = refl
edit-trail m (edit.Open opening) last acts dismissals firm = refl
edit-trail m (edit.Seat seat) last acts dismissals firm = refl
edit-trail m (edit.Unseat person) last acts dismissals firm = refl
edit-trail m (edit.Close day) last acts dismissals firm = refl
edit-trail m (edit.Purge day) last acts dismissals firm = refl
edit-trail m (edit.Append entry) last acts dismissals firm = refl
edit-trail m (edit.Exchange entry) last acts dismissals firm = refl

pub edit-leaves-dismissals : (m : ℕ) (e : Edit) (last : ℕ) (firm : Firm) → (after_edit m e last firm).dismissals ≡ firm.dismissals
edit-leaves-dismissals m e last firm = ap (λ (f : Firm). f.dismissals) (edit-trail m e last firm.acts firm.dismissals firm)

abbrev pub acts_joined : FirmChange → List MatterAct → List MatterAct
acts_joined (OfMatter m line change) acts = joined_acts m change.edit change.act acts
acts_joined (Repeated line) acts = acts
acts_joined (Unmatched line) acts = acts
acts_joined (Dismissed day line) acts = acts
acts_joined (OfFirm line) acts = acts
acts_joined (OfBalance kind line) acts = acts

after-trail : (change : FirmChange) (acts : List MatterAct) (dismissals : List Dismissal) (firm : Firm)
    → after change (with_trail acts dismissals firm)
    ≡ with_trail (acts_joined change acts) (dismissals_after change dismissals) (after change firm)
after-trail (OfMatter m None change) acts dismissals firm =
    ap (acted m change.edit change.act) (edit-trail m change.edit change.last acts dismissals firm)
after-trail (OfMatter m (Some line) change) acts dismissals firm =
    ap (λ (f : Firm). matched_by (Some line) (acted m change.edit change.act f))
    (edit-trail m change.edit change.last acts dismissals firm)
after-trail (Repeated line) acts dismissals firm = refl
after-trail (Unmatched line) acts dismissals firm = refl
after-trail (Dismissed day line) acts dismissals firm = refl
after-trail (OfFirm line) acts dismissals firm = refl
after-trail (OfBalance kind line) acts dismissals firm = refl

pub acts-after : (change : FirmChange) (firm : Firm) → (after change firm).acts ≡ acts_joined change firm.acts
acts-after change firm = ap (λ (f : Firm). f.acts) (after-trail change firm.acts firm.dismissals firm)

pub dismissals-of-one-change : DismissalsOfOneChange
dismissals-of-one-change change firm = ap (λ (f : Firm). f.dismissals) (after-trail change firm.acts firm.dismissals firm)

-- The trail decides nothing.

fits-trail : (change : FirmChange) (acts : List MatterAct) (dismissals : List Dismissal) (firm : Firm)
    → FitsFirm (with_trail acts dismissals firm) change ↔ FitsFirm firm change
fits-trail (OfMatter m line change) acts dismissals firm = (λ fits. fits, λ fits. fits)
fits-trail (Repeated line) acts dismissals firm = (λ fits. fits, λ fits. fits)
fits-trail (Unmatched line) acts dismissals firm = (λ fits. fits, λ fits. fits)
fits-trail (Dismissed day line) acts dismissals firm = (λ fits. fits, λ fits. fits)
fits-trail (OfFirm line) acts dismissals firm = (λ fits. fits, λ fits. fits)
fits-trail (OfBalance kind line) acts dismissals firm = (λ fits. fits, λ fits. fits)

pub acts-decide-nothing : (acts : List MatterAct) (change : FirmChange) (firm : Firm) → ActsDecideNothing acts change firm
acts-decide-nothing acts change firm = record {
  sound = (sound-trail firm.acts firm.dismissals (with_acts acts firm), sound-trail acts firm.dismissals firm);
  fits = fits-trail change acts firm.dismissals firm;
  after =
      ap (with_acts []) (after-trail change acts firm.dismissals firm)
      ∙ sym (ap (with_acts []) (after-trail change firm.acts firm.dismissals firm));
}

pub dismissals-decide-nothing : (dismissals : List Dismissal) (change : FirmChange) (firm : Firm)
    → DismissalsDecideNothing dismissals change firm
dismissals-decide-nothing dismissals change firm = record {
  sound = (sound-trail firm.acts firm.dismissals (with_dismissals dismissals firm), sound-trail firm.acts dismissals firm);
  fits = fits-trail change firm.acts dismissals firm;
  after =
      ap (with_dismissals []) (after-trail change firm.acts dismissals firm)
      ∙ sym (ap (with_dismissals []) (after-trail change firm.acts firm.dismissals firm));
}
