-- A purged matter: what purges it, and that it stays so, without an entry.
use Rattle.std.proofs.Common.{◌≡◌, ℕ, Bool, true, false, cond, List, [], ◌∷◌, Option, Some, None, refl, sym, subst}
use Rattle.std.proofs.lemmas.Bool.{false≢true}
use Rattle.std.specs.Prelude.{is_some}
use Rattle.trust_base.specs.declared.refusal.Refusal.{Refusal}
use Rattle.matter_rows.specs.declared.entry.Entry.{Entry}
use Rattle.matter_rows.specs.declared.head.Head.{Head}
use Rattle.matter_rows.specs.declared.head.Holder.{Holder}
use Rattle.matter_rows.specs.declared.head.Holder.TheVariants as holder
use Rattle.matter_rows.specs.declared.seat.Seat.{Seat}
use Rattle.matter_rows.specs.Rows.{Rows, is_of_nobody, is_purged, purged_head}
use Rattle.matter_rows.specs.Sound.{IsBare, IsBareIfPurged, Sound}
use Rattle.matter_parts.specs.Changes.{last_after}
use Rattle.matter_parts.specs.declared.edit.Edit.TheVariants as edit
use Rattle.trust_matter.proofs.StepForms.{head-there}
use Rattle.trust_matter.specs.Conditions.{has_no_seat, is_opening, is_repeat}
use Rattle.trust_matter.specs.Facts.{Asked, facts_of}
use Rattle.trust_matter.specs.Laws.{Doing, AnAsk, ALine}
use Rattle.trust_matter.specs.Step.{edit_of, edit_on, first, refusal}
use Rattle.trust_matter.specs.declared.ask.Ask.{Ask}
use Rattle.trust_matter.specs.declared.ask.Ask.TheVariants as ask
use Rattle.matter_laws.proofs.Purging.{purged-stays}
use Rattle.trail_laws.specs.Dossier.{Dossier, dossier_after_step}

-- no opening purges
no-opening : (q : Ask) (o : Option Entry) (day d : ℕ) (b : Bool)
    → cond b edit.Nothing (edit_of q o day) ≡ edit.Purge d → is_opening q ≡ false
no-opening (ask.OpenMatter a) o day d true is = absurd (cc)
no-opening (ask.OpenMatter a) o day d false is = absurd (cc)
no-opening q o day d b is = refl

-- who was refused nothing may know of the matter
first-passes : (b s : Bool) (x : Refusal) (early later : List (Bool × Refusal))
    → first (cond b ((s, x) ∷ early) ((s, x) ∷ later)) ≡ None → s ≡ false
first-passes b false x early later none = refl
first-passes true true x early later none = absurd (cc)
first-passes false true x early later none = absurd (cc)

head-purged : (h : Option Head) (day last : ℕ) → is_some h ≡ true → is_purged (purged_head h day last) ≡ true
head-purged None day last some = absurd (false≢true some)
head-purged (Some h) day last some = refl

pub matter-purged : (p : Dossier) (a : Asked) (day : ℕ) → Sound p.rows → refusal p.rows a ≡ None
    → edit_on p.rows a ≡ edit.Purge day → is_purged (purged_head p.rows.head day (last_after p.rows.head (edit.Purge day) a.day)) ≡ true
matter-purged p a day sound none is =
    let f = facts_of p.rows a.ask in
    let known = first-passes (is_repeat f a) (has_no_seat f a) _ _ _ none in
    let other = no-opening a.ask f.entry a.day day (is_repeat f a) is in
    head-purged p.rows.head day (last_after p.rows.head (edit.Purge day) a.day)
    (head-there p.rows.head p.rows.seats p.rows.entries a.caller a.ask sound.headed known other)

-- a purged matter stays as it is
pub purged-keeps : (p : Dossier) (step : Doing) → is_purged p.rows.head ≡ true
    → is_purged (dossier_after_step p step).rows.head ≡ true
purged-keeps p (AnAsk a) purged =
    subst (λ (rows : Rows). is_purged rows.head ≡ true) (sym (purged-stays p.rows (AnAsk a) purged)) purged
purged-keeps p (ALine l today) purged =
    subst (λ (rows : Rows). is_purged rows.head ≡ true) (sym (purged-stays p.rows (ALine l today) purged)) purged

-- and has no entries
no-entries : (holder : Holder) (closed : Option ℕ) (last : ℕ) (seats : List Seat) (es : List Entry)
    → IsBare holder closed last seats es → is_of_nobody holder ≡ true → es ≡ []
no-entries (holder.Client c) closed last seats es bare nobody = absurd (false≢true nobody)
no-entries (holder.Purged day) closed last seats es bare nobody = bare.1.1.1

pub purged-bare : (h : Option Head) (seats : List Seat) (es : List Entry) → IsBareIfPurged h seats es
    → is_purged h ≡ true → es ≡ []
purged-bare None seats es bare purged = absurd (false≢true purged)
purged-bare (Some h) seats es bare purged = no-entries h.holder h.closed h.last seats es bare purged
