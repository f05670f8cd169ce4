-- Each run keeps each matter's dossier signed, and so each payment that was issued has its approval.
use Rattle.std.proofs.Common.{◌≡◌, inl, inr, ℕ, List, [], ◌∷◌, Option, Some, None, refl, sym, ap, ◌∙◌, subst}
use Rattle.trust_base.specs.declared.refusal.Refusal.{Refusal}
use Rattle.matter_rows.specs.declared.act.Act.{Act}
use Rattle.matter_rows.specs.Rows.{entry_at}
use Rattle.matter_rows.specs.Sound.{Sound}
use Rattle.matter_parts.specs.declared.edit.Edit.{Edit}
use Rattle.matter_parts.specs.declared.edit.Edit.TheVariants as edit
use Rattle.trust_matter.specs.Facts.{Asked}
use Rattle.trust_matter.specs.Laws.{Doing, AnAsk, ALine}
use Rattle.trust_matter.specs.Step.{edit_on, refusal}
use Rattle.firm_rows.proofs.Kept.{empty-sound}
use Rattle.firm_rows.specs.Firm.{Firm, empty_firm, of}
use Rattle.trail_laws.proofs.Added.{dossier-by}
use Rattle.trail_laws.specs.Dossier.{Dossier, dossier_after_step}
use Rattle.trail_laws.specs.Signed.{Beginning, IsSigned, beginning_of, begun_after, days_of_issue, nothing_before}
use Rattle.trail_laws.proofs.Approved.{issues-are_approved}
use Rattle.trail_laws.proofs.Growing.{signed-bare}
use Rattle.trail_laws.proofs.Signed.{no-acts_are_signed, steps-keep_signed}
use Rattle.trust_desk.specs.Acts.{dossier_of}
use Rattle.desk_laws.specs.OnceOnly.{DayRun}
use Rattle.desk_trail.proofs.KeptRuns.{StepsKeep, days-keep, days-sound, runs-keep}
use Rattle.desk_trail.proofs.Purged.{matter-purged, purged-bare, purged-keeps}
use Rattle.desk_trail.specs.SignedRuns.{ActsAreAllowed, IsSignedSince, LaterPaymentsAreApproved, OlderFirmsAreSigned, PaymentsAreApproved, RunsSoundlyOn, RunsStaySigned}

-- A step.

-- a purge is where the acts begin anew
begun : (p : Dossier) (a : Asked) (b : Beginning) (o : Option Refusal) (e : Edit) → Sound p.rows
    → refusal p.rows a ≡ o → edit_on p.rows a ≡ e
    → IsSigned (begun_after o e b) (dossier-by p a o e)
    → IsSignedSince b (dossier-by p a o e)
begun p a b (Some r) e sound none is s = inl s
begun p a b None (edit.Purge day) sound none is s =
    inr (record { purged = matter-purged p a day sound none is; signed = s })
begun p a b None e sound none is s = inl s

pub either : (p : Dossier) → IsSignedSince nothing_before p → IsSigned nothing_before p
either p (inl s) = s
either p (inr s) = s.signed

one-signed : (b : Beginning) (p : Dossier) (step : Doing) → Sound p.rows → IsSigned b p
    → IsSignedSince b (dossier_after_step p step)
one-signed b p (AnAsk a) sound s =
    begun p a b (refusal p.rows a) (edit_on p.rows a) sound refl refl (steps-keep_signed b p (AnAsk a) sound s)
one-signed b p (ALine l today) sound s = inl (steps-keep_signed b p (ALine l today) sound s)

-- what is signed from nothing stays so
pub signed-again : (p : Dossier) (step : Doing) → Sound p.rows → IsSigned nothing_before p
    → IsSigned nothing_before (dossier_after_step p step)
signed-again p step sound s = either (dossier_after_step p step) (one-signed nothing_before p step sound s)

pub steps-signed : (b : Beginning) → StepsKeep (IsSignedSince b)
steps-signed b p step sound (inl s) = one-signed b p step sound s
steps-signed b p step sound (inr s) =
    inr (record { purged = purged-keeps p step s.purged; signed = signed-again p step sound s.signed })

-- a matter that has a payment was not purged
pub issued-since : (b : Beginning) (p : Dossier) (n day : ℕ) → Sound p.rows → IsSignedSince b p
    → days_of_issue (entry_at p.rows.entries n) ≡ day ∷ [] → IsSigned b p
issued-since b p n day sound (inl s) issued = s
issued-since b p n day sound (inr s) issued =
    let none = purged-bare p.rows.head p.rows.seats p.rows.entries sound.bare s.purged in
    let never : [] ≡ day ∷ [] = sym (ap (λ es. days_of_issue (entry_at es n)) none) ∙ issued in absurd (cc)

pub runs-stay_signed : RunsStaySigned
runs-stay_signed m day b firm new hs replies sound run s =
    runs-keep (IsSignedSince b) (steps-signed b) m day firm new hs replies sound run s

-- A book that was empty.

pub empty-signed : (m : ℕ) → IsSigned nothing_before (dossier_of m empty_firm)
empty-signed m = signed-bare (dossier_of m empty_firm) (record { acts = refl; seats = refl; entries = refl })

matters-signed : (firm : Firm) (runs : List DayRun) (m : ℕ) → RunsSoundlyOn empty_firm runs firm
    → IsSigned nothing_before (dossier_of m firm)
matters-signed firm runs m run =
    let b = nothing_before in
    let first = inl (empty-signed m) in
    either (dossier_of m firm)
    (days-keep (IsSignedSince b) (steps-signed b) m empty_firm firm runs empty-sound run first)

pub acts-are_allowed : ActsAreAllowed
acts-are_allowed firm runs m run =
    let s = matters-signed firm runs m run in
    record { allowed = s.allowed; left = s.seats }

pub payments-are_approved : PaymentsAreApproved
payments-are_approved firm runs m n day run issued =
    issues-are_approved nothing_before (dossier_of m firm) n day (matters-signed firm runs m run) refl issued

-- A book that is older than its acts.

pub older-firms_are_signed : OlderFirmsAreSigned
older-firms_are_signed m firm none =
    subst (λ (acts : List Act). IsSigned (beginning_of (of m firm)) (record { rows = of m firm; acts = acts })) (sym none)
    (no-acts_are_signed (of m firm))

pub later-payments_are_approved : LaterPaymentsAreApproved
later-payments_are_approved first firm runs m n day sound none run before issued =
    let b = beginning_of (of m first) in
    let older = inl (older-firms_are_signed m first none) in
    let since = days-keep (IsSignedSince b) (steps-signed b) m first firm runs sound run older in
    let after = days-sound first firm runs sound run in
    let signed = issued-since b (dossier_of m firm) n day (after.matters m) since issued in
    issues-are_approved b (dossier_of m firm) n day signed before issued
