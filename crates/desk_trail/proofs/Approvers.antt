-- Each listed payment names the caller of its one act of approval.
use Rattle.std.proofs.Common.{◌≡◌, inl, ℕ, Bool, true, false, cond, ◌&&◌, ◌==◌, List, [], ◌∷◌, ◌++◌, map, filter, fold, Option, Some, None, refl, sym, ap, ◌∙◌, arith}
use Rattle.std.proofs.lemmas.Bool.Decides.{nat_tests}
use Rattle.std.proofs.lemmas.List.Sums.{fold-append}
use Rattle.matter_rows.specs.declared.act.Act.{Act}
use Rattle.matter_rows.specs.declared.act.Caller.{Caller}
use Rattle.matter_rows.specs.declared.seat.Seat.{Seat}
use Rattle.matter_rows.specs.Rows.{entry_at, is_number}
use Rattle.trail_laws.specs.Signed.{IsApprovedOnce, approves, beginning_of, days_of_approval, days_of_issue}
use Rattle.firm_rows.specs.declared.matter_act.MatterAct.{MatterAct}
use Rattle.firm_rows.proofs.Kept.{empty-sound}
use Rattle.firm_rows.specs.Firm.{Firm, acts_of, empty_firm, of}
use Rattle.firm_periods.specs.Approvals.{approves_in}
use Rattle.firm_periods.specs.declared.approvals_sink.IssuedPayment.{IssuedPayment}
use Rattle.trust_desk.specs.Acts.{dossier_of}
use Rattle.desk_trail.proofs.KeptRuns.{days-keep, days-sound}
use Rattle.desk_trail.proofs.ListedPayments.{IsOfEntry, of-entry}
use Rattle.desk_trail.proofs.SignedRuns.{issued-since, later-payments_are_approved, older-firms_are_signed, payments-are_approved, steps-signed}
use Rattle.desk_trail.specs.Approvers.{ApproversAreNamed, EarlierApproversAreUnknown, IsApproverNamed, LaterApproversAreNamed}
use Rattle.desk_trail.specs.SignedRuns.{IsSignedSince}

-- Who approved, by a matter's own acts.

abbrev teller : ℕ → Option Caller → Act → Option Caller
teller n who act = cond (approves n act) (Some act.caller) who

abbrev told : ℕ → Option Caller → List Act → Option Caller
told n who acts = fold (teller n) who acts

abbrev told_in : ℕ → ℕ → Option Caller → List MatterAct → Option Caller
told_in m n who acts = fold (λ w (a : MatterAct). cond (approves_in m n a) (Some a.act.caller) w) who acts

abbrev own_acts : ℕ → List MatterAct → List Act
own_acts m acts = map (λ (a : MatterAct). a.act) (filter (λ (a : MatterAct). a.matter == m) acts)

with-true : (b : Bool) → (b && true) ≡ b
with-true b = grind arith

with-false : (b : Bool) → (b && false) ≡ false
with-false b = grind arith

own-told : (m n : ℕ) (who : Option Caller) (acts : List MatterAct) → told_in m n who acts ≡ told n who (own_acts m acts)
own-told m n who [] = refl
own-told m n who (a ∷ acts) = cases (a.matter == m) (λ w. own-told m n w acts)
  where
    cases : (c : Bool) → ((w : Option Caller) → told_in m n w acts ≡ told n w (own_acts m acts)) → told_in m n (cond (approves n a.act && c) (Some a.act.caller) who) acts ≡ told n who (map (λ (x : MatterAct). x.act) (cond c (a ∷ filter (λ (x : MatterAct). x.matter == m) acts) (filter (λ (x : MatterAct). x.matter == m) acts)))
    cases true more = ap (λ b. told_in m n (cond b (Some a.act.caller) who) acts) (with-true (approves n a.act)) ∙ more (teller n who a.act)
    cases false more = ap (λ b. told_in m n (cond b (Some a.act.caller) who) acts) (with-false (approves n a.act)) ∙ more who

-- acts that approve nothing of the entry tell nothing
silent-told : (n : ℕ) (who : Option Caller) (acts : List Act) → days_of_approval n acts ≡ [] → told n who acts ≡ who
silent-told n who [] none = refl
silent-told n who (act ∷ acts) none = cases (approves n act) none (silent-told n who acts)
  where
    cases : (b : Bool) → map (λ (x : Act). x.day) (cond b (act ∷ filter (approves n) acts) (filter (approves n) acts)) ≡ [] → (days_of_approval n acts ≡ [] → told n who acts ≡ who) → told n (cond b (Some act.caller) who) acts ≡ who
    cases true some more = absurd (cc)
    cases false none more = more none

-- The one act.

once-told : (seats : List Seat) (n day : ℕ) (acts : List Act) (once : IsApprovedOnce seats n day acts) → told n None acts ≡ Some once.act.caller
once-told seats n day acts once =
    ap (told n None) once.among
    ∙ (fold-append (teller n) None once.before (once.act ∷ once.behind)
    ∙ (ap (λ b. told n (cond b (Some once.act.caller) (told n None once.before)) once.behind) approved
    ∙ silent-told n (Some once.act.caller) once.behind once.none_behind))
  where
    itself : is_number (Some n) n ≡ true
    itself = grind (arith, nat_tests)

    approved : approves n once.act ≡ true
    approved = (λ i. once.is i && is_number (once.entry i) n) ∙ itself

pub approver-named : (seats : List Seat) (firm : Firm) (v : IssuedPayment) → IsOfEntry firm v → IsApprovedOnce seats v.number v.issued (acts_of v.matter firm) → IsApproverNamed seats firm v
approver-named seats firm v line once = record {
  approved = once;
  named = line.approver ∙ (own-told v.matter v.number None firm.acts ∙ once-told seats v.number v.issued (acts_of v.matter firm) once);
}

none-told : (v : IssuedPayment) (day : ℕ) (before acts : List ℕ) → before ≡ day ∷ [] → before ++ acts ≡ v.issued ∷ [] → acts ≡ []
none-told v day before acts one all =
    let both : day ∷ acts ≡ v.issued ∷ [] = ap (λ (days : List ℕ). days ++ acts) (sym one) ∙ all in cc

approver-unknown : (firm : Firm) (v : IssuedPayment) → IsOfEntry firm v → days_of_approval v.number (acts_of v.matter firm) ≡ [] → v.approver ≡ None
approver-unknown firm v line none =
    line.approver ∙ (own-told v.matter v.number None firm.acts ∙ silent-told v.number None (acts_of v.matter firm) none)

-- The books.

pub approvers-are_named : ApproversAreNamed
approvers-are_named firm runs s v run there =
    let line = of-entry s firm v (days-sound empty_firm firm runs empty-sound run) there in
    approver-named [] firm v line (payments-are_approved firm runs v.matter v.number v.issued run line.issued)

pub later-approvers_are_named : LaterApproversAreNamed
later-approvers_are_named first firm runs s v sound none run before there =
    let line = of-entry s firm v (days-sound first firm runs sound run) there in
    approver-named (of v.matter first).seats firm v line
    (later-payments_are_approved first firm runs v.matter v.number v.issued sound none run before line.issued)

pub earlier-approvers_are_unknown : EarlierApproversAreUnknown
earlier-approvers_are_unknown first firm runs s v day sound none run before there =
    let after = days-sound first firm runs sound run in
    let line = of-entry s firm v after there in
    let older = inl (older-firms_are_signed v.matter first none) in
    let b = beginning_of (of v.matter first) in
    let since = days-keep (IsSignedSince b) (steps-signed b) v.matter first firm runs sound run older in
    let signed = issued-since b (dossier_of v.matter firm) v.number v.issued (after.matters v.matter) since line.issued in
    approver-unknown firm v line
    (none-told v day (days_of_issue (entry_at (of v.matter first).entries v.number))
    (days_of_approval v.number (acts_of v.matter firm)) before (signed.issued v.number ∙ line.issued))
