-- Each step of a matter keeps its acts fitting its rows.
use Rattle.std.proofs.Common.{◌≡◌, ◌⊎◌, inl, inr, ℕ, Bool, true, false, List, [], ◌∷◌, ◌++◌, Option, Some, None, refl, sym, ap, ◌∙◌, subst, append-nil}
use Rattle.std.proofs.lemmas.Bool.{false≢true}
use Rattle.std.proofs.lemmas.List.{append_cancel_left}
use Rattle.std.specs.List.{AllByRecursion}
use Rattle.std.specs.Option.{option_map}
use Rattle.std.specs.Prelude.{flat_map, fold, is_some, option_to_list}
use Rattle.trust_base.specs.declared.refusal.Refusal.{Refusal}
use Rattle.matter_rows.specs.Rows.{Rows, entry_at, is_gone}
use Rattle.matter_rows.specs.declared.act.Act.{Act}
use Rattle.matter_rows.specs.declared.act.Deed.{Deed}
use Rattle.matter_rows.specs.declared.act.Deed.TheVariants as deed
use Rattle.matter_rows.specs.declared.entry.Entry.{Entry}
use Rattle.matter_rows.specs.declared.entry.Entry.TheVariants as entry
use Rattle.matter_rows.specs.declared.payment.PaymentState.{PaymentState}
use Rattle.matter_rows.specs.declared.payment.PaymentState.TheVariants as payment
use Rattle.matter_rows.specs.declared.seat.Seat.{Seat}
use Rattle.matter_parts.specs.declared.edit.Edit.{Edit}
use Rattle.matter_parts.specs.declared.edit.Edit.TheVariants as edit
use Rattle.trust_matter.specs.Acts.{act_by, deed_of, done_by}
use Rattle.trust_matter.specs.Facts.{Asked, entry_named}
use Rattle.trust_matter.specs.Laws.{Doing, AnAsk, ALine}
use Rattle.trust_matter.specs.Step.{edit_on, refusal}
use Rattle.trust_matter.specs.declared.ask.Ask.{Ask}
use Rattle.trust_matter.specs.declared.ask.Ask.TheVariants as ask
use Rattle.firm_rows.proofs.Ordered.{all-append, all-map}
use Rattle.trail_laws.specs.Dossier.{Dossier, acts_after, dossier_after_step}
use Rattle.trail_laws.specs.Replayed.{asked_by, clients_in, of_entry, of_found, own_by_deed}
use Rattle.trail_laws.specs.Signed.{AreAllowed, Beginning, IsSigned, days_of_approval, days_of_issue, issue_days, seats_by}
use Rattle.trail_laws.proofs.AskedAgain.{ask-is}
use Rattle.trail_laws.proofs.ShownAgain.{line-is}
use Rattle.trail_laws.proofs.Told.{Grown, Keeps, StaysAt, StepIs}
use Rattle.firm_audit.specs.Trails.{AreOfEntries, IsApprovedAs, IsOfEntry, MayBeAllowed}
use Rattle.desk_trail.proofs.KeptRuns.{StepsKeep}

-- The act that a step adds.

nothing-added : (acts : List Act) (act : Act) → acts ≡ acts ++ act ∷ [] → ⊥
nothing-added acts act is =
    let none : [] ≡ act ∷ [] = append_cancel_left acts [] (act ∷ []) (append-nil acts ∙ is) in
    absurd (cc)

never-empty : (acts : List Act) (act : Act) → [] ≡ acts ++ act ∷ [] → ⊥
never-empty [] act is = cc
never-empty (a ∷ acts) act is = cc

-- what is done by an ask is done to the entry that it names
done-names : (a : Asked) (act : Act) (o : Option Deed) → option_to_list (option_map (done_by a) o) ≡ act ∷ []
    → act.entry ≡ entry_named a.ask
done-names a act None is = absurd (cc)
done-names a act (Some d) is =
    let same : done_by a d ≡ act = cc in
    sym (ap (λ (done : Act). done.entry) same)

added-names : (acts : List Act) (a : Asked) (act : Act) (r : Option Refusal) (e : Edit)
    → acts_after r e (act_by e a) acts ≡ acts ++ act ∷ [] → act.entry ≡ entry_named a.ask
added-names acts a act (Some r) e is = absurd (nothing-added acts act is)
added-names acts a act None edit.Nothing is = absurd (nothing-added acts act is)
added-names acts a act None (edit.Purge day) is = absurd (never-empty acts act is)
added-names acts a act None e is =
    done-names a act (deed_of a.ask) (append_cancel_left acts (option_to_list (act_by e a)) (act ∷ []) is)

-- what an ask adds that names no entry is of none
unnamed : (p after : Dossier) (act : Act) (q : Ask) (doing : Doing) → entry_named q ≡ None
    → asked_by act q ∷ [] ≡ doing ∷ [] → dossier_after_step p doing ≡ after → after.acts ≡ p.acts ++ act ∷ []
    → IsOfEntry after.rows.entries act.entry
unnamed p after act q doing named told again added =
    let a : Asked = record { caller = act.caller; ask = q; day = act.day } in
    let same : AnAsk a ≡ doing = cc in
    let acts = ap (λ (d : Doing). (dossier_after_step p d).acts) same ∙ (ap (λ (d : Dossier). d.acts) again ∙ added) in
    let none = added-names p.acts a act (refusal p.rows a) (edit_on p.rows a) acts ∙ named in
    subst (IsOfEntry after.rows.entries) (sym none) tt

-- an entry of which the rows tell is there
told-there : (made : ℕ → Entry → List Doing) (rows : Rows) (o : Option ℕ) (doing : Doing)
    → of_entry made rows o ≡ doing ∷ [] → IsOfEntry rows.entries o
told-there made rows None doing told = tt
told-there made rows (Some n) doing told = cases (entry_at rows.entries n) told
  where
    cases : (o : Option Entry) → of_found made n o ≡ doing ∷ [] → is_some o ≡ true
    cases None told = absurd (cc)
    cases (Some e) told = refl

act-there : (m : ℕ) (p after : Dossier) (act : Act) (d : Deed) (doing : Doing)
    → own_by_deed m after.rows act d ≡ doing ∷ [] → dossier_after_step p doing ≡ after
    → after.acts ≡ p.acts ++ act ∷ [] → IsOfEntry after.rows.entries act.entry
act-there m p after act (deed.Opened lawyer) doing told again added = cases (clients_in after.rows.head) told
  where
    opens : List ℕ → Ask
    opens client = ask.OpenMatter (record { client = client; lawyer = lawyer })

    cases : (clients : List (List ℕ)) → flat_map (λ client. asked_by act (opens client) ∷ []) clients ≡ doing ∷ []
        → IsOfEntry after.rows.entries act.entry
    cases [] told = absurd (cc)
    cases (client ∷ clients) told =
        let first : asked_by act (opens client) ∷ [] ≡ doing ∷ [] = cc in
        unnamed p after act (opens client) doing refl first again added
act-there m p after act (deed.Seated seat) doing told again added =
    unnamed p after act (ask.AddSeat seat) doing refl told again added
act-there m p after act (deed.Unseated person) doing told again added =
    unnamed p after act (ask.DropSeat person) doing refl told again added
act-there m p after act deed.Closed doing told again added =
    unnamed p after act ask.CloseMatter doing refl told again added
act-there m p after act d doing told again added = told-there _ after.rows act.entry doing told

-- The acts that are there.

-- an entry that is there stays, but behind a purge
entry-stays : (rows later : Rows) (o : Option ℕ) → Keeps rows later → IsOfEntry rows.entries o
    → IsOfEntry later.entries o
entry-stays rows later None keeps there = tt
entry-stays rows later (Some n) keeps there =
    stays (entry_at rows.entries n) (entry_at later.entries n) (keeps.entries n) there
  where
    stays : (old new : Option Entry) → StaysAt old new → is_some old ≡ true → is_some new ≡ true
    stays None new still some = absurd (false≢true some)
    stays (Some old) None still some = absurd still
    stays (Some old) (Some new) still some = refl

-- a matter that is gone has no acts, and each act of an entry is of one that is there
pub record AreFitting (p : Dossier) : Type 0 where
  pub gone : is_gone p.rows.head ≡ true → p.acts ≡ []
  pub there : AreOfEntries p

abbrev OfEntries : Dossier → List Act → Type 0
OfEntries p acts = AllByRecursion (λ (act : Act). IsOfEntry p.rows.entries act.entry) acts

grown-fits : (m : ℕ) (p after : Dossier) → Grown m p after → AreFitting p → AreFitting after
grown-fits m p after grown fits =
    let was : Act → Type 0 = λ act. IsOfEntry p.rows.entries act.entry in
    let is : Act → Type 0 = λ act. IsOfEntry after.rows.entries act.entry in
    let stays : (act : Act) → was act → is act =
    λ act there. entry-stays p.rows after.rows act.entry grown.keeps there in
    let before = all-map was is p.acts stays fits.there in
    let new = act-there m p after grown.act grown.act.deed grown.doing grown.told grown.again grown.acts in
    record {
      gone = λ gone. absurd (false≢true (sym grown.there ∙ gone));
      there = subst (OfEntries after) (sym grown.acts) (all-append is p.acts (grown.act ∷ []) before (new, tt));
    }

pub none-fit : (p : Dossier) → p.acts ≡ [] → AreFitting p
none-fit p none = record { gone = λ gone. none; there = subst (OfEntries p) (sym none) tt }

step-fits : (m : ℕ) (p after : Dossier) → StepIs m p after → AreFitting p → AreFitting after
step-fits m p after (inl same) fits = subst AreFitting (sym same) fits
step-fits m p after (inr (inl grown)) fits = grown-fits m p after grown fits
step-fits m p after (inr (inr none)) fits = none-fit after none.0

pub steps-fit : StepsKeep AreFitting
steps-fit p (AnAsk a) sound fits = step-fits 0 p (dossier_after_step p (AnAsk a)) (ask-is 0 p a sound) fits
steps-fit p (ALine l today) sound fits = step-fits 0 p (dossier_after_step p (ALine l today)) (line-is 0 p l today) fits

-- The approvals.

abbrev pub AtMostOne : List ℕ → Type 0
AtMostOne [] = Unit {0}
AtMostOne (day ∷ days) = days ≡ []

-- a payment is issued once
issued-once : (s : PaymentState) → AtMostOne (issue_days s)
issued-once payment.Proposed = tt
issued-once (payment.Issued day) = refl
issued-once (payment.Cleared c) = refl
issued-once (payment.Voided v) = refl
issued-once payment.Declined = tt

pub entry-once : (o : Option Entry) → AtMostOne (days_of_issue o)
entry-once None = tt
entry-once (Some (entry.Deposit d)) = tt
entry-once (Some (entry.Payment p)) = issued-once p.state
entry-once (Some (entry.Fee f)) = tt
entry-once (Some (entry.Claim c)) = tt

none-behind : (before days : List ℕ) → before ++ days ≡ [] → days ≡ []
none-behind [] days is = is
none-behind (day ∷ before) days is = absurd (cc)

-- of one day all is behind, or nothing
pub all-or-none : (before days : List ℕ) → AtMostOne (before ++ days) → (days ≡ []) ⊎ (days ≡ before ++ days)
all-or-none [] days one = inr refl
all-or-none (day ∷ before) days one = inl (none-behind before days one)

-- in a signed dossier an entry's approvals are those of its issue, or it was issued before and has none
pub signed-later : (b : Beginning) (p : Dossier) (n : ℕ) → IsSigned b p
    → IsApprovedAs false (days_of_approval n p.acts) (days_of_issue (entry_at p.rows.entries n))
signed-later b p n s = cases (all-or-none (b.issued n) (days_of_approval n p.acts) one)
  where
    one : AtMostOne (b.issued n ++ days_of_approval n p.acts)
    one = subst AtMostOne (sym (s.issued n)) (entry-once (entry_at p.rows.entries n))

    cases : (days_of_approval n p.acts ≡ []) ⊎ (days_of_approval n p.acts ≡ b.issued n ++ days_of_approval n p.acts)
        → IsApprovedAs false (days_of_approval n p.acts) (days_of_issue (entry_at p.rows.entries n))
    cases (inl none) = inl none
    cases (inr all) = inr (all ∙ s.issued n)

-- what was allowed with the seats of its moment was allowed with some
pub may-be-allowed : (seats : List Seat) (acts : List Act) → AreAllowed seats acts → AllByRecursion MayBeAllowed acts
may-be-allowed seats [] are = tt
may-be-allowed seats (act ∷ acts) are = ((seats, are.0), may-be-allowed (seats_by seats act) acts are.1)
