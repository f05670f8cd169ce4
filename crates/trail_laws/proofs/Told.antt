-- What a matter's rows say of an act, they say ever after, until a purge.
use Rattle.trail_laws.proofs.Names.{Act, AllByRecursion, Bool, Deed, Doing, Dossier, Edit, Entry, Head, List, None, Option, Rows, Some, [], ap, arith, changed_by, cond, dossier_after_step, entry_at, entry_at-with, eqb, false, nat_tests, refl, subst, sym, true, with_entry, ℕ, ◌++◌, ◌∙◌, ◌∷◌, ◌≡◌}
use Rattle.std.specs.Prelude.{flat_map, ◌-◌, ◌⊎◌}
use Rattle.matter_parts.specs.Changes.{head_after}
use Rattle.matter_parts.specs.declared.edit.Edit.TheVariants as edit
use Rattle.matter_rows.specs.declared.act.Deed.TheVariants as deed
use Rattle.matter_rows.specs.Rows.{closed_head, is_gone, purged_head, seen_on}
use Rattle.trust_matter.specs.declared.ask.Ask.TheVariants as ask
use Rattle.trail_laws.specs.Replayed.{IsTold, asked_by, cleared_by, clients_in, making, of_entry, of_found, own_by, own_by_deed, returned_by, settled_parts, shown_by}
use Rattle.trail_laws.specs.Signed.{is_opened_by}

-- what is there stays as it is
abbrev pub Stays : {T : Type 0} → List T → List T → Type 0
Stays [] later = Unit {0}
Stays (x ∷ xs) later = later ≡ x ∷ xs

stays-same : {T : Type 0} (xs later : List T) → later ≡ xs → Stays xs later
stays-same [] later same = tt
stays-same (x ∷ xs) later same = same

stays-each : {T U : Type 0} (f : T → List U) (xs later : List T) → Stays xs later
    → Stays (flat_map f xs) (flat_map f later)
stays-each f [] later stays = tt
stays-each f (x ∷ xs) later stays = stays-same (flat_map f (x ∷ xs)) (flat_map f later) (ap (flat_map f) stays)

stays-one : {T : Type 0} (xs later : List T) (x : T) → xs ≡ x ∷ [] → Stays xs later → later ≡ x ∷ []
stays-one [] later x is stays = absurd (cc)
stays-one (y ∷ ys) later x is stays = stays ∙ is

-- the entry says what made it, cleared it, took it back and settled it as before
pub record SaysStill (old new : Entry) : Type 0 where
  pub made : (n : ℕ) → making n new ≡ making n old
  pub cleared : Stays (cleared_by old) (cleared_by new)
  pub returned : Stays (returned_by old) (returned_by new)
  pub parts : Stays (settled_parts old) (settled_parts new)

says-same : (e : Entry) → SaysStill e e
says-same e = record {
  made = λ n. refl;
  cleared = stays-same (cleared_by e) (cleared_by e) refl;
  returned = stays-same (returned_by e) (returned_by e) refl;
  parts = stays-same (settled_parts e) (settled_parts e) refl;
}

abbrev pub StaysAt : Option Entry → Option Entry → Type 0
StaysAt None later = Unit {0}
StaysAt (Some old) None = ⊥
StaysAt (Some old) (Some new) = SaysStill old new

-- the rows name the client, and each entry says what it said
pub record Keeps (rows later : Rows) : Type 0 where
  pub clients : Stays (clients_in rows.head) (clients_in later.head)
  pub entries : (n : ℕ) → StaysAt (entry_at rows.entries n) (entry_at later.entries n)

-- What is said of an act.

abbrev SaysOf : Type 0
SaysOf = ℕ → Entry → List Doing

of-found : (made : SaysOf) → ((n : ℕ) (old new : Entry) → SaysStill old new → Stays (made n old) (made n new))
    → (n : ℕ) (o later : Option Entry) → StaysAt o later → Stays (of_found made n o) (of_found made n later)
of-found made stays n None later still = tt
of-found made stays n (Some old) None still = absurd still
of-found made stays n (Some old) (Some new) still = stays n old new still

of-entry : (made : SaysOf) → ((n : ℕ) (old new : Entry) → SaysStill old new → Stays (made n old) (made n new))
    → (rows later : Rows) → Keeps rows later → (o : Option ℕ) → Stays (of_entry made rows o) (of_entry made later o)
of-entry made stays rows later keeps None = tt
of-entry made stays rows later keeps (Some n) =
    of-found made stays n (entry_at rows.entries n) (entry_at later.entries n) (keeps.entries n)

-- an entry that is there says so
of-there : (made : ℕ → List Doing) (rows later : Rows) → Keeps rows later → (o : Option ℕ)
    → Stays (of_entry (λ n e. made n) rows o) (of_entry (λ n e. made n) later o)
of-there made rows later keeps o =
    of-entry (λ n e. made n) (λ n old new still. stays-same (made n) (made n) refl) rows later keeps o

-- what an entry says, if it does
abbrev part-says : {T : Type 0} → (Entry → List T) → (ℕ → T → Doing) → SaysOf
part-says parts says n e = flat_map (λ x. says n x ∷ []) (parts e)

of-parts : {T : Type 0} (parts : Entry → List T) (says : ℕ → T → Doing)
    → ((old new : Entry) → SaysStill old new → Stays (parts old) (parts new)) → (rows later : Rows) → Keeps rows later
    → (o : Option ℕ)
    → Stays (of_entry (part-says parts says) rows o) (of_entry (part-says parts says) later o)
of-parts parts says stays rows later keeps o =
    of-entry (part-says parts says)
    (λ n old new still. stays-each (λ x. says n x ∷ []) (parts old) (parts new) (stays old new still))
    rows later keeps o

own-stays : (m : ℕ) (rows later : Rows) (act : Act) (d : Deed) → Keeps rows later
    → Stays (own_by_deed m rows act d) (own_by_deed m later act d)
own-stays m rows later act (deed.Opened lawyer) keeps =
    stays-each (λ client. asked_by act (ask.OpenMatter (record { client = client; lawyer = lawyer })) ∷ [])
    (clients_in rows.head) (clients_in later.head) keeps.clients
own-stays m rows later act (deed.Seated seat) keeps = refl
own-stays m rows later act (deed.Unseated person) keeps = refl
own-stays m rows later act deed.Closed keeps = refl
own-stays m rows later act deed.Cleared keeps =
    of-parts cleared_by (λ n s. shown_by m n act s) (λ old new still. still.cleared) rows later keeps act.entry
own-stays m rows later act deed.Returned keeps =
    of-parts returned_by (λ n s. shown_by m n act s) (λ old new still. still.returned) rows later keeps act.entry
own-stays m rows later act deed.Accepted keeps =
    of-parts settled_parts (λ n part. asked_by act (ask.Accept (record { number = n; to_client = part })))
    (λ old new still. still.parts) rows later keeps act.entry
own-stays m rows later act deed.Awarded keeps =
    of-parts settled_parts (λ n part. asked_by act (ask.Award (record { number = n; to_client = part })))
    (λ old new still. still.parts) rows later keeps act.entry
own-stays m rows later act deed.Cancelled keeps =
    of-there (λ n. asked_by act (ask.CancelDeposit n) ∷ []) rows later keeps act.entry
own-stays m rows later act deed.Approved keeps =
    of-there (λ n. asked_by act (ask.Approve n) ∷ []) rows later keeps act.entry
own-stays m rows later act deed.Declined keeps =
    of-there (λ n. asked_by act (ask.Decline n) ∷ []) rows later keeps act.entry
own-stays m rows later act deed.Withdrawn keeps =
    of-there (λ n. asked_by act (ask.Withdraw n) ∷ []) rows later keeps act.entry
own-stays m rows later act deed.Voided keeps =
    of-there (λ n. asked_by act (ask.VoidPayment n) ∷ []) rows later keeps act.entry
own-stays m rows later act (deed.Offered part) keeps =
    of-there (λ n. asked_by act (ask.Offer (record { number = n; to_client = part })) ∷ []) rows later keeps act.entry
own-stays m rows later act d keeps =
    of-entry (λ n e. asked_by act (making n e) ∷ [])
    (λ n old new still. ap (λ q. asked_by act q ∷ []) (still.made n)) rows later keeps act.entry

-- what was said of acts is said of them
pub record SaysAgain (m : ℕ) (rows later : Rows) (acts : List Act) : Type 0 where
  pub told : AllByRecursion (IsTold m later) acts
  pub same : flat_map (own_by m later) acts ≡ flat_map (own_by m rows) acts

pub says-again : (m : ℕ) (rows later : Rows) (acts : List Act) → Keeps rows later → AllByRecursion (IsTold m rows) acts
    → SaysAgain m rows later acts
says-again m rows later [] keeps told = record { told = tt; same = refl }
says-again m rows later (act ∷ acts) keeps told =
    let doing = told.0.0 in
    let stays = own-stays m rows later act act.deed keeps in
    let is = stays-one (own_by m rows act) (own_by m later act) doing told.0.1 stays in
    let rest = says-again m rows later acts keeps told.1 in
    record {
      told = ((doing, is), rest.told);
      same =
          ap (λ xs. xs ++ flat_map (own_by m later) acts) (is ∙ sym told.0.1)
          ∙ ap (λ xs. own_by m rows act ++ xs) rest.same;
    }

-- Edits.

-- the client is named, and an exchanged entry says what it said
abbrev pub KeepsIn : Rows → Edit → Type 0
KeepsIn rows (edit.Open o) = rows.head ≡ None
KeepsIn rows (edit.Exchange x) =
    (old : Entry) × (entry_at rows.entries x.number ≡ Some old) × SaysStill old x.entry
KeepsIn rows (edit.Purge day) = ⊥
KeepsIn rows _ = Unit {0}

seen-clients : (h : Option Head) (last : ℕ) → Stays (clients_in h) (clients_in (seen_on h last))
seen-clients None last = tt
seen-clients (Some h) last = stays-same (clients_in (Some h)) (clients_in (seen_on (Some h) last)) refl

closed-clients : (h : Option Head) (day last : ℕ) → Stays (clients_in h) (clients_in (closed_head h day last))
closed-clients None day last = tt
closed-clients (Some h) day last = stays-same (clients_in (Some h)) (clients_in (closed_head (Some h) day last)) refl

stays-at : (o : Option Entry) → StaysAt o o
stays-at None = tt
stays-at (Some e) = says-same e

stays-either : (b : Bool) (e : Entry) (o later : Option Entry) → StaysAt o later
    → StaysAt (cond b (Some e) o) (cond b (Some e) later)
stays-either true e o later stays = says-same e
stays-either false e o later stays = stays

stays-added : (es : List Entry) (x : Entry) (n : ℕ) → StaysAt (entry_at es n) (entry_at (es ++ x ∷ []) n)
stays-added [] x n = tt
stays-added (e ∷ es) x n = stays-either (eqb n 1) e (entry_at es (n - 1)) _ (stays-added es x (n - 1))

stays-with : (es : List Entry) (k : ℕ) (old new : Entry) (n : ℕ) → entry_at es k ≡ Some old → SaysStill old new
    → StaysAt (entry_at es n) (entry_at (with_entry es k new) n)
stays-with es k old new n at still =
    subst (StaysAt (entry_at es n)) (sym (entry_at-with es k old new n at)) (cases (eqb n k) refl)
  where
    cases : (b : Bool) → eqb n k ≡ b → StaysAt (entry_at es n) (cond b (Some new) (entry_at es n))
    cases true is =
        let there : entry_at es n ≡ Some old = grind (arith, nat_tests) in
        subst (λ (o : Option Entry). StaysAt o (Some new)) (sym there) still
    cases false is = stays-at (entry_at es n)

pub edit-keeps : (rows : Rows) (e : Edit) (last : ℕ) → KeepsIn rows e → Keeps rows (changed_by e last rows)
edit-keeps rows (edit.Open o) last in_place = record {
  clients = subst (λ (h : Option Head). Stays (clients_in h) (clients_in (Some o.head))) (sym in_place) tt;
  entries = λ n. stays-at (entry_at rows.entries n);
}
edit-keeps rows (edit.Purge day) last in_place = absurd in_place
edit-keeps rows (edit.Append x) last in_place = record {
  clients = seen-clients rows.head last;
  entries = λ n. stays-added rows.entries x.entry n;
}
edit-keeps rows (edit.Exchange x) last in_place = record {
  clients = seen-clients rows.head last;
  entries = λ n. stays-with rows.entries x.number in_place.0 x.entry n in_place.1 in_place.2;
}
edit-keeps rows (edit.Close day) last in_place = record {
  clients = closed-clients rows.head day last;
  entries = λ n. stays-at (entry_at rows.entries n);
}
edit-keeps rows edit.Nothing last in_place = record {
  clients = stays-same (clients_in rows.head) (clients_in rows.head) refl;
  entries = λ n. stays-at (entry_at rows.entries n);
}
edit-keeps rows (edit.Seat s) last in_place = record {
  clients = seen-clients rows.head last;
  entries = λ n. stays-at (entry_at rows.entries n);
}
edit-keeps rows (edit.Unseat p) last in_place = record {
  clients = seen-clients rows.head last;
  entries = λ n. stays-at (entry_at rows.entries n);
}

-- a matter that is there stays so until it is purged
seen-there : (h : Option Head) (last : ℕ) → is_gone (seen_on h last) ≡ is_gone h
seen-there None last = refl
seen-there (Some h) last = refl

closed-there : (h : Option Head) (day last : ℕ) → is_gone (closed_head h day last) ≡ is_gone h
closed-there None day last = refl
closed-there (Some h) day last = refl

pub purged-gone : (h : Option Head) (day last : ℕ) → is_gone (purged_head h day last) ≡ true
purged-gone None day last = refl
purged-gone (Some h) day last = refl

abbrev pub IsLater : Edit → Type 0
IsLater (edit.Open o) = ⊥
IsLater (edit.Purge day) = ⊥
IsLater _ = Unit {0}

pub there-stays : (h : Option Head) (e : Edit) (last : ℕ) → IsLater e → is_gone h ≡ false
    → is_gone (head_after h e last) ≡ false
there-stays h (edit.Open o) last later there = absurd later
there-stays h (edit.Purge day) last later there = absurd later
there-stays h (edit.Close day) last later there = closed-there h day last ∙ there
there-stays h edit.Nothing last later there = there
there-stays h e last later there = seen-there h last ∙ there

-- One act more.

-- the step adds an act, of which the new rows say one doing: what made the step
pub record Grown (m : ℕ) (p after : Dossier) : Type 0 where
  pub act : Act
  pub doing : Doing
  pub acts : after.acts ≡ p.acts ++ act ∷ []
  pub told : own_by m after.rows act ≡ doing ∷ []
  pub again : dossier_after_step p doing ≡ after
  pub keeps : Keeps p.rows after.rows
  pub fresh : is_opened_by act.deed ≡ true → p.rows.head ≡ None
  pub before : (is_gone p.rows.head ≡ false) ⊎ (is_opened_by act.deed ≡ true)
  pub there : is_gone after.rows.head ≡ false

-- a step changes nothing, adds an act, or leaves none of a matter that is gone
abbrev pub StepIs : ℕ → Dossier → Dossier → Type 0
StepIs m p after = (after ≡ p) ⊎ (Grown m p after ⊎ ((after.acts ≡ []) × (is_gone after.rows.head ≡ true)))
