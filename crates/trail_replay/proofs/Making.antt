-- What a change that was made says of the step.
use Rattle.std.proofs.Common.{inl, inr, ℕ, ◌⊎◌, Bool, None, Option, Some, [], ap, arith, false, refl, subst, sym, true, ◌∙◌, ◌≡◌, ◌∷◌}
use Rattle.std.proofs.lemmas.Bool.Decides.{nat_tests}
use Rattle.std.proofs.lemmas.Int.{ints}
use Rattle.std.specs.Option.{option_map}
use Rattle.std.specs.Prelude.{IfOk, Result, Ok, Err, if◌then◌else◌, option_to_list}
use Rattle.matter_rows.specs.declared.act.Act.{Act}
use Rattle.matter_rows.specs.declared.entry.Entry.{Entry}
use Rattle.matter_rows.specs.Rows.{Rows}
use Rattle.matter_rows.specs.Sound.{Sound}
use Rattle.matter_parts.specs.Audit.{rows_kept}
use Rattle.matter_parts.specs.Changes.{IsChange, MatterChange, acts_by, changed, changed_by}
use Rattle.matter_parts.specs.Parts.{IsWhole, Part, entry_in, kept_at}
use Rattle.matter_parts.specs.declared.edit.Edit.{Edit}
use Rattle.matter_parts.specs.declared.edit.Edit.TheVariants as edit
use Rattle.trust_base.specs.declared.refusal.Refusal.{Refusal}
use Rattle.trust_base.specs.declared.refusal.Refusal.TheVariants as refusals
use Rattle.trust_matter.specs.declared.ask.Ask.{Ask}
use Rattle.trust_matter.specs.declared.ask.Ask.TheVariants as ask
use Rattle.trust_matter.specs.Acts.{act_by, deed_of, done_by}
use Rattle.trust_matter.specs.Conditions.{is_purging, is_repeat}
use Rattle.trust_matter.specs.Facts.{Asked, facts_of, number_named, other_of}
use Rattle.trust_matter.specs.KeptFacts.{holds_for}
use Rattle.trust_matter.specs.Laws.{ALine, AnAsk}
use Rattle.trust_matter.specs.KeptFacts.{holds_for_line}
use Rattle.trust_base.specs.declared.refusal.StoreFault.{StoreFault}
use Rattle.trust_matter.specs.declared.line_verdict.LineVerdict.{LineVerdict}
use Rattle.trust_matter.specs.LineStep.{IsLineDecided, LineDecides, after_line_effect, line_act, line_on, rows_after_line}
use Rattle.trust_matter.specs.declared.bank_line.BankLine.{BankLine}
use Rattle.trust_matter.specs.declared.line_verdict.LineEffect.{LineEffect}
use Rattle.matter_rows.specs.Rows.{entry_at}
use Rattle.matter_rows.specs.Shares.{target_in}
use Rattle.matter_parts.proofs.AllKept.{whole-all}
use Rattle.std.proofs.Common.{◌≤◌}
use Rattle.trust_base.specs.Limits.{IsEntryNo}
use Rattle.trail_laws.specs.Dossier.{acts_after_line}
use Rattle.trust_matter.specs.Step.{IsDecided, MayRefuse, act_on, after, edit_of, edit_on, refusal, rows_after}
use Rattle.trail_laws.specs.Dossier.{acts_after}
use Rattle.trail_replay.proofs.Telling.{whole-holds}
use Rattle.trail_replay.specs.Telling.{Adds, IsGood, IsMadeAs, IsTaken}

whole-rows : (m : Part) (rows : Rows) → IsWhole m rows → rows_kept m ≡ rows
whole-rows m rows whole =
    λ i. record { head = whole.part.head i; seats = whole.part.seats i; entries = whole.entries i }

pub made-as : (old new : Part) (c : MatterChange) (act : Act) (is : Bool) → is ≡ true → c.act ≡ Some act
    → IsChange (rows_kept old) c → IsWhole new (changed c (rows_kept old)) → IsMadeAs old c act is new
made-as old new c act is so remembered change whole =
    let same = whole-rows new (changed c (rows_kept old)) whole in
    let good : IsGood new =
    record { sound = subst Sound (sym same) change.sound; whole = subst (IsWhole new) (sym same) whole } in
    subst (λ (b : Bool). IsMadeAs old c act b new) (sym so) (remembered, (good, same))

pub holds-ask : (m : Part) (q : Ask) → IsGood m → holds_for m q ≡ true
holds-ask m q good =
    let first = whole-holds m (rows_kept m) (number_named q) good.whole in
    let second = whole-holds m (rows_kept m) (other_of q (entry_in (kept_at m (number_named q)))) good.whole in
    grind (arith, nat_tests, first, second)

-- which asks purge
abbrev IsNoPurge : Edit → Type 0
IsNoPurge (edit.Purge day) = ⊥
IsNoPurge _ = Unit {0}

one-same : (a b : Act) → a ∷ [] ≡ b ∷ [] → a ≡ b
one-same a b is = cc

listed : (o : Option Act) (act : Act) → option_to_list o ≡ act ∷ [] → o ≡ Some act
listed None act is = absurd (cc)
listed (Some a) act is = ap Some (one-same a act is)

-- an edit adds this act to none exactly if it is remembered by it
edit-adds : (e : Edit) (o : Option Act) (act : Act) → acts_by e o [] ≡ act ∷ [] → o ≡ Some act
edit-adds edit.Nothing o act is = absurd (cc)
edit-adds (edit.Purge day) o act is = absurd (cc)
edit-adds (edit.Open x) o act is = listed o act is
edit-adds (edit.Seat x) o act is = listed o act is
edit-adds (edit.Unseat x) o act is = listed o act is
edit-adds (edit.Close x) o act is = listed o act is
edit-adds (edit.Append x) o act is = listed o act is
edit-adds (edit.Exchange x) o act is = listed o act is

pub not-added : (rows : Rows) (a : Asked) (c : MatterChange) (act : Act) → IsDecided rows a c → ¬ (c.act ≡ Some act)
    → ¬ Adds rows (AnAsk a) act
not-added rows a c act d not_it adds =
    let P : Option Refusal → Type 0 = λ r. acts_after r (edit_on rows a) (act_on rows a) [] ≡ act ∷ [] in
    not_it (d.act ∙ edit-adds (edit_on rows a) (act_on rows a) act (subst P d.accepted adds))

refused-all : (o : Option Refusal) (r : Refusal) (e : Edit) (x : Option Act) (act : Act) → o ≡ Some r
    → ¬ (acts_after o e x [] ≡ act ∷ [])
refused-all o r e x act is adds =
    let P : Option Refusal → Type 0 = λ r. acts_after r e x [] ≡ act ∷ [] in
    let never : [] ≡ act ∷ [] = subst P is adds in absurd (cc)

-- an edit that is remembered by this act adds it, if it is no purge
added-by : (e : Edit) (o : Option Act) (act : Act) → IsNoPurge e → (e ≡ edit.Nothing → o ≡ None) → o ≡ Some act
    → acts_by e o [] ≡ act ∷ []
added-by edit.Nothing o act stays none is =
    let never : None ≡ Some act = sym (none refl) ∙ is in absurd (cc)
added-by (edit.Purge day) o act stays none is = absurd stays
added-by (edit.Open x) o act stays none is = ap option_to_list is
added-by (edit.Seat x) o act stays none is = ap option_to_list is
added-by (edit.Unseat x) o act stays none is = ap option_to_list is
added-by (edit.Close x) o act stays none is = ap option_to_list is
added-by (edit.Append x) o act stays none is = ap option_to_list is
added-by (edit.Exchange x) o act stays none is = ap option_to_list is

-- a purge is asked for, and has no deed
purges-none : (q : Ask) (o : Option Entry) (day : ℕ) (e : Edit) → edit_of q o day ≡ e → (deed_of q ≡ None) ⊎ IsNoPurge e
purges-none ask.Purge o day e is = inl refl
purges-none q o day e is = inr (subst IsNoPurge is (no-purge q o day refl))
  where
    no-purge : (q : Ask) (o : Option Entry) (day : ℕ) → is_purging q ≡ false → IsNoPurge (edit_of q o day)
    no-purge q o day stays = grind (arith, ints, nat_tests)

none-of-deed : (e : Edit) (a : Asked) → deed_of a.ask ≡ None → act_by e a ≡ None
none-of-deed edit.Nothing a none = refl
none-of-deed (edit.Purge x) a none = ap (option_map (done_by a)) none
none-of-deed (edit.Open x) a none = ap (option_map (done_by a)) none
none-of-deed (edit.Seat x) a none = ap (option_map (done_by a)) none
none-of-deed (edit.Unseat x) a none = ap (option_map (done_by a)) none
none-of-deed (edit.Close x) a none = ap (option_map (done_by a)) none
none-of-deed (edit.Append x) a none = ap (option_map (done_by a)) none
none-of-deed (edit.Exchange x) a none = ap (option_map (done_by a)) none

either-none : (e : Edit) (a : Asked) → (deed_of a.ask ≡ None) ⊎ IsNoPurge e → (act_by e a ≡ None) ⊎ IsNoPurge e
either-none e a (inl none) = inl (none-of-deed e a none)
either-none e a (inr stays) = inr stays

stays-if : (a : Asked) (o : Option Entry) (again : Bool)
    → (act_by (if again then edit.Nothing else edit_of a.ask o a.day) a ≡ None)
    ⊎ IsNoPurge (if again then edit.Nothing else edit_of a.ask o a.day)
stays-if a o true = inr tt
stays-if a o false =
    either-none (edit_of a.ask o a.day) a (purges-none a.ask o a.day (edit_of a.ask o a.day) refl)

stays-or-none : (rows : Rows) (a : Asked) → (act_on rows a ≡ None) ⊎ IsNoPurge (edit_on rows a)
stays-or-none rows a = stays-if a (facts_of rows a.ask).entry (is_repeat (facts_of rows a.ask) a)

nothing-none : (e : Edit) (a : Asked) → e ≡ edit.Nothing → act_by e a ≡ None
nothing-none e a is = ap (λ x. act_by x a) is

added : (rows : Rows) (a : Asked) (act : Act) → act_on rows a ≡ Some act
    → acts_by (edit_on rows a) (act_on rows a) [] ≡ act ∷ []
added rows a act is = cases (stays-or-none rows a)
  where
    cases : (act_on rows a ≡ None) ⊎ IsNoPurge (edit_on rows a) → acts_by (edit_on rows a) (act_on rows a) [] ≡ act ∷ []
    cases (inl none) = let never : None ≡ Some act = sym none ∙ is in absurd (cc)
    cases (inr stays) =
        added-by (edit_on rows a) (act_on rows a) act stays (nothing-none (edit_on rows a) a) is

pub taken-ask : (old new : Part) (a : Asked) (c : MatterChange) (act : Act) (is : Bool) → IsDecided (rows_kept old) a c
    → IsMadeAs old c act is new → IsTaken old (AnAsk a) act is new
taken-ask old new a c act false d made = not-added (rows_kept old) a c act d made
taken-ask old new a c act true d made =
    let rows = rows_kept old in
    let P : Option Refusal → Type 0 = λ r. acts_after r (edit_on rows a) (act_on rows a) [] ≡ act ∷ [] in
    let Q : Option Refusal → Type 0 = λ r. changed c rows ≡ after r (edit_on rows a) a.day rows in
    let adds : Adds rows (AnAsk a) act = subst P (sym d.accepted) (added rows a act (sym d.act ∙ made.0)) in
    let same : changed c rows ≡ rows_after rows a =
    subst Q (sym d.accepted) (λ i. changed_by (d.edit i) (d.last i) rows) in
    (adds, (made.1.0, made.1.1 ∙ same))

pub taken-not : (old new : Part) (a : Asked) (act : Act) (r : Refusal) → MayRefuse (refusal (rows_kept old) a) r
    → ¬ (r ≡ refusals.Memory) → IsTaken old (AnAsk a) act false new
taken-not old new a act refusals.Memory may not_it = absurd (not_it refl)
taken-not old new a act refusals.Store may not_it = absurd may
taken-not old new a act r may not_it =
    refused-all (refusal (rows_kept old) a) r (edit_on (rows_kept old) a) (act_on (rows_kept old) a) act may

pub if-ok : {A E : Type 0} (P Q : A → Type 0) (r : Result A E) → ((x : A) → P x → Q x) → IfOk r P → IfOk r Q
if-ok P Q (Ok x) onward is = onward x is
if-ok P Q (Err e) onward is = tt

-- Lines.

pub entry-low : (m n : ℕ) → m ≡ n → IsEntryNo m → 1 ≤ n
entry-low m n same is = grind (arith)

pub holds-line : (m : Part) (n : ℕ) → 1 ≤ n → IsGood m → holds_for_line m n ≡ true
holds-line m n low good =
    let first = whole-all m (rows_kept m) good.whole n low in
    let second = whole-holds m (rows_kept m) (target_in (entry_in (kept_at m n))) good.whole in
    grind (arith, nat_tests, first, second)

some-same : (a b : Act) → Some a ≡ Some b → a ≡ b
some-same a b is = cc

pub taken-line : (old new : Part) (l : BankLine) (today : ℕ) (c : MatterChange) (act : Act) (is : Bool)
    → IsLineDecided (rows_kept old) l today c → IsMadeAs old c act is new → IsTaken old (ALine l today) act is new
taken-line old new l today c act false d made =
    λ adds.
    let rows = rows_kept old in
    let done = line_act (entry_at rows.entries l.entry) l today in
    let P : LineEffect → Type 0 = λ v. acts_after_line v done [] ≡ act ∷ [] in
    made (d.act ∙ ap Some (one-same done act (subst P d.applied adds)))
taken-line old new l today c act true d made =
    let rows = rows_kept old in
    let done = line_act (entry_at rows.entries l.entry) l today in
    let P : LineEffect → Type 0 = λ v. acts_after_line v done [] ≡ act ∷ [] in
    let Q : LineEffect → Type 0 = λ v. changed c rows ≡ after_line_effect v rows in
    let is_it : done ≡ act = some-same done act (sym d.act ∙ made.0) in
    let adds : Adds rows (ALine l today) act = subst P (sym d.applied) (ap (λ (a : Act). a ∷ []) is_it) in
    let same : changed c rows ≡ rows_after_line rows l today = subst Q (sym d.applied) refl in
    (adds, (made.1.0, made.1.1 ∙ same))

pub missed-line : (old new : Part) (l : BankLine) (today : ℕ) (act : Act) (v : LineEffect)
    → line_on (rows_kept old) l today ≡ v → acts_after_line v (line_act (entry_at (rows_kept old).entries l.entry) l today) [] ≡ []
    → IsTaken old (ALine l today) act false new
missed-line old new l today act v is none =
    λ adds.
    let done = line_act (entry_at (rows_kept old).entries l.entry) l today in
    let P : LineEffect → Type 0 = λ v. acts_after_line v done [] ≡ act ∷ [] in
    let never : [] ≡ act ∷ [] = sym none ∙ subst P is adds in absurd (cc)

pub decides-same : (rows : Rows) (l : BankLine) (today : ℕ) (r s : Result LineVerdict StoreFault) → r ≡ s
    → LineDecides rows l today r → LineDecides rows l today s
decides-same rows l today r s same d = subst (LineDecides rows l today) same d
