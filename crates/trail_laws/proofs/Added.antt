-- Which steps add an act.
use Rattle.trail_laws.proofs.Names.{Act, Ask, Asked, Bool, Caller, Deed, Edit, Entry, IsApplied, LineEffect, List, None, Option, Dossier, Refusal, Some, [], act_by, acts_after, acts_after_line, after, after_line_effect, ap, arith, asked, claim-changes, cond, deed_of, done_by, edit_of, edit_on, entry_at, facts_of, false, false≢true, ints, is_changing, is_missing_for, is_of_another_kind_for, is_purging, is_repeat, is_some, option_to_list, line_act, line_on, nat_tests, number_named, option_map, passes, refl, refusal, subst, sym, true, ℕ, ◌++◌, ◌∷◌, ◌≡◌}
use Rattle.matter_parts.specs.declared.edit.Edit.TheVariants as edit
use Rattle.trust_matter.specs.declared.ask.Ask.TheVariants as ask
use Rattle.trust_matter.specs.declared.line_verdict.LineEffect.TheVariants as told
use Rattle.trail_laws.specs.Added.{RefusalAddsNone, RepeatAddsNone, ReadingAddsNone, PurgeLeavesNone, IsOneMore, AskAddsOne, LineAddsNone, LineAddsOne}

-- what an ask leaves, by its refusal and its edit
abbrev pub dossier-by : Dossier → Asked → Option Refusal → Edit → Dossier
dossier-by p a r e = record { rows = after r e a.day p.rows; acts = acts_after r e (act_by e a) p.acts }

refused-none : (p : Dossier) (a : Asked) (r : Option Refusal) (e : Edit) → is_some r ≡ true → dossier-by p a r e ≡ p
refused-none p a None e is = absurd (false≢true is)
refused-none p a (Some r) e is = refl

pub refusal-adds-none : RefusalAddsNone
refusal-adds-none p a is = refused-none p a (refusal p.rows a) (edit_on p.rows a) is

nothing-none : (p : Dossier) (a : Asked) (r : Option Refusal) → dossier-by p a r edit.Nothing ≡ p
nothing-none p a None = refl
nothing-none p a (Some r) = refl

repeat-edit : (b : Bool) (e : Edit) → b ≡ true → cond b edit.Nothing e ≡ edit.Nothing
repeat-edit true e is = refl
repeat-edit false e is = absurd (false≢true is)

reading-edit : (b : Bool) (q : Ask) (o : Option Entry) (day : ℕ) → is_changing q ≡ false → cond b edit.Nothing (edit_of q o day) ≡ edit.Nothing
reading-edit true q o day is = refl
reading-edit false q o day is = grind (arith, ints, nat_tests, claim-changes)

pub repeat-adds-none : RepeatAddsNone
repeat-adds-none p a is =
    let P : Edit → Type 0 = λ e. dossier-by p a (refusal p.rows a) e ≡ p in
    subst P (sym (repeat-edit (is_repeat (facts_of p.rows a.ask) a) (edit_of a.ask (entry_at p.rows.entries (number_named a.ask)) a.day) is)) (nothing-none p a (refusal p.rows a))

pub reading-adds-none : ReadingAddsNone
reading-adds-none p a is =
    let P : Edit → Type 0 = λ e. dossier-by p a (refusal p.rows a) e ≡ p in
    subst P (sym (reading-edit (is_repeat (facts_of p.rows a.ask) a) a.ask (entry_at p.rows.entries (number_named a.ask)) a.day is)) (nothing-none p a (refusal p.rows a))

purged-none : (p : Dossier) (c : Caller) (q : Ask) (day : ℕ) (r : Option Refusal) → r ≡ None → is_purging q ≡ true → (dossier-by p (asked c q day) r (edit_on p.rows (asked c q day))).acts ≡ []
purged-none p c q day (Some r) none is = absurd (cc)
purged-none p c ask.Purge day None none is = refl
purged-none p c q day None none is = absurd (false≢true is)

pub purge-leaves-none : PurgeLeavesNone
purge-leaves-none p a none is = purged-none p a.caller a.ask a.day (refusal p.rows a) none is

-- the edit changes something, and leaves the acts
abbrev IsMade : Edit → Type 0
IsMade edit.Nothing = ⊥
IsMade (edit.Purge day) = ⊥
IsMade _ = Unit {0}

-- an ask that finds its entry of the kind that it is about makes such an edit
is-made : (q : Ask) (o other : Option Entry) (day : ℕ) → is_missing_for q o other ≡ false
    → is_of_another_kind_for q o other ≡ false → is_changing q ≡ true → is_purging q ≡ false → IsMade (edit_of q o day)
is-made q o other day there kind changing stays = grind (arith, ints, nat_tests)

has-deed : (q : Ask) → is_changing q ≡ true → is_purging q ≡ false → is_some (deed_of q) ≡ true
has-deed q changing stays = grind (arith, ints, nat_tests)

one-more : (acts : List Act) (a : Asked) (e : Edit) (o : Option Deed) → deed_of a.ask ≡ o → is_some o ≡ true → IsMade e → IsOneMore acts a (acts_after None e (act_by e a) acts)
one-more acts a e None is some made = absurd (false≢true some)
one-more acts a edit.Nothing (Some d) is some made = absurd made
one-more acts a (edit.Purge day) (Some d) is some made = absurd made
one-more acts a e (Some d) is some made = record {
  act = done_by a d;
  added = ap (λ (o : Option Deed). acts ++ option_to_list (option_map (done_by a) o)) is;
  caller = refl;
  day = refl;
  entry = refl;
  deed = is;
}

accepted-one : (p : Dossier) (a : Asked) (r : Option Refusal) (b : Bool) → r ≡ None → b ≡ false → IsMade (edit_of a.ask (entry_at p.rows.entries (number_named a.ask)) a.day) → is_some (deed_of a.ask) ≡ true → IsOneMore p.acts a (dossier-by p a r (cond b edit.Nothing (edit_of a.ask (entry_at p.rows.entries (number_named a.ask)) a.day))).acts
accepted-one p a (Some r) b none new made some = absurd (cc)
accepted-one p a None true none new made some = absurd (false≢true (sym new))
accepted-one p a None false none new made some = one-more p.acts a (edit_of a.ask (entry_at p.rows.entries (number_named a.ask)) a.day) (deed_of a.ask) refl some made

pub ask-adds-one : AskAddsOne
ask-adds-one p a none changing stays new =
    let f = facts_of p.rows a.ask in
    let passed = passes f a (rw new at none) in
    accepted-one p a (refusal p.rows a) (is_repeat f a) none new (is-made a.ask f.entry f.other a.day passed.there passed.kind changing stays) (has-deed a.ask changing stays)

-- Lines.

abbrev pub dossier-by-line : Dossier → Act → LineEffect → Dossier
dossier-by-line p act e = record { rows = after_line_effect e p.rows; acts = acts_after_line e act p.acts }

line-none : (p : Dossier) (act : Act) (e : LineEffect) → (IsApplied e → ⊥) → dossier-by-line p act e ≡ p
line-none p act (told.Applied d) none = absurd (none tt)
line-none p act told.Repeat none = refl
line-none p act (told.Unmatched r) none = refl

pub line-adds-none : LineAddsNone
line-adds-none p l today none =
    line-none p (line_act (entry_at p.rows.entries l.entry) l today) (line_on p.rows l today) none

line-one : (p : Dossier) (act : Act) (e : LineEffect) → IsApplied e → (dossier-by-line p act e).acts ≡ p.acts ++ act ∷ []
line-one p act (told.Applied d) is = refl
line-one p act told.Repeat is = absurd is
line-one p act (told.Unmatched r) is = absurd is

pub line-adds-one : LineAddsOne
line-adds-one p l today is = line-one p (line_act (entry_at p.rows.entries l.entry) l today) (line_on p.rows l today) is
