-- Nothing changes a purged matter, and so what was accepted or applied before changes nothing when it comes again.
use Rattle.matter_laws.proofs.Names.{ALine, AnAsk, AskRepeat, AskUnchanged, Asked, BankLine, Bool, DatedEdit, Doing, Edit, Facts, Head, IsApplied, IsSameLine, LineRepeat, LineUnchanged, List, None, Option, PurgedStays, Reason, Refusal, Rows, Some, StubIsSound, [], after, after_doing, after_line_effect, all_after, closed_on, cond, dated_by, edit_on, entry_at, facts_of, false, false≢true, first, first_reason, inl, inr, is_gone, is_line_again, is_purged, is_repeat, is_some, last_of, line_facts, line_on, matched, number_made, reasons, refl, refusal, refusal_of, rows_after, rows_after_line, sym, true, ℕ, ⊎_elim, ◌∙◌, ◌∷◌, ◌≡◌, arith, ints, nat_tests, stub_rows}
use Rattle.trust_matter.specs.declared.line_verdict.LineEffect.TheVariants as told
use Rattle.matter_laws.proofs.Repeats.{IsSpent, Leaves, LeavesOrGoes, same-leaves, further, doing-leaves, is-spent}
use Rattle.trust_matter.proofs.StepForms.{rows-purge}
use Rattle.matter_laws.proofs.LineRepeats.{IsLineSpent, applied-now, again-same, line-spent}

-- A purged matter.

second-holds : (b s g : Bool) (x z : Refusal) (ns ms : List (Bool × Refusal)) → g ≡ true → is_some (first (cond b ((s, x) ∷ (g, z) ∷ ns) ((s, x) ∷ (g, z) ∷ ms))) ≡ true
second-holds b s g x z ns ms is = grind (arith, ints, nat_tests)

pub refused : (f : Facts) (a : Asked) → is_purged f.head ≡ true → is_some (refusal_of f a) ≡ true
refused f a is = second-holds (is_repeat f a) _ (is_purged f.head) _ _ _ _ is

after-refused : (r : Option Refusal) (e : Edit) (day : ℕ) (rows : Rows) → is_some r ≡ true → after r e day rows ≡ rows
after-refused r e day rows is = grind (arith, ints, nat_tests)

gone : (o : Option Head) → is_purged o ≡ true → is_gone o ≡ true
gone o is = grind (arith, ints, nat_tests)

-- the reasons behind the second
abbrev behind : List (Bool × Reason) → List (Bool × Reason)
behind (c ∷ d ∷ cs) = cs
behind cs = cs

-- they are not looked at where the second holds
not-applied : (b s : Bool) (x z : Reason) (rest : Option Reason) (e : DatedEdit) (rows : Rows)
    → (after_line_effect (cond b told.Repeat (matched (cond s (Some x) (cond true (Some z) rest)) e)) rows
    ≡ rows) × (IsApplied (cond b told.Repeat (matched (cond s (Some x) (cond true (Some z) rest)) e)) → ⊥)
not-applied b s x z rest e rows = grind (arith, ints, nat_tests)

-- no line does anything to a purged matter
purged-line : (rows : Rows) (l : BankLine) (today : ℕ) → is_purged rows.head ≡ true
    → (rows_after_line rows l today ≡ rows) × (IsApplied (line_on rows l today) → ⊥)
purged-line rows l today is =
    let f = line_facts rows l today in
    rw (gone rows.head is) (not-applied (is_line_again f.entry f.line) _ _ _ (first_reason (behind (reasons f)))
    (dated_by f) rows)

pub purged-stays : PurgedStays
purged-stays rows (AnAsk a) is = after-refused (refusal rows a) (edit_on rows a) a.day rows (refused (facts_of rows a.ask) a is)
purged-stays rows (ALine l today) is = (purged-line rows l today is).0

-- no line is applied to a purged matter
pub purged-unapplied : (rows : Rows) (l : BankLine) (today : ℕ) → is_purged rows.head ≡ true → IsApplied (line_on rows l today) → ⊥
purged-unapplied rows l today is = (purged-line rows l today is).1

purged-later : (rows : Rows) (more : List Doing) → is_purged rows.head ≡ true → is_purged (all_after rows more).head ≡ true
purged-later rows [] is = is
purged-later rows (d ∷ more) is = purged-later (after_doing rows d) more (rw (purged-stays rows d is) is)

-- all that comes to a matter leaves what was made and cleared, unless it purges the matter
all-leaves : (rows : Rows) (between : List Doing) → LeavesOrGoes rows (all_after rows between)
all-leaves rows [] = inl (same-leaves rows rows refl)
all-leaves rows (d ∷ more) =
    let next = after_doing rows d in
    let end = all_after next more in
    ⊎_elim
    (λ (g : Leaves rows next). ⊎_elim (λ (h : Leaves next end). inl (further rows next end g h))
    (λ (gone : is_purged end.head ≡ true). inr gone) (all-leaves next more))
    (λ (gone : is_purged next.head ≡ true). inr (purged-later next more gone))
    (doing-leaves rows d)

-- Asks.

module _ (rows : Rows) (a again : Asked) (between : List Doing) (makes : is_some (number_made a.ask) ≡ true)
    (none : refusal rows a ≡ None) (same : again.ask ≡ a.ask) where
  abbrev later : Rows
  later = all_after (rows_after rows a) between

  -- what is so of a matter in which the ask is spent, and of one that was purged, is so
  spent-or-gone : (P : Type 0) → (IsSpent later again → P) → (is_purged later.head ≡ true → P) → P
  spent-or-gone P spent gone =
      ⊎_elim (λ (g : Leaves (rows_after rows a) later). spent (is-spent rows later a again makes same none g.grows))
      gone (all-leaves (rows_after rows a) between)

pub ask-unchanged : AskUnchanged
ask-unchanged rows a again between makes none same =
    let then = all_after (rows_after rows a) between in
    spent-or-gone rows a again between makes none same (rows_after then again ≡ then) (λ s. s.unchanged)
    (purged-stays then (AnAsk again))

pub ask-repeat : AskRepeat
ask-repeat rows a again between makes none same kept =
    let then = all_after (rows_after rows a) between in
    spent-or-gone rows a again between makes none same (is_repeat (facts_of then again.ask) again ≡ true)
    (λ s. s.repeat) (λ is. absurd (false≢true (sym kept ∙ is)))

-- Lines.

module _ (rows : Rows) (l again : BankLine) (today later : ℕ) (between : List Doing) (applied : IsApplied (line_on rows l today)) (same : IsSameLine l again) where
  abbrev then : Rows
  then = all_after (rows_after_line rows l today) between

  line-there : Leaves (rows_after_line rows l today) then → IsLineSpent then again later
  line-there s =
      let there = s.cleared l.line l.entry (applied-now rows l today (line_on rows l today) refl applied) in
      grind (arith, ints, nat_tests, line-spent, then, later, again-same, entry_at)

  line-or-gone : (P : Type 0) → (IsLineSpent then again later → P) → (is_purged then.head ≡ true → P) → P
  line-or-gone x0 spent gone = grind (arith, ints, nat_tests, rows_after_line, then, line-there, all-leaves)

pub line-unchanged : LineUnchanged
line-unchanged rows l again today later between applied same =
    let then = all_after (rows_after_line rows l today) between in
    line-or-gone rows l again today later between applied same (rows_after_line then again later ≡ then)
    (λ s. s.unchanged) (purged-stays then (ALine again later))

pub line-repeat : LineRepeat
line-repeat rows l again today later between applied same kept =
    let then = all_after (rows_after_line rows l today) between in
    line-or-gone rows l again today later between applied same (line_on then again later ≡ told.Repeat) (λ s. s.repeat)
    (λ is. absurd (false≢true (sym kept ∙ is)))

-- The stub.

pub stub-is-sound : StubIsSound
stub-is-sound day rows sound closed le = grind (arith, ints, nat_tests, closed_on, last_of, stub_rows, rows-purge)
