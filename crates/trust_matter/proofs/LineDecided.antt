-- What is decided of a line on what is kept is decided on the rows.
use Rattle.trust_matter.proofs.Names.{AreSmallTotals, BankLine, DatedEdit, EditMoved, Entry, Head, IsApplied, IsLineDecided, IsMade, IsPart, LineEffect, LineFacts, MatterChange, None, Option, Part, Reason, Rows, Some, Sound, TotalsAfter, ap, arith, common_steps, dated_by, entry_at, entry_in, false, first_reason, held-entry, holds_for_line, is_held, is_held_or_none, is_line_again, kept_at, kept_line_facts, line_effect, line_on, never-store, reasons, refl, subst, sym, target_in, true, ℕ, ℤ, ◌∙◌, ◌≡◌}
use Rattle.trust_matter.specs.LineStep.{line_act}
use Rattle.trust_matter.specs.declared.line_verdict.LineEffect.TheVariants as told
use Rattle.trust_matter.proofs.LineSteps.{applied-step}
use Rattle.trust_matter.proofs.Parts.{both, made-is}

-- what becomes of the line, by what is kept
abbrev kept_edit : Part → BankLine → ℕ → LineEffect
kept_edit m l today = line_effect (kept_line_facts m l today)

-- the number is held, or is none
held-or-none : (m : Part) (l : BankLine) → holds_for_line m l.entry ≡ true → is_held_or_none m l.entry ≡ true
held-or-none m l h = grind (arith, common_steps, both, is_held, target_in)

-- the entry by what is kept is that of the rows
entry-same : (m : Part) (rows : Rows) (l : BankLine) → holds_for_line m l.entry ≡ true → IsPart m rows → entry_in (kept_at m l.entry) ≡ entry_at rows.entries l.entry
entry-same m rows l h p = (held-entry m.kept m.figures.entries l.entry rows.entries p.kept p.figures.entries (held-or-none m l h)).0

abbrev facts-of : Option Head → BankLine → ℕ → Option Entry → ℤ → LineFacts
facts-of head l today e a = record { head = head; number = l.entry; entry = e; available = a; line = l.line; today = today }

-- what becomes of the line by what is kept is what becomes of it by the rows
line-same : (m : Part) (rows : Rows) (l : BankLine) (today : ℕ) → holds_for_line m l.entry ≡ true → IsPart m rows
    → kept_edit m l today ≡ line_on rows l today
line-same m rows l today h p = grind (arith, line_effect, entry-same)

-- the change made of an applied line is one of the rows
pub line-made : (m : Part) (l : BankLine) (today : ℕ) (d : DatedEdit) (c : MatterChange) (e : Entry)
    → holds_for_line m l.entry ≡ true → told.Applied d ≡ kept_edit m l today → IsMade m d.edit d.last c
    → entry_in (kept_at m l.entry) ≡ Some e → c.act ≡ Some (line_act (Some e) l today) → (rows : Rows) → Sound rows
    → IsPart m rows → IsLineDecided rows l today c
line-made m l today d c e h is made there has rows s p =
    let on-rows : line_on rows l today ≡ told.Applied d = sym (is ∙ line-same m rows l today h p) in
    record {
      applied = on-rows ∙ rw (made.of_edit, made.on_day) refl;
      change =
          made-is m rows (target_in (entry_at rows.entries l.entry)) l.entry d.last d.edit c p s
          (applied-step rows l today d s on-rows) made;
      act = has ∙ ap (λ (o : Option Entry). Some (line_act o l today)) (sym there ∙ entry-same m rows l h p);
    }

-- and there is such a change
pub line-no-store : (m : Part) (l : BankLine) (today : ℕ) (d : DatedEdit) → holds_for_line m l.entry ≡ true → told.Applied d ≡ kept_edit m l today → ((v : TotalsAfter) → AreSmallTotals v → EditMoved m d.edit v → ⊥) → (rows : Rows) → Sound rows → IsPart m rows → ⊥
line-no-store m l today d h is none rows s p =
    let on-rows : line_on rows l today ≡ told.Applied d = sym (is ∙ line-same m rows l today h p) in
    let target =
    rw (entry-same m rows l h p) at (both (is_held m l.entry)
    (is_held_or_none m (target_in (entry_in (kept_at m l.entry)))) h).1 in
    never-store m rows (target_in (entry_at rows.entries l.entry)) l.entry d.edit s.backed p (applied-step rows l today d s on-rows).may target (held-or-none m l h) none

-- a line that comes again is a repeat
pub repeat-by : (m : Part) (l : BankLine) (today : ℕ) → holds_for_line m l.entry ≡ true
    → is_line_again (entry_in (kept_at m l.entry)) l.line ≡ true → (rows : Rows) → Sound rows → IsPart m rows
    → line_on rows l today ≡ told.Repeat
repeat-by m l today h again rows s p = sym (line-same m rows l today h p) ∙ rw again refl

-- a line that is no repeat is told the first reason
pub unmatched-by : (m : Part) (l : BankLine) (today : ℕ) (r : Reason) → holds_for_line m l.entry ≡ true
    → is_line_again (entry_in (kept_at m l.entry)) l.line ≡ false
    → first_reason (reasons (kept_line_facts m l today)) ≡ Some r → (rows : Rows) → Sound rows → IsPart m rows
    → line_on rows l today ≡ told.Unmatched r
unmatched-by m l today r h new holds rows s p = sym (line-same m rows l today h p) ∙ rw (new, holds) refl

-- a line that is no repeat, and against which no reason holds, is applied
pub applied-by : (m : Part) (l : BankLine) (today : ℕ) (d : DatedEdit)
    → is_line_again (entry_in (kept_at m l.entry)) l.line ≡ false
    → first_reason (reasons (kept_line_facts m l today)) ≡ None → d ≡ dated_by (kept_line_facts m l today)
    → told.Applied d ≡ kept_edit m l today
applied-by m l today d new none is = rw (new, none) (ap (λ (x : DatedEdit). told.Applied x) is)

-- memory is wanting only where the line is applied
pub line-memory : (m : Part) (l : BankLine) (today : ℕ) → holds_for_line m l.entry ≡ true
    → is_line_again (entry_in (kept_at m l.entry)) l.line ≡ false
    → first_reason (reasons (kept_line_facts m l today)) ≡ None → (rows : Rows) → Sound rows → IsPart m rows
    → IsApplied (line_on rows l today)
line-memory m l today h new none rows s p =
    subst IsApplied (applied-by m l today (dated_by (kept_line_facts m l today)) new none refl ∙ line-same m rows l
    today h p) tt
