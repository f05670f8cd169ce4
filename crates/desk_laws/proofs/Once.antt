-- What was asked and accepted, and a line that was applied, are repeats after every run.
use Rattle.desk_laws.proofs.Names.{◌≡◌, ℕ, Bool, true, false, List, [], ◌++◌, Option, refl, sym, ap, ◌∙◌, subst, cond-true, is_some, Some, None, Refusal, Edit, BankLine, LineEffect, Rows, is_purged, Asked, facts_of, is_repeat, last_after, refusal, edit_on, rows_after, line_on, rows_after_line, IsApplied, purged-unapplied, Firm, of, acted, after_edit, Item, after_told, after_item, after_items, counted_as, Heard, Own, own_of, own_of_item, after_asked, after_ask, firm_step, solo_rows, DayRun, RunsOn, OnceOnly, LineOnceOnly, arith, ints, nat_tests}
use Rattle.matter_parts.specs.declared.edit.Edit.TheVariants as edit
use Rattle.trust_matter.specs.Step.{act_on}
use Rattle.trust_matter.specs.declared.line_verdict.LineEffect.TheVariants as told
use Rattle.matter_laws.proofs.Purging.{refused}
use Rattle.statement_csv.specs.declared.item.Item.TheVariants as item
use Rattle.trust_desk.specs.declared.importing.Counted.TheVariants as counted
use Rattle.desk_laws.proofs.Doings.{asked-later, repeat-later}
use Rattle.trust_desk.proofs.OwnItems.{solo_rows-append, of-after_item, of-after_line}
use Rattle.trust_desk.proofs.OwnRows.{of-after_asked, own-rows}
use Rattle.desk_laws.proofs.OnceRuns.{all-keep, runs-keep}

-- later rows are those after some of what comes to a matter
abbrev IsLater : Rows → Rows → Type 0
IsLater rows later = (owns : List Own) × (later ≡ solo_rows rows owns)

later-more : (a b c : Rows) → IsLater a b → IsLater b c → IsLater a c
later-more a b c ab bc = (ab.0 ++ bc.0, bc.1 ∙ (ap (λ rows. solo_rows rows bc.0) ab.1 ∙ sym (solo_rows-append a ab.0 bc.0)))

later-item : (m : ℕ) (old : Rows) (day : ℕ) (firm : Firm) (it : Item) → IsLater old (of m firm) → IsLater old (of m (after_item day firm it))
later-item m old day firm it is = later-more old (of m firm) (of m (after_item day firm it)) is (own_of_item m day it, of-after_item m day firm it)

later-step : (m : ℕ) (old : Rows) (day : ℕ) (firm : Firm) (h : Heard) → IsLater old (of m firm) → IsLater old (of m (firm_step day firm h).firm)
later-step m old day firm h is = later-more old (of m firm) (of m (firm_step day firm h).firm) is (own_of m day h, own-rows m day firm h)

runs-later : (m : ℕ) (firm new : Firm) (runs : List DayRun) → RunsOn firm runs new → IsLater (of m firm) (of m new)
runs-later m firm new runs run = runs-keep (λ f. IsLater (of m firm) (of m f)) (later-item m (of m firm)) (later-step m (of m firm)) firm new runs run ([], refl)

-- An ask.

-- a repeat changes nothing of the firm
unchanged : (o : Option Refusal) (m : ℕ) (a : Asked) (firm : Firm) → edit_on (of m firm) a ≡ edit.Nothing → after_asked o m a firm ≡ firm
unchanged None m a firm none =
    let last = last_after (of m firm).head (edit_on (of m firm) a) a.day in
    ap (λ (e : Edit). acted m e (act_on (of m firm) a) (after_edit m e last firm)) none
unchanged (Some r) m a firm none = refl

refused-leaves : (o : Option Refusal) (m : ℕ) (a : Asked) (firm : Firm) → is_some o ≡ true → after_asked o m a firm ≡ firm
refused-leaves o m a firm is = grind (arith, ints, nat_tests)

pub once-only : OnceOnly
once-only m a again firm new between makes accepted runs same =
    let later = runs-later m (after_ask m a firm) new between runs in
    let rows : of m new ≡ solo_rows (rows_after (of m firm) a) later.0 = later.1 ∙ ap (λ r. solo_rows r later.0) (of-after_asked (refusal (of m firm) a) m a firm) in
    let repeat : is_purged (of m new).head ≡ false → is_repeat (facts_of (of m new) again.ask) again ≡ true = λ kept.
    subst (λ (r : Rows). is_repeat (facts_of r again.ask) again ≡ true) (sym rows)
    (asked-later (of m firm) a again later.0 makes accepted same (subst (λ (r : Rows). is_purged r.head ≡ false) rows kept)) in
    record { unchanged = same_firm (is_purged (of m new).head) refl repeat; repeat = repeat }
  where
    same_firm : (b : Bool) → is_purged (of m new).head ≡ b → (is_purged (of m new).head ≡ false → is_repeat (facts_of (of m new) again.ask) again ≡ true) → after_ask m again new ≡ new
    same_firm true is repeat = refused-leaves (refusal (of m new) again) m again new (refused (facts_of (of m new) again.ask) again is)
    same_firm false kept repeat = unchanged (refusal (of m new) again) m again new (cond-true (is_repeat (facts_of (of m new) again.ask) again) _ _ (repeat kept))

-- A line.

pub was-applied : (e : LineEffect) → counted_as e ≡ counted.Applied → IsApplied e
was-applied e is = grind (arith, ints, nat_tests)

-- a line that is not applied leaves the rows, the movements and the acts
all-stay : (l : BankLine) (day : ℕ) (firm : Firm) (e : LineEffect) → (IsApplied e → ⊥)
    → ((after_told l day e firm).rows ≡ firm.rows) × ((after_told l day e firm).movements ≡ firm.movements)
    × ((after_told l day e firm).acts ≡ firm.acts)
all-stay l day firm (told.Applied e) none = absurd (none tt)
all-stay l day firm told.Repeat none = (refl, refl, refl)
all-stay l day firm (told.Unmatched r) none = (refl, refl, refl)

not-applied : (firm : Firm) (l : BankLine) (day : ℕ) (b : Bool) → is_purged (of l.matter firm).head ≡ b → (is_purged (of l.matter firm).head ≡ false → line_on (of l.matter firm) l day ≡ told.Repeat) → IsApplied (line_on (of l.matter firm) l day) → ⊥
not-applied firm l day true is repeat applied = purged-unapplied (of l.matter firm) l day is applied
not-applied firm l day false kept repeat applied = subst IsApplied (repeat kept) applied

pub line-once-only : LineOnceOnly
line-once-only l again day later firm mid rest front between applied same runs =
    let m = l.matter in
    let one = after_item day firm (item.OfMatter l) in
    let now = after_items later mid front in
    let all : IsLater (of m one) (of m now) =
    all-keep (λ f. IsLater (of m one) (of m f)) (later-item m (of m one)) (later-step m (of m one)) day later firm mid (item.OfMatter l) rest front between runs ([], refl) in
    let rows : of m now ≡ solo_rows (rows_after_line (of m firm) l day) all.0 = all.1 ∙ ap (λ r. solo_rows r all.0) (of-after_line l day firm) in
    let repeat : is_purged (of again.matter now).head ≡ false → line_on (of again.matter now) again later ≡ told.Repeat = λ kept.
    let own : is_purged (of m now).head ≡ false = subst (λ (k : ℕ). is_purged (of k now).head ≡ false) same.matter kept in
    let solo : is_purged (solo_rows (rows_after_line (of m firm) l day) all.0).head ≡ false = subst (λ (r : Rows). is_purged r.head ≡ false) rows own in
    (λ i. line_on (of (same.matter i) now) again later) ∙ (ap (λ r. line_on r again later) rows ∙ repeat-later (of m firm) l again day later all.0 (was-applied (line_on (of m firm) l day) applied) same.line solo) in
    let stay = all-stay again later now (line_on (of again.matter now) again later) (not-applied now again later (is_purged (of again.matter now).head) refl repeat) in
    record {
      rows = stay.0;
      movements = stay.1;
      acts = stay.2;
      repeat = λ kept. record {
        repeat = ap counted_as (repeat kept);
        leaves = ap (λ (e : LineEffect). after_told again later e now) (repeat kept);
      };
    }
