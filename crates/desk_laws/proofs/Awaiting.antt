-- An entry that waits for a line of the bank: the line is applied, and lines of other entries leave it as it is.
use Rattle.desk_laws.proofs.Names.{◌≡◌, ◌≢◌, ◌∙◌, sym, ap, ℕ, Bool, true, false, not, cond, List, [], Option, Some, None, refl, arith, eqb, nat_lt, is_none, Contains, cond-false, Decides-int_eq, nat_tests, Line, Head, Deposit, Payment, Entry, Rows, entry_at, is_gone, is_issued_state, is_of_nobody, is_purged, last_of, seen_on, cleared_amount, has_its_amount, is_line_again, is_payment_cleared_by, is_return, IsBare, IsBareIfPurged, IsHeaded, Sound, entry_at-with, Numbered, changed_by, BankLine, DatedEdit, Reason, LineFacts, after_line_effect, awaits_no_line, dated_by, first_reason, has_no_line, is_of_another_amount, last_by, line_effect, line_facts, line_on, matched, reasons, rows_after_line, told_by, Waiting, entry_waiting, by_waiting, ints}
use Rattle.matter_rows.specs.declared.head.Holder.{Holder}
use Rattle.matter_rows.specs.declared.seat.Seat.{Seat}
use Rattle.matter_rows.specs.declared.deposit.DepositState.TheVariants as deposit
use Rattle.matter_rows.specs.declared.payment.PaymentState.TheVariants as payment
use Rattle.matter_rows.specs.declared.entry.Entry.TheVariants as entry
use Rattle.matter_parts.specs.declared.edit.Edit.TheVariants as edit
use Rattle.trust_matter.specs.declared.line_verdict.LineEffect.TheVariants as told

-- What an entry waits for.

-- no reason that the entry gives holds against the line
pub record Awaits (e : Entry) (line : Line) : Type 0 where
  pub new : is_line_again (Some e) line ≡ false
  pub kind : has_no_line (Some e) ≡ false
  pub state : awaits_no_line (Some e) line ≡ false
  pub amount : is_of_another_amount (Some e) line ≡ false
  pub forward : is_return (Some e) line ≡ false

held_awaits : (d : Deposit) (line : Line) → d.state ≡ deposit.Held
    → has_its_amount (entry.Deposit d) line ≡ true → Awaits (entry.Deposit d) line
held_awaits d line held same = grind (arith, ints, nat_tests)

issued_awaits : (p : Payment) (line : Line) (day : ℕ) → p.state ≡ payment.Issued day
    → has_its_amount (entry.Payment p) line ≡ true → Awaits (entry.Payment p) line
issued_awaits p line day issued same =
    grind (arith, ints, nat_tests, is_payment_cleared_by, has_its_amount, not, is_issued_state)

its_amount : (e : Entry) (line : Line) (w : Waiting) → cleared_amount e ≡ w.amount → line.amount ≡ w.amount
    → has_its_amount e line ≡ true
its_amount e line w cleared same = (Decides-int_eq (cleared_amount e) line.amount).1 (cleared ∙ sym same)

-- an entry that waits for the bank awaits a line of its amount
pub entry_awaits : (m n : ℕ) (e : Entry) (w : Waiting) (line : Line) → Contains (entry_waiting m n e) w
    → line.amount ≡ w.amount → Awaits e line
entry_awaits m n e w line there same =
    grind (arith, ints, nat_tests, by_waiting, held_awaits, its_amount, issued_awaits)

-- The line is applied.

applied_by : (f : LineFacts) (e : Entry) → f.entry ≡ Some e → nat_lt f.today f.line.date ≡ false
    → is_gone f.head ≡ false → Awaits e f.line → line_effect f ≡ told.Applied (dated_by f)
applied_by f e there dated opened awaits =
    let new : is_line_again f.entry f.line ≡ false = ap (λ o. is_line_again o f.line) there ∙ awaits.new in
    let some : is_none f.entry ≡ false = ap (λ (o : Option Entry). is_none o) there in
    let kind : has_no_line f.entry ≡ false = ap has_no_line there ∙ awaits.kind in
    let state : awaits_no_line f.entry f.line ≡ false = ap (λ o. awaits_no_line o f.line) there ∙ awaits.state in
    let amount : is_of_another_amount f.entry f.line ≡ false =
    ap (λ o. is_of_another_amount o f.line) there ∙ awaits.amount in
    let forward : is_return f.entry f.line ≡ false = ap (λ o. is_return o f.line) there ∙ awaits.forward in
    grind (arith, ints, nat_tests, nat_lt, last_of, forward, new, matched, kind, state, amount)

-- The entry stands in an open matter.

pub record Stands (rows : Rows) (n : ℕ) (e : Entry) : Type 0 where
  pub opened : is_gone rows.head ≡ false
  pub there : entry_at rows.entries n ≡ Some e

-- a line of a day that came, and that the entry awaits, is applied
pub line_applies : (rows : Rows) (l : BankLine) (today : ℕ) (e : Entry) → nat_lt today l.line.date ≡ false
    → Stands rows l.entry e → Awaits e l.line
    → line_on rows l today
    ≡ told.Applied (record {
      edit = told_by l.entry (Some e) l.line today;
      last = last_by (line_facts rows l today);
    })
line_applies rows l today e dated stands awaits =
    grind (arith, ints, nat_tests, line_facts, applied_by, told_by, last_by)

none_in : (es : List Entry) (n : ℕ) (e : Entry) → es ≡ [] → entry_at es n ≡ Some e → ⊥
none_in es n e none at = let clash : None ≡ Some e = sym (ap (λ xs. entry_at xs n) none) ∙ at in cc

kept_by : (holder : Holder) (closed : Option ℕ) (last : ℕ) (seats : List Seat) (es : List Entry) (n : ℕ) (e : Entry)
    → IsBare holder closed last seats es → entry_at es n ≡ Some e → is_of_nobody holder ≡ false
kept_by holder closed last seats es n e bare at = grind (arith, ints, nat_tests, none_in)

open_head : (head : Option Head) (seats : List Seat) (es : List Entry) (n : ℕ) (e : Entry) → IsHeaded head seats es
    → IsBareIfPurged head seats es → entry_at es n ≡ Some e → is_gone head ≡ false
open_head head seats es n e headed bare at = grind (arith, ints, nat_tests, none_in, kept_by)

-- an entry of a sound matter stands
pub sound_stands : (rows : Rows) (n : ℕ) (e : Entry) → Sound rows → entry_at rows.entries n ≡ Some e → Stands rows n e
sound_stands rows n e sound at = grind (arith, ints, nat_tests, open_head)

-- Lines of other entries.

seen_gone : (head : Option Head) (last : ℕ) → is_gone (seen_on head last) ≡ is_gone head
seen_gone head last = grind (arith, ints, nat_tests)

exchange_keeps : (rows : Rows) (x : Numbered) (last n : ℕ) (old e : Entry) → entry_at rows.entries x.number ≡ Some old
    → x.number ≢ n → Stands rows n e → Stands (changed_by (edit.Exchange x) last rows) n e
exchange_keeps rows x last n old e at other stands =
    grind (arith, ints, nat_tests, eqb, seen_gone, entry_at-with, cond-false)

told_keeps : (o : Option Entry) (rows : Rows) (l : BankLine) (today last n : ℕ) (e : Entry)
    → entry_at rows.entries l.entry ≡ o → l.entry ≢ n → Stands rows n e
    → Stands (changed_by (told_by l.entry o l.line today) last rows) n e
told_keeps (Some (entry.Deposit d)) rows l today last n e at other stands =
    exchange_keeps rows _ last n (entry.Deposit d) e at other stands
told_keeps (Some (entry.Payment p)) rows l today last n e at other stands =
    exchange_keeps rows _ last n (entry.Payment p) e at other stands
told_keeps _ rows l today last n e at other stands = record { opened = stands.opened; there = stands.there }

-- what holds of the rows, and behind what the line tells of the entry, holds after the line
by_effect : (P : Rows → Type 0) (b : Bool) (r : Option Reason) (d : DatedEdit) (rows : Rows) → P rows
    → P (changed_by d.edit d.last rows) → P (after_line_effect (cond b told.Repeat (matched r d)) rows)
by_effect x0 b r d rows old new = grind (arith, ints, nat_tests)

-- a line that names another entry of the matter leaves the entry as it is
pub line_keeps : (rows : Rows) (l : BankLine) (today n : ℕ) (e : Entry) → l.entry ≢ n → Stands rows n e
    → Stands (rows_after_line rows l today) n e
line_keeps rows l today n e other stands =
    let f = line_facts rows l today in
    by_effect (λ rs. Stands rs n e) (is_line_again f.entry f.line) (first_reason (reasons f)) (dated_by f) rows stands
    (told_keeps (entry_at rows.entries l.entry) rows l today (last_by f) n e refl other stands)

-- No line purges a matter.

seen_purged : (head : Option Head) (last : ℕ) → is_purged (seen_on head last) ≡ is_purged head
seen_purged head last = grind (arith, ints, nat_tests)

told_purged : (o : Option Entry) (rows : Rows) (l : BankLine) (today last : ℕ)
    → is_purged (changed_by (told_by l.entry o l.line today) last rows).head ≡ is_purged rows.head
told_purged o rows l today last = grind (arith, ints, nat_tests, seen_purged)

pub line_unpurged : (rows : Rows) (l : BankLine) (today : ℕ) → is_purged rows.head ≡ false
    → is_purged (rows_after_line rows l today).head ≡ false
line_unpurged rows l today kept =
    let f = line_facts rows l today in
    by_effect (λ rs. is_purged rs.head ≡ false) (is_line_again f.entry f.line) (first_reason (reasons f)) (dated_by f)
    rows kept (told_purged (entry_at rows.entries l.entry) rows l today (last_by f) ∙ kept)

pub open_unpurged : (head : Option Head) → is_gone head ≡ false → is_purged head ≡ false
open_unpurged head opened = grind (arith, ints, nat_tests)
