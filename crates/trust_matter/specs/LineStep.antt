-- What a bank line does to a matter's rows.
use Rattle.std.specs.Prelude.{◌≡◌, ℕ, Bool, true, false, not, ◌&&◌, ◌||◌, nat_lt, max, List, [], ◌∷◌, ℤ, Option, Some, None, is_none, if◌then◌else◌, Result, Ok, Err}
use Rattle.trust_base.specs.declared.line.Line.{Line}
use Rattle.trust_base.specs.declared.refusal.StoreFault.{StoreFault}
use Rattle.trust_base.specs.declared.refusal.StoreFault.TheVariants as faults
use Rattle.matter_rows.specs.declared.head.Head.{Head}
use Rattle.matter_rows.specs.declared.entry.Entry.{Entry}
use Rattle.matter_rows.specs.declared.entry.Entry.TheVariants as entry
use Rattle.matter_rows.specs.declared.act.Act.{Act}
use Rattle.matter_rows.specs.declared.act.Deed.TheVariants as deed
use Rattle.matter_rows.specs.Rows.{is_gone, Rows, entry_at, last_of, entry_amount, is_held_state, is_issued_state}
use Rattle.matter_rows.specs.Balances.{available, exceeds}
use Rattle.matter_rows.specs.Clearings.{cleared_payment, deposit_by, has_its_amount, is_line_again, is_return}
use Rattle.matter_rows.specs.declared.act.Caller.TheVariants as caller
use Rattle.matter_parts.specs.declared.edit.Edit.{Edit}
use Rattle.matter_parts.specs.declared.edit.Edit.TheVariants as edit
use Rattle.matter_parts.specs.Changes.{MatterChange, IsChange, changed_by}
use Rattle.trust_matter.specs.declared.bank_line.BankLine.{BankLine}
use Rattle.trust_matter.specs.declared.line_verdict.Reason.{Reason}
use Rattle.trust_matter.specs.declared.line_verdict.Reason.TheVariants as reason
use Rattle.trust_matter.specs.declared.line_verdict.LineEffect.{LineEffect}
use Rattle.trust_matter.specs.declared.line_verdict.LineEffect.TheVariants as told
use Rattle.trust_matter.specs.declared.line_verdict.DatedEdit.{DatedEdit}
use Rattle.trust_matter.specs.declared.line_verdict.LineVerdict.{LineVerdict}
use Rattle.trust_matter.specs.declared.line_verdict.LineVerdict.TheVariants as verdict

-- What is known about a line and the entry that it names.

-- the head; the number that the line names, and the entry with it; what is available; the line, and the business day
pub record LineFacts : Type 0 where
  pub head : Option Head
  pub number : ℕ
  pub entry : Option Entry
  pub available : ℤ
  pub line : Line
  pub today : ℕ

-- the facts from the rows, with the sum added up from the entries
abbrev pub line_facts : Rows → BankLine → ℕ → LineFacts
line_facts rows l today = record {
  head = rows.head;
  number = l.entry;
  entry = entry_at rows.entries l.entry;
  available = available rows.entries;
  line = l.line;
  today = today;
}

-- Why a line matches no entry.

-- no line clears a fee or a claim
abbrev pub has_no_line : Option Entry → Bool
has_no_line None = false
has_no_line (Some (entry.Deposit d)) = false
has_no_line (Some (entry.Payment p)) = false
has_no_line (Some (entry.Fee f)) = true
has_no_line (Some (entry.Claim c)) = true

-- a deposit that is neither held nor, if the line takes it back, cleared; or a payment that is not issued
abbrev pub awaits_no_line : Option Entry → Line → Bool
awaits_no_line None line = false
awaits_no_line (Some (entry.Deposit d)) line =
    not (is_held_state d.state) && not (is_return (Some (entry.Deposit d)) line)
awaits_no_line (Some (entry.Payment p)) line = not (is_issued_state p.state)
awaits_no_line (Some (entry.Fee f)) line = false
awaits_no_line (Some (entry.Claim c)) line = false

abbrev pub is_of_another_amount : Option Entry → Line → Bool
is_of_another_amount None line = false
is_of_another_amount (Some e) line = not (has_its_amount e line) && not (is_return (Some e) line)

abbrev pub amount_in : Option Entry → ℕ
amount_in None = 0
amount_in (Some e) = entry_amount e

-- a return that the available money does not cover, or whose business day is before the matter's last day
abbrev pub is_uncovered : LineFacts → Bool
is_uncovered f =
    is_return f.entry f.line && (nat_lt f.today (last_of f.head) || exceeds (amount_in f.entry) f.available)

-- each reason with its condition, in the order in which they are tried
abbrev pub reasons : LineFacts → List (Bool × Reason)
reasons f =
    (nat_lt f.today f.line.date, reason.Future)
    ∷ (is_gone f.head, reason.NoMatter)
    ∷ (is_none f.entry, reason.NoEntry)
    ∷ (has_no_line f.entry, reason.WrongKind)
    ∷ (awaits_no_line f.entry f.line, reason.WrongState)
    ∷ (is_of_another_amount f.entry f.line, reason.WrongAmount)
    ∷ (is_uncovered f, reason.Uncovered)
    ∷ []

-- the first reason that holds
abbrev pub first_reason : List (Bool × Reason) → Option Reason
first_reason [] = None
first_reason (c ∷ cs) = if c.0 then Some c.1 else first_reason cs

-- the edit by which a line changes the entry
abbrev pub told_by : ℕ → Option Entry → Line → ℕ → Edit
told_by n (Some (entry.Deposit d)) line today =
    edit.Exchange (record { number = n; entry = entry.Deposit (record d { state = deposit_by line today d.state }) })
told_by n (Some (entry.Payment p)) line today =
    edit.Exchange (record { number = n; entry = entry.Payment (record p { state = cleared_payment line p.state }) })
told_by n _ line today = edit.Nothing

-- the last day after a line: for a return the business day, otherwise at least the line's date
abbrev pub last_by : LineFacts → ℕ
last_by f = if is_return f.entry f.line then f.today else max (last_of f.head) f.line.date

-- what an applied line changes, and the matter's last day after it
abbrev pub dated_by : LineFacts → DatedEdit
dated_by f = record { edit = told_by f.number f.entry f.line f.today; last = last_by f }

abbrev pub matched : Option Reason → DatedEdit → LineEffect
matched None e = told.Applied e
matched (Some r) e = told.Unmatched r

-- the verdict on a line; being a repeat comes before all reasons
abbrev pub line_effect : LineFacts → LineEffect
line_effect f = if is_line_again f.entry f.line then told.Repeat else matched (first_reason (reasons f)) (dated_by f)

-- The step.

-- the verdict on a line on a business day, from its matter's rows
abbrev pub line_on : Rows → BankLine → ℕ → LineEffect
line_on rows l today = line_effect (line_facts rows l today)

abbrev pub after_line_effect : LineEffect → Rows → Rows
after_line_effect (told.Applied e) rows = changed_by e.edit e.last rows
after_line_effect told.Repeat rows = rows
after_line_effect (told.Unmatched r) rows = rows

-- the rows after a line
abbrev pub rows_after_line : Rows → BankLine → ℕ → Rows
rows_after_line rows l today = after_line_effect (line_on rows l today) rows

-- what an applied line is remembered as: an act of the cashier on the business day, of the entry that the line names
abbrev pub line_act : Option Entry → BankLine → ℕ → Act
line_act e l today = record {
  entry = Some l.entry;
  day = today;
  caller = caller.Cashier;
  deed = if is_return e l.line then deed.Returned else deed.Cleared;
}

-- the line is applied, and the change is that of the rows, with the act that it is remembered by
pub record IsLineDecided (rows : Rows) (l : BankLine) (today : ℕ) (c : MatterChange) : Type 0 where
  pub applied : line_on rows l today ≡ told.Applied (record { edit = c.edit; last = c.last })
  pub change : IsChange rows c
  pub act : c.act ≡ Some (line_act (entry_at rows.entries l.entry) l today)

abbrev pub IsApplied : LineEffect → Type 0
IsApplied (told.Applied e) = Unit {0}
IsApplied told.Repeat = ⊥
IsApplied (told.Unmatched r) = ⊥

-- the possible answers: the line's verdict, or out of memory if the line is to be applied; never a store fault
abbrev pub LineDecides : Rows → BankLine → ℕ → Result LineVerdict StoreFault → Type 0
LineDecides rows l today (Ok (verdict.Applied c)) = IsLineDecided rows l today c
LineDecides rows l today (Ok verdict.Repeat) = line_on rows l today ≡ told.Repeat
LineDecides rows l today (Ok (verdict.Unmatched r)) = line_on rows l today ≡ told.Unmatched r
LineDecides rows l today (Err faults.Memory) = IsApplied (line_on rows l today)
LineDecides rows l today (Err faults.Store) = ⊥
