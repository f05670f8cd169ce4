-- What the items of a statement do to the firm.
use Rattle.std.specs.Prelude.{◌≡◌, ℕ, ◌+◌, ◌==◌, Bool, false, List, [], ◌∷◌, Option, Some, None}
use Rattle.trust_matter.specs.declared.bank_line.BankLine.{BankLine}
use Rattle.trust_matter.specs.declared.line_verdict.LineEffect.{LineEffect}
use Rattle.trust_matter.specs.declared.line_verdict.LineEffect.TheVariants as told
use Rattle.trust_matter.specs.declared.line_verdict.LineVerdict.{LineVerdict}
use Rattle.trust_matter.specs.declared.line_verdict.LineVerdict.TheVariants as verdict
use Rattle.matter_rows.specs.declared.act.Act.{Act}
use Rattle.matter_rows.specs.Rows.{entry_at}
use Rattle.trust_matter.specs.LineStep.{line_on, line_act}
use Rattle.trust_base.specs.declared.line.Line.{Line}
use Rattle.firm_rows.specs.declared.ledger.BalanceKind.{BalanceKind}
use Rattle.firm_rows.specs.declared.ledger.BalanceKind.TheVariants as kind
use Rattle.firm_rows.specs.declared.ledger.Verdict.{Verdict}
use Rattle.firm_rows.specs.declared.ledger.Verdict.TheVariants as own
use Rattle.firm_rows.specs.Firm.{Firm, of, after_edit, acted, after_match, after_stray}
use Rattle.firm_rows.specs.FirmChange.{Unmatched, after, by_balance, by_firm_line}
use Rattle.firm_rows.specs.FirmLines.{balance_verdict, firm_verdict, kept_balance}
use Rattle.statement_csv.specs.declared.item.Item.{Item}
use Rattle.statement_csv.specs.declared.item.Item.TheVariants as item
use Rattle.json_bodies.specs.declared.bodies.ImportReply.{ImportReply}
use Rattle.trust_desk.specs.declared.importing.Counted.{Counted}
use Rattle.trust_desk.specs.declared.importing.Counted.TheVariants as counted

-- One item.

-- the item for a balance of a kind
abbrev pub balance_item : BalanceKind → Line → Item
balance_item kind.Opening line = item.Opening line
balance_item kind.Closing line = item.Closing line

-- what a line that names an entry is remembered as on a business day, if it is applied
abbrev pub told_act : BankLine → ℕ → Firm → Act
told_act l day firm = line_act (entry_at (of l.matter firm).entries l.entry) l day

-- the firm after a line that names an entry, according to its verdict on a business day: an applied one is remembered
abbrev pub after_told : BankLine → ℕ → LineEffect → Firm → Firm
after_told l day (told.Applied e) firm =
    after_match l.line (acted l.matter e.edit (Some (told_act l day firm)) (after_edit l.matter e.edit e.last firm))
after_told l day told.Repeat firm = after_match l.line firm
after_told l day (told.Unmatched r) firm = after_stray l.line firm

-- the verdict on a line of the firm's own on a day, according to the firm's ledger
abbrev pub firm_line_on : Firm → Line → ℕ → Verdict
firm_line_on firm line day = firm_verdict firm.firm_lines line day

-- the verdict on a balance on a day, according to the one on file for its kind and day
abbrev pub balance_on : Firm → BalanceKind → Line → ℕ → Verdict
balance_on firm kind line day = balance_verdict (kept_balance kind line.date firm.balances) line day

abbrev pub after_balance : BalanceKind → Line → ℕ → Firm → Firm
after_balance kind line day firm = after (by_balance kind line (balance_on firm kind line day)) firm

-- the firm after an item on a business day: a line that names an entry is decided by the rows of its matter, one of the
-- firm's own by the firm's ledger, and a balance by the one on file for its kind and day; a stray line matches nothing;
-- a record that is not a line changes nothing
abbrev pub after_item : ℕ → Firm → Item → Firm
after_item day firm (item.Opening line) = after_balance kind.Opening line day firm
after_item day firm (item.Closing line) = after_balance kind.Closing line day firm
after_item day firm (item.OfMatter l) = after_told l day (line_on (of l.matter firm) l day) firm
after_item day firm (item.OfFirm line) = after (by_firm_line line (firm_line_on firm line day)) firm
after_item day firm (item.Stray line) = after (Unmatched line) firm
after_item day firm (item.Unreadable number) = firm

abbrev pub counted_as : LineEffect → Counted
counted_as (told.Applied e) = counted.Applied
counted_as told.Repeat = counted.Repeated
counted_as (told.Unmatched r) = counted.Exception

abbrev pub counted_by : Verdict → Counted
counted_by own.Applied = counted.Applied
counted_by own.Repeat = counted.Repeated
counted_by own.Unmatched = counted.Exception

-- how an item is counted
abbrev pub counted_of : ℕ → Firm → Item → Counted
counted_of day firm (item.Opening line) = counted_by (balance_on firm kind.Opening line day)
counted_of day firm (item.Closing line) = counted_by (balance_on firm kind.Closing line day)
counted_of day firm (item.OfMatter l) = counted_as (line_on (of l.matter firm) l day)
counted_of day firm (item.OfFirm line) = counted_by (firm_line_on firm line day)
counted_of day firm (item.Stray line) = counted.Exception
counted_of day firm (item.Unreadable number) = counted.Unreadable

-- how an item is counted whose line has this verdict
abbrev pub counted_verdict : LineVerdict → Counted
counted_verdict (verdict.Applied c) = counted.Applied
counted_verdict verdict.Repeat = counted.Repeated
counted_verdict (verdict.Unmatched r) = counted.Exception

-- How an item relates to a matter.

-- the item is a line that names an entry of the matter
abbrev pub names_item : ℕ → Item → Bool
names_item m (item.Opening line) = false
names_item m (item.Closing line) = false
names_item m (item.OfMatter l) = l.matter == m
names_item m (item.OfFirm line) = false
names_item m (item.Stray line) = false
names_item m (item.Unreadable number) = false

-- the rows of each matter that the item does not name are unchanged
abbrev pub KeepsUnnamed : Firm → Item → Firm → Type 0
KeepsUnnamed firm it new = (m : ℕ) → names_item m it ≡ false → of m new ≡ of m firm

-- Items in sequence.

abbrev pub after_items : ℕ → Firm → List Item → Firm
after_items day firm [] = firm
after_items day firm (it ∷ items) = after_items day (after_item day firm it) items

abbrev pub none_counted : ImportReply
none_counted = record { applied = 0; exceptions = 0; repeated = 0; statement = None; unreadable = 0 }

-- one more of this kind
abbrev pub count_one : Counted → ImportReply → ImportReply
count_one counted.Applied c = record c { applied = c.applied + 1 }
count_one counted.Repeated c = record c { repeated = c.repeated + 1 }
count_one counted.Exception c = record c { exceptions = c.exceptions + 1 }
count_one counted.Unreadable c = record c { unreadable = c.unreadable + 1 }

-- the day of the last closing balance that was applied or repeated: this one's, or the one before
abbrev pub closing_day : Counted → ℕ → Option ℕ → Option ℕ
closing_day counted.Applied day before = Some day
closing_day counted.Repeated day before = Some day
closing_day counted.Exception day before = before
closing_day counted.Unreadable day before = before

abbrev pub statement_day : Item → Counted → Option ℕ → Option ℕ
statement_day (item.Opening line) kind before = before
statement_day (item.Closing line) kind before = closing_day kind line.date before
statement_day (item.OfMatter l) kind before = before
statement_day (item.OfFirm line) kind before = before
statement_day (item.Stray line) kind before = before
statement_day (item.Unreadable number) kind before = before

-- one more item, counted this way
abbrev pub count_item : Item → Counted → ImportReply → ImportReply
count_item it kind c = record (count_one kind c) { statement = statement_day it kind c.statement }

-- the counts after these items, starting from `c`
abbrev pub counts_after : ℕ → Firm → List Item → ImportReply → ImportReply
counts_after day firm [] c = c
counts_after day firm (it ∷ items) c =
    counts_after day (after_item day firm it) items (count_item it (counted_of day firm it) c)
