-- Changes of a firm's rows, of every kind, and which of them a bank line makes.
use Rattle.std.specs.Prelude.{◌≡◌, ℕ, ◌==◌, ◌+ℤ◌, Option, Some, None, if◌then◌else◌}
use Rattle.trust_base.specs.declared.line.Line.{Line}
use Rattle.trust_matter.specs.declared.bank_line.BankLine.{BankLine}
use Rattle.trust_matter.specs.declared.line_verdict.LineVerdict.{LineVerdict}
use Rattle.trust_matter.specs.declared.line_verdict.LineVerdict.TheVariants as verdict
use Rattle.trust_matter.specs.Rows.{Rows}
use Rattle.trust_matter.specs.Changes.{MatterChange, changed, IsChange}
use Rattle.firm_rows.specs.declared.ledger.Verdict.{Verdict}
use Rattle.firm_rows.specs.declared.ledger.Verdict.TheVariants as told
use Rattle.firm_rows.specs.declared.ledger.BalanceKind.{BalanceKind}
use Rattle.firm_rows.specs.FirmLines.{balance_of, IsOwnBalance, as_firm_line, balance_row, kept_balance}
use Rattle.firm_rows.specs.Firm.{Firm, of, after_change, after_match, after_dismissal, after_stray, with_firm_line, with_balance_row}

-- a change of a matter, with the bank line that made it, if any; a repeated line; an unmatched line; a line that was
-- dismissed, with the business day; an applied line of the firm's own; and an applied balance
pub data FirmChange : Type 0 where
  OfMatter : (matter : ℕ) (line : Option Line) (change : MatterChange) → FirmChange
  Repeated : (line : Line) → FirmChange
  Unmatched : (line : Line) → FirmChange
  Dismissed : (day : ℕ) (line : Line) → FirmChange
  OfFirm : (line : Line) → FirmChange
  OfBalance : (kind : BalanceKind) (line : Line) → FirmChange

-- the firm without the line that made a change among its exceptions
abbrev pub matched_by : Option Line → Firm → Firm
matched_by None firm = firm
matched_by (Some line) firm = after_match line firm

-- the firm after a change: an applied, repeated or dismissed line is no exception from then on, an unmatched one is
abbrev pub after : FirmChange → Firm → Firm
after (OfMatter m line change) firm = matched_by line (after_change m change firm)
after (Repeated line) firm = after_match line firm
after (Unmatched line) firm = after_stray line firm
after (Dismissed day line) firm = after_dismissal day line firm
after (OfFirm line) firm = after_match line (with_firm_line (as_firm_line line) firm)
after (OfBalance kind line) firm = after_match line (with_balance_row (balance_row kind line) firm)

-- what a change of the firm does to the rows of matter n: only those of the matter that it names change
abbrev pub rows_after : ℕ → FirmChange → Rows → Rows
rows_after n (OfMatter m line change) rows = if n == m then changed change rows else rows
rows_after n (Repeated line) rows = rows
rows_after n (Unmatched line) rows = rows
rows_after n (Dismissed day line) rows = rows
rows_after n (OfFirm line) rows = rows
rows_after n (OfBalance kind line) rows = rows

-- the change may be made to this firm: it is a change of the matter's rows, the firm's own money stays within its
-- limits, and no other balance of that kind and day is on file
abbrev pub FitsFirm : Firm → FirmChange → Type 0
FitsFirm firm (OfMatter m line change) = IsChange (of m firm) change
FitsFirm firm (Repeated line) = Unit {0}
FitsFirm firm (Unmatched line) = Unit {0}
FitsFirm firm (Dismissed day line) = Unit {0}
FitsFirm firm (OfFirm line) = IsOwnBalance (balance_of firm.firm_lines +ℤ line.amount)
FitsFirm firm (OfBalance kind line) = kept_balance kind line.date firm.balances ≡ None

-- The change that a line makes.

-- by a line that names an entry, from its verdict
abbrev pub by_line : BankLine → LineVerdict → FirmChange
by_line l (verdict.Applied change) = OfMatter l.matter (Some l.line) change
by_line l verdict.Repeat = Repeated l.line
by_line l (verdict.Unmatched reason) = Unmatched l.line

-- by a line of the firm's own
abbrev pub by_firm_line : Line → Verdict → FirmChange
by_firm_line line told.Applied = OfFirm line
by_firm_line line told.Repeat = Repeated line
by_firm_line line told.Unmatched = Unmatched line

-- by a balance
abbrev pub by_balance : BalanceKind → Line → Verdict → FirmChange
by_balance kind line told.Applied = OfBalance kind line
by_balance kind line told.Repeat = Repeated line
by_balance kind line told.Unmatched = Unmatched line
