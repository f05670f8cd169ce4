-- An applied line of the firm's own, or an applied balance, is stored and stays stored.
use Rattle.std.specs.Prelude.{◌≡◌, ℕ, ℤ, Bool, true, Some}
use Rattle.std.specs.List.{list_any}
use Rattle.trust_base.specs.declared.line.Line.{Line}
use Rattle.firm_rows.specs.declared.ledger.BalanceKind.{BalanceKind}
use Rattle.firm_rows.specs.FirmLines.{is_kept_as, kept_balance}
use Rattle.firm_rows.specs.Firm.{Firm}
use Rattle.firm_rows.specs.FirmChange.{FirmChange, OfFirm, OfBalance, after, FitsFirm}

-- A line of the firm's own.

-- a line with this date, bank reference and amount is stored
abbrev pub is_line_kept : Line → Firm → Bool
is_line_kept line firm = list_any (is_kept_as line) firm.firm_lines

-- an applied line is stored
abbrev pub FirmLineIsKept : Type 0
FirmLineIsKept = (line : Line) (firm : Firm) → is_line_kept line (after (OfFirm line) firm) ≡ true

-- a stored line stays stored after any change, even a purge
abbrev pub FirmLinesStay : Type 0
FirmLinesStay =
    (line : Line) (change : FirmChange) (firm : Firm) → is_line_kept line firm ≡ true
    → is_line_kept line (after change firm) ≡ true

-- A balance.

-- an applied balance is on file with its amount
abbrev pub BalanceIsKept : Type 0
BalanceIsKept =
    (kind : BalanceKind) (line : Line) (firm : Firm)
    → kept_balance kind line.date (after (OfBalance kind line) firm).balances ≡ Some line.amount

-- a balance on file keeps its amount after any change that fits, even a purge
abbrev pub BalancesStay : Type 0
BalancesStay =
    (kind : BalanceKind) (day : ℕ) (amount : ℤ) (change : FirmChange) (firm : Firm) → FitsFirm firm change
    → kept_balance kind day firm.balances ≡ Some amount
    → kept_balance kind day (after change firm).balances ≡ Some amount
