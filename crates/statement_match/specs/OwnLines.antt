-- The lines of a statement that are the firm's own, and what an import would do with them.
use Rattle.std.specs.Prelude.{◌+ℤ◌, ℕ, pos, Bool, codes, List, [], ◌∷◌, ◌++◌, take, nat_lt, Option, Some, None, if◌then◌else◌}
use Rattle.std.specs.List.{fold}
use Rattle.std.specs.Ordering.{int_eq}
use Rattle.std.specs.Str.{bytes_eq}
use Rattle.trust_base.specs.declared.line.Line.{Line}
use Rattle.firm_rows.specs.FirmLines.{as_firm_line, balance_of, firm_verdict}
use Rattle.firm_rows.specs.declared.ledger.FirmLine.{FirmLine}
use Rattle.firm_rows.specs.declared.ledger.Verdict.{Verdict}
use Rattle.firm_rows.specs.declared.ledger.Verdict.TheVariants as verdict
use Rattle.statement_match.specs.declared.reason.UnmatchedReason.{UnmatchedReason}
use Rattle.statement_match.specs.declared.reason.UnmatchedReason.TheVariants as reason

abbrev pub is_own : Line → Bool
is_own line = bytes_eq line.reference (codes "FIRM")

-- the firm's own ledger, with the line if that is applied
abbrev pub own_by : Verdict → List FirmLine → Line → List FirmLine
own_by verdict.Applied own line = own ++ as_firm_line line ∷ []
own_by verdict.Repeat own line = own
own_by verdict.Unmatched own line = own

-- the firm's own ledger after an import of the line
abbrev pub own_with : ℕ → List FirmLine → Line → List FirmLine
own_with today own line = if is_own line then own_by (firm_verdict own line today) own line else own

-- the firm's own ledger after an import of the lines before this place
abbrev pub own_before : ℕ → List FirmLine → List Line → ℕ → List FirmLine
own_before today own lines place = fold (own_with today) own (take place lines)

-- why an import would not apply a line of the firm's own to this ledger
abbrev pub own_misfit : ℕ → List FirmLine → Line → UnmatchedReason
own_misfit today own line =
    if nat_lt today line.date then reason.DatedAfter today
    else if int_eq line.amount (pos 0) then reason.MovesNothing
    else reason.OwnMoney (balance_of own +ℤ line.amount)

abbrev pub own_reason_by : Verdict → UnmatchedReason → Option UnmatchedReason
own_reason_by verdict.Applied why = None
own_reason_by verdict.Repeat why = None
own_reason_by verdict.Unmatched why = Some why

unfoldable pub own_reason : ℕ → List FirmLine → Line → Option UnmatchedReason
own_reason today own line = own_reason_by (firm_verdict own line today) (own_misfit today own line)
