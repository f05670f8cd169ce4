-- How the journals of a period and what waits for the bank are printed.
use Rattle.std.specs.Prelude.{ℕ, ℤ, neg_ℤ, List, [], ◌∷◌, ◌++◌, codes, flat_map, Option, Some, None}
use Rattle.trust_base.specs.Periods.{Span}
use Rattle.trust_base.specs.Texts.{day_text, signed_text}
use Rattle.firm_periods.specs.declared.moved.Cause.{Cause}
use Rattle.firm_periods.specs.declared.moved.Cause.TheVariants as cause
use Rattle.firm_periods.specs.declared.moved.MoveNames.{MoveNames}
use Rattle.firm_periods.specs.declared.moved.MoveNames.TheVariants as names
use Rattle.firm_periods.specs.declared.moved.NamedMove.{NamedMove}
use Rattle.trust_reports.specs.Texts.{heading, line, or_dash, owner_text, words_shown}
use Rattle.trust_reports.specs.TextsOfLedgers.{barred}
use Rattle.trust_reports.specs.TextsOfLists.{figure_line}

-- A movement.

abbrev pub cause_text : Cause → List ℕ
cause_text cause.Deposit = codes "DEPOSIT"
cause_text cause.Cancelled = codes "CANCELLED"
cause_text cause.Returned = codes "RETURNED"
cause_text cause.Payment = codes "PAYMENT"
cause_text cause.Voided = codes "VOIDED"
cause_text cause.Own = codes "OWN"

-- a dash if the matter has no client
abbrev pub client_or_dash : Option (List ℕ) → List ℕ
client_or_dash None = codes "-"
client_or_dash (Some c) = c

-- each name after a bar
abbrev pub names_fields : MoveNames → List (List ℕ)
names_fields (names.Deposit source description client) =
    barred source ++ (barred description ++ barred (client_or_dash client))
names_fields (names.Payment payee purpose instrument client) =
    barred payee ++ (barred purpose ++ (barred instrument ++ barred (client_or_dash client)))
names_fields (names.Own bank_ref text) = barred (or_dash bank_ref) ++ barred (words_shown text)

-- its day, whose it is, an amount, why the money moved, and the names
abbrev pub moved_line : ℤ → NamedMove → List ℕ
moved_line amount v =
    line (day_text v.moved.day)
    (owner_text v.owner ∷ signed_text amount ∷ cause_text v.moved.cause ∷ names_fields v.names)

-- with its sign
abbrev pub signed_line : NamedMove → List ℕ
signed_line v = moved_line v.moved.amount v

-- what went out without a minus sign, and what came back with one
abbrev pub disbursed_line : NamedMove → List ℕ
disbursed_line v = moved_line (neg_ℤ v.moved.amount) v

-- The journals of a period.

-- the first line of a report of a period: its name and its two days
unfoldable pub period_heading : List ℕ → Span → List ℕ
period_heading name s = line name (day_text s.from ∷ day_text s.to ∷ [])

abbrev pub receipts_text : Span → List NamedMove → ℤ → List ℕ
receipts_text s vs total =
    period_heading (codes "RECEIPTS") s ++ (flat_map signed_line vs ++ figure_line (codes "TOTAL") total)

abbrev pub disbursements_text : Span → List NamedMove → ℤ → List ℕ
disbursements_text s vs total =
    period_heading (codes "DISBURSEMENTS") s
    ++ (flat_map disbursed_line vs ++ figure_line (codes "TOTAL") (neg_ℤ total))

-- What waits for the bank, signed, with the two figures of the reconciliation.

-- movements and their sum
abbrev pub waiting_text : List ℕ → List NamedMove → ℤ → List ℕ
waiting_text label vs total = flat_map signed_line vs ++ figure_line label total

abbrev pub outstanding_text : ℕ → List NamedMove → ℤ → List NamedMove → ℤ → List ℕ
outstanding_text p transit in_transit out outstanding =
    heading (codes "OUTSTANDING ITEMS") p
    ++ (waiting_text (codes "IN TRANSIT") transit in_transit
    ++ waiting_text (codes "OUTSTANDING") out outstanding)
