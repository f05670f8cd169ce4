-- The reports of a firm. Each is the text of a list made from its rows.
use Rattle.std.specs.Prelude.{ℕ, Bool, nat_lt, List, [], ◌∷◌, ◌++◌, Option, Some, None, is_none}
use Rattle.trust_base.specs.Periods.{Span, month_to}
use Rattle.firm_rows.specs.Firm.{Firm}
use Rattle.firm_rows.specs.FirmLines.{balance_of}
use Rattle.firm_audit.specs.Trails.{acts_in, earlier_matters}
use Rattle.trust_reports.specs.Clients.{client_lines, clients_total}
use Rattle.trust_reports.specs.Figures.{closing_on, own_by}
pub use Rattle.trust_reports.specs.Purged.{is_period_purged, is_purged_at}
pub use Rattle.firm_periods.specs.Named.{is_purged_within}
use Rattle.firm_periods.specs.Approvals.{approvals}
use Rattle.firm_periods.specs.Named.{disbursements, out_named, receipts, sum_moved, transit_named}
use Rattle.trust_reports.specs.Reconciliations.{ReconciliationTold, reconciliation_on}
use Rattle.trust_reports.specs.Lists.{journal_list, trial_lines, trial_total}
use Rattle.trust_reports.specs.Lists.{retention_list}
use Rattle.trust_reports.specs.TextsOfActs.{approvals_text, matter_trail_text, trail_text}
use Rattle.trust_reports.specs.TextsOfClients.{clients_text}
use Rattle.trust_reports.specs.TextsOfLedgers.{own_card_text}
use Rattle.trust_reports.specs.TextsOfLists.{exceptions_text, journal_text, retention_text, trial_text}
use Rattle.trust_reports.specs.TextsOfPeriods.{disbursements_text, outstanding_text, receipts_text}
use Rattle.trust_reports.specs.TextsOfReconciliation.{reconciliation_text}

-- On a business day.

-- the ledgers of the open matters, the firm's own balance, and their sum
unfoldable pub trial_report : ℕ → Firm → List ℕ
trial_report today firm = trial_text today (trial_lines firm) (balance_of firm.firm_lines) (trial_total firm)

-- all movements in the order of acceptance, each with the sum so far
unfoldable pub journal_report : ℕ → Firm → List ℕ
journal_report today firm = journal_text today (journal_list firm)

-- the closed matters that were not purged, and until when their records are kept
unfoldable pub retention_report : ℕ → Firm → List ℕ
retention_report today firm = retention_text today (retention_list today firm)

-- the bank lines that match nothing
unfoldable pub exceptions_report : ℕ → Firm → List ℕ
exceptions_report today firm = exceptions_text today firm.exceptions

-- the lines of the firm's own in the order of acceptance, and their sum
unfoldable pub own_card_report : ℕ → Firm → List ℕ
own_card_report today firm = own_card_text today firm.firm_lines

-- some matter that is there is older than its acts, as the audit of the trail counts them
abbrev pub begins_late : Firm → Bool
begins_late firm = nat_lt 0 (earlier_matters firm)

-- who did what, and which exceptions were dismissed, each in the order of acceptance; with a line that says so if the
-- acts begin later than some matter
unfoldable pub trail_report : ℕ → Firm → List ℕ
trail_report today firm = trail_text today (begins_late firm) firm.acts firm.dismissals

-- who did what in one matter
unfoldable pub matter_trail_report : ℕ → ℕ → Firm → List ℕ
matter_trail_report m today firm = matter_trail_text today m (acts_in m firm.acts)

-- As of a day.

-- the bank reported no closing balance of the day
unfoldable pub has_no_statement : ℕ → Firm → Bool
has_no_statement day firm = is_none (closing_on day firm.balances)

abbrev pub text_of : ℕ → Option ReconciliationTold → List ℕ
text_of day None = []
text_of day (Some r) = reconciliation_text day r

-- the figures and the lists; empty if there is no closing balance of the day
unfoldable pub reconciliation_report : ℕ → Firm → List ℕ
reconciliation_report day firm = text_of day (reconciliation_on day firm)

-- the ledgers of the matters that were open, with their clients, the firm's own balance, and their sum
unfoldable pub clients_report : ℕ → Firm → List ℕ
clients_report day firm = clients_text day (client_lines day firm) (own_by day firm) (clients_total day firm)

-- the deposits in transit and the outstanding payments, with their names, each with their sum
unfoldable pub outstanding_report : ℕ → Firm → List ℕ
outstanding_report day firm =
    outstanding_text day
    (transit_named day firm) (sum_moved (transit_named day firm))
    (out_named day firm) (sum_moved (out_named day firm))

-- Of a period.

-- its receipts with their names, and their sum
unfoldable pub receipts_report : Span → Firm → List ℕ
receipts_report s firm = receipts_text s (receipts s.from s.to firm) (sum_moved (receipts s.from s.to firm))

-- its disbursements with their names, and their sum
unfoldable pub disbursements_report : Span → Firm → List ℕ
disbursements_report s firm =
    disbursements_text s (disbursements s.from s.to firm) (sum_moved (disbursements s.from s.to firm))

-- the payments issued in it, each with who approved it, where every act can be read
unfoldable pub approvals_report : Span → Firm → List ℕ
approvals_report s firm = approvals_text s (approvals s firm) []

-- Of a month's end.

-- parts with an empty line between two of them
abbrev pub parts : List ℕ → List (List ℕ) → List ℕ
parts text [] = text
parts text (more ∷ rest) = text ++ (10 ∷ parts more rest)

-- the packet: the reconciliation, the clients and what waits as of the day, and what was received and disbursed from
-- the first of its month on, with who approved it
unfoldable pub month_report : ℕ → Firm → List ℕ
month_report day firm =
    parts (reconciliation_report day firm)
    (clients_report day firm
    ∷ outstanding_report day firm
    ∷ receipts_report (month_to day) firm
    ∷ disbursements_report (month_to day) firm
    ∷ approvals_report (month_to day) firm
    ∷ [])
