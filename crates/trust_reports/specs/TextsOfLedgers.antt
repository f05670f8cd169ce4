-- A client's ledger card: the matter, each entry in its current state, and the balances. Also the firm's own card.
use Rattle.std.specs.Prelude.{◌≡◌, ℕ, ◌+◌, ℤ, pos, List, [], ◌∷◌, ◌++◌, codes, flat_map, Option, Some, None}
use Rattle.trust_base.specs.Texts.{amount_text, day_text, entry_text, matter_text, signed_text}
use Rattle.matter_rows.specs.declared.head.Head.{Head}
use Rattle.matter_rows.specs.declared.head.Holder.{Holder}
use Rattle.matter_rows.specs.declared.head.Holder.TheVariants as holder
use Rattle.matter_rows.specs.declared.clearing.Clearing.{Clearing}
use Rattle.matter_rows.specs.declared.deposit.Deposit.{Deposit}
use Rattle.matter_rows.specs.declared.deposit.DepositState.{DepositState}
use Rattle.matter_rows.specs.declared.deposit.DepositState.TheVariants as deposit
use Rattle.matter_rows.specs.declared.payment.Payment.{Payment}
use Rattle.matter_rows.specs.declared.payment.Fund.{Fund}
use Rattle.matter_rows.specs.declared.payment.Fund.TheVariants as fund
use Rattle.matter_rows.specs.declared.payment.PaymentState.{PaymentState}
use Rattle.matter_rows.specs.declared.payment.PaymentState.TheVariants as payment
use Rattle.matter_rows.specs.declared.fee.Fee.{Fee}
use Rattle.matter_rows.specs.declared.claim.Against.{Against}
use Rattle.matter_rows.specs.declared.claim.Against.TheVariants as against
use Rattle.matter_rows.specs.declared.claim.Claim.{Claim}
use Rattle.matter_rows.specs.declared.claim.ClaimState.{ClaimState}
use Rattle.matter_rows.specs.declared.claim.ClaimState.TheVariants as claim
use Rattle.matter_rows.specs.declared.entry.Entry.{Entry}
use Rattle.matter_rows.specs.declared.entry.Entry.TheVariants as entry
use Rattle.matter_rows.specs.Rows.{Rows, closed_on}
use Rattle.matter_rows.specs.Balances.{available, claims, disputed, fees, held, left_of, total}
use Rattle.matter_rows.specs.Sound.{Sound}
use Rattle.matter_parts.specs.declared.figures.Figures.{Figures}
use Rattle.matter_parts.specs.declared.kept.Kept.{Kept}
use Rattle.matter_parts.specs.Parts.{IsWhole, Part, total_kept}
use Rattle.firm_rows.specs.declared.ledger.FirmLine.{FirmLine}
use Rattle.firm_rows.specs.FirmLines.{balance_of}
use Rattle.trust_reports.specs.Texts.{column, heading, line, or_dash, words_shown}

-- The heading.

-- the client's label; a dash if there is no client
abbrev pub holder_text : Holder → List ℕ
holder_text (holder.Client c) = c
holder_text (holder.Purged day) = codes "-"

abbrev pub client_text : Option Head → List ℕ
client_text None = codes "-"
client_text (Some h) = holder_text h.holder

abbrev pub day_or_dash : Option ℕ → List ℕ
day_or_dash None = codes "-"
day_or_dash (Some day) = day_text day

abbrev pub opened_on : Option Head → Option ℕ
opened_on None = None
opened_on (Some h) = Some h.opened

abbrev pub ledger_heading : ℕ → Option Head → List ℕ
ledger_heading m head =
    line (codes "LEDGER") (matter_text m ∷ client_text head ∷ [])
    ++ line (codes "OPENED") (day_or_dash (opened_on head) ∷ codes "CLOSED" ∷ day_or_dash (closed_on head) ∷ [])

-- An entry.

-- after a bar
abbrev pub barred : List ℕ → List (List ℕ)
barred text = codes "|" ∷ text ∷ []

-- what the bank reported: its day and its own reference
abbrev pub told : List ℕ → Clearing → List (List ℕ)
told word c = word ∷ day_text c.bank_day ∷ c.bank_ref ∷ []

abbrev pub deposit_state : DepositState → List (List ℕ)
deposit_state deposit.Held = codes "HELD" ∷ []
deposit_state (deposit.Cleared c) = told (codes "CLEARED") c
deposit_state (deposit.Cancelled day) = codes "CANCELLED" ∷ day_text day ∷ []
deposit_state (deposit.Returned r) = told (codes "CLEARED") r.clearing ++ told (codes "RETURNED") r.returning

abbrev pub payment_state : PaymentState → List (List ℕ)
payment_state payment.Proposed = codes "PROPOSED" ∷ []
payment_state payment.Declined = codes "DECLINED" ∷ []
payment_state (payment.Issued day) = codes "ISSUED" ∷ day_text day ∷ []
payment_state (payment.Cleared c) = codes "ISSUED" ∷ day_text c.issued ∷ told (codes "CLEARED") c.clearing
payment_state (payment.Voided v) = codes "ISSUED" ∷ day_text v.issued ∷ codes "VOIDED" ∷ day_text v.undone ∷ []

-- what became of an issued payment: the bank paid it, or it was voided
abbrev pub end_fields : PaymentState → List (List ℕ)
end_fields payment.Proposed = []
end_fields payment.Declined = []
end_fields (payment.Issued day) = []
end_fields (payment.Cleared c) = told (codes "CLEARED") c.clearing
end_fields (payment.Voided v) = codes "VOIDED" ∷ day_text v.undone ∷ []

-- what a payment is paid from
abbrev pub fund_fields : Fund → List (List ℕ)
fund_fields fund.General = codes "FROM GENERAL" ∷ []
fund_fields (fund.Fee k) = codes "FROM FEE" ∷ entry_text k ∷ []
fund_fields (fund.Claim k) = codes "FROM CLAIM" ∷ entry_text k ∷ []

-- a claim with an offer is still open
abbrev pub claim_state : ClaimState → List (List ℕ)
claim_state claim.Open = codes "OPEN" ∷ []
claim_state (claim.Offered part) = codes "OPEN" ∷ []
claim_state (claim.Settled s) = codes "SETTLED" ∷ day_text s.day ∷ codes "TO CLIENT" ∷ amount_text s.part ∷ []

-- what a claim is on, and who makes it: if it is on a fee, the client
abbrev pub against_fields : Against → List (List ℕ)
against_fields (against.General claimant) = codes "ON GENERAL" ∷ barred claimant
against_fields (against.Fee k) = codes "ON FEE" ∷ entry_text k ∷ barred (codes "client")

-- an entry's day, kind and amount
abbrev pub made : ℕ → List ℕ → ℕ → List (List ℕ)
made book kind amount = day_text book ∷ kind ∷ amount_text amount ∷ []

-- a deposit's names, each after a bar
abbrev pub deposit_names : Deposit → List (List ℕ)
deposit_names d = barred d.source ++ barred d.description

abbrev pub deposit_fields : Deposit → List (List ℕ)
deposit_fields d = made d.book (codes "DEPOSIT") d.amount ++ (deposit_state d.state ++ deposit_names d)

-- a payment's names, each after a bar
abbrev pub payment_names : Payment → List (List ℕ)
payment_names p = barred p.payee ++ (barred p.purpose ++ barred p.instrument)

abbrev pub payment_fields : Payment → List (List ℕ)
payment_fields p =
    made p.book (codes "PAYMENT") p.amount ++ (payment_state p.state ++ (fund_fields p.fund ++ payment_names p))

abbrev pub fee_fields : Fee → ℤ → List (List ℕ)
fee_fields f left = made f.book (codes "FEE") f.amount ++ (codes "LEFT" ∷ signed_text left ∷ barred f.description)

abbrev pub claim_fields : Claim → List (List ℕ)
claim_fields c =
    made c.book (codes "CLAIM") c.amount
    ++ (claim_state c.state ++ (against_fields c.against ++ barred c.reason))

-- an entry, with what is left of it if it is a fee
abbrev pub entry_fields : Entry → ℤ → List (List ℕ)
entry_fields (entry.Deposit d) left = deposit_fields d
entry_fields (entry.Payment p) left = payment_fields p
entry_fields (entry.Fee f) left = fee_fields f left
entry_fields (entry.Claim c) left = claim_fields c

abbrev pub kept_line : Kept → List ℕ
kept_line k = line (entry_text k.number) (entry_fields k.entry (pos k.left))

-- the lines of entries numbered from n on, each with what is left of it among all entries
abbrev pub entry_lines : List Entry → ℕ → List Entry → List ℕ
entry_lines es n [] = []
entry_lines es n (e ∷ some) = line (entry_text n) (entry_fields e (left_of es n e)) ++ entry_lines es (n + 1) some

-- The balances: labels take 10 places, figures 18.

abbrev pub balance_line : List ℕ → ℤ → List ℕ
balance_line label cents = column 10 18 label (signed_text cents)

abbrev pub balance_lines : ℤ → ℤ → ℤ → ℤ → ℤ → ℤ → List ℕ
balance_lines a h f c d t =
    balance_line (codes "AVAILABLE") a
    ++ (balance_line (codes "HELD") h
    ++ (balance_line (codes "FEES") f
    ++ (balance_line (codes "CLAIMS") c
    ++ (balance_line (codes "DISPUTED") d
    ++ balance_line (codes "TOTAL") t))))

-- from the stored totals
abbrev pub kept_balances : Figures → List ℕ
kept_balances f =
    balance_lines (pos f.available) (pos f.held) (pos f.fees) (pos f.claims) (pos f.disputed) (pos (total_kept f))

-- added up from the entries
abbrev pub added_balances : List Entry → List ℕ
added_balances es = balance_lines (available es) (held es) (fees es) (claims es) (disputed es) (total es)

-- The card.

-- from what is loaded of the matter
abbrev pub ledger_card : ℕ → Part → List ℕ
ledger_card m matter = ledger_heading m matter.head ++ (flat_map kept_line matter.kept ++ kept_balances matter.figures)

-- from the rows: each entry by number, and the balances added up from the entries
abbrev pub ledger_card_of : ℕ → Rows → List ℕ
ledger_card_of m rows =
    ledger_heading m rows.head ++ (entry_lines rows.entries 1 rows.entries ++ added_balances rows.entries)

-- the card of a matter with all entries of sound rows loaded is that of the rows
abbrev pub WholeCardIsOfRows : Type 0
WholeCardIsOfRows =
    (m : ℕ) (matter : Part) (rows : Rows) → Sound rows → IsWhole matter rows
    → ledger_card m matter ≡ ledger_card_of m rows

-- The firm's own card.

-- a line of the firm's own: its day, the bank's reference, the signed amount, and the line's text
abbrev pub own_line : FirmLine → List ℕ
own_line l = line (day_text l.date) (or_dash l.bank_ref ∷ signed_text l.amount ∷ words_shown l.text ∷ [])

-- on a business day: the lines in the order of acceptance, and their sum
abbrev pub own_card_text : ℕ → List FirmLine → List ℕ
own_card_text today lines =
    heading (codes "LEDGER FIRM") today
    ++ (flat_map own_line lines ++ balance_line (codes "TOTAL") (balance_of lines))
