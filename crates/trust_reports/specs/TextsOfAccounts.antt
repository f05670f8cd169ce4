-- How a client's statement of account is printed.
use Rattle.std.specs.Prelude.{◌≡◌, ℕ, List, [], ◌∷◌, ◌++◌, codes, flat_map, Option}
use Rattle.trust_base.specs.Periods.{Span}
use Rattle.trust_base.specs.Texts.{day_text, matter_text, signed_text}
use Rattle.matter_rows.specs.declared.head.Head.{Head}
use Rattle.matter_rows.specs.declared.entry.Entry.{Entry}
use Rattle.matter_rows.specs.declared.entry.Entry.TheVariants as entry
use Rattle.matter_rows.specs.Rows.{Rows}
use Rattle.matter_parts.specs.Parts.{IsWhole, Part}
use Rattle.firm_periods.specs.Accounts.{Accounted, AccountedMove, account_kept, account_of}
use Rattle.trust_reports.specs.Texts.{line, reference_text}
use Rattle.trust_reports.specs.TextsOfLedgers.{client_text, deposit_names, payment_names}
use Rattle.trust_reports.specs.TextsOfLists.{figure_line}
use Rattle.trust_reports.specs.TextsOfPeriods.{cause_text, period_heading}

-- the names of an entry, each after a bar, without the client, who stands in the heading
abbrev pub entry_names : Entry → List (List ℕ)
entry_names (entry.Deposit d) = deposit_names d
entry_names (entry.Payment p) = payment_names p
entry_names (entry.Fee f) = []
entry_names (entry.Claim c) = []

-- a movement: its day, its entry, its signed amount, the balance after it, why the money moved, and the names
abbrev pub account_line : ℕ → AccountedMove → List ℕ
account_line m l =
    line (day_text l.moved.day)
    (reference_text m l.number ∷ signed_text l.moved.amount ∷ signed_text l.ledger ∷ cause_text l.moved.cause
    ∷ entry_names l.entry)

-- the matter and its client
abbrev pub account_heading : ℕ → Option Head → List ℕ
account_heading m head = line (codes "ACCOUNT") (matter_text m ∷ client_text head ∷ [])

-- the opening balance, each movement, and the closing balance
abbrev pub account_body : ℕ → Accounted → List ℕ
account_body m a =
    figure_line (codes "OPENING") a.opening
    ++ (flat_map (account_line m) a.lines ++ figure_line (codes "CLOSING") a.closing)

abbrev pub account_printed : Span → ℕ → Option Head → Accounted → List ℕ
account_printed s m head a = account_heading m head ++ (period_heading (codes "PERIOD") s ++ account_body m a)

-- from what is loaded of the matter
abbrev pub account_text : Span → ℕ → Part → List ℕ
account_text s m matter = account_printed s m matter.head (account_kept s matter.kept)

-- from the rows
abbrev pub account_text_of : Span → ℕ → Rows → List ℕ
account_text_of s m rows = account_printed s m rows.head (account_of s rows.entries)

-- the account of a matter with all entries of its rows loaded is that of the rows
abbrev pub WholeAccountTextIsOfRows : Type 0
WholeAccountTextIsOfRows =
    (s : Span) (m : ℕ) (matter : Part) (rows : Rows) → IsWhole matter rows
    → account_text s m matter ≡ account_text_of s m rows
