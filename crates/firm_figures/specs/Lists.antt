-- The journal list, the trial balance and the retention list as they are now, and how they are built from rows that
-- arrive one at a time.
use Rattle.std.specs.Prelude.{ℕ, Bool, false, Option, Some, None, cond, ◌==◌, nat_lt, List, [], ◌∷◌, ◌++◌, map, ℤ, pos, ◌+ℤ◌, is_none, fold}
use Rattle.std.specs.List.{flat_map}
use Rattle.trust_base.specs.Retention.{retained_until}
use Rattle.matter_rows.specs.declared.head.Head.{Head}
use Rattle.matter_rows.specs.Balances.{ledger}
use Rattle.matter_rows.specs.Rows.{is_of_nobody}
use Rattle.firm_rows.specs.declared.movement.Movement.{Movement}
use Rattle.firm_rows.specs.declared.ledger.FirmLine.{FirmLine}
use Rattle.firm_figures.specs.declared.journal_sink.JournalLine.{JournalLine}
use Rattle.firm_figures.specs.declared.retention_sink.RetentionLine.{RetentionLine}
use Rattle.firm_figures.specs.declared.trial_sink.TrialLine.{TrialLine}
use Rattle.firm_rows.specs.Sums.{sum_of}
use Rattle.firm_rows.specs.FirmLines.{balance_of}
use Rattle.firm_rows.specs.Firm.{Row, HeadRow, SeatRow, EntryRow, Firm, of}
use Rattle.firm_rows.specs.Journal.{ledger_share}
use Rattle.firm_figures.specs.Reconciling.{added}

-- The journal.

-- each movement with the running sum, which starts at z
abbrev pub journal_from : ℤ → List Movement → List JournalLine
journal_from z [] = []
journal_from z (v ∷ vs) = record { movement = v; sum = z +ℤ v.amount } ∷ journal_from (z +ℤ v.amount) vs

-- each movement with the running sum, in the order of the list
abbrev pub journal_of : List Movement → List JournalLine
journal_of movements = journal_from (pos 0) movements

-- the firm's journal, in the order of acceptance
abbrev pub journal_list : Firm → List JournalLine
journal_list firm = journal_of firm.movements

-- the last running sum; z if the list is empty
abbrev pub last_sum : ℤ → List JournalLine → ℤ
last_sum z [] = z
last_sum z (l ∷ ls) = last_sum l.sum ls

-- what the journal's sink stores
pub record JournalKept : Type 0 where
  pub lines : List JournalLine
  pub sum : ℤ

abbrev pub no_journal : JournalKept
no_journal = record { lines = []; sum = pos 0 }

abbrev pub with_moved : JournalKept → Movement → JournalKept
with_moved s v = record {
  lines = s.lines ++ (record { movement = v; sum = added s.sum v.amount } ∷ []);
  sum = added s.sum v.amount;
}

-- The trial balance.

-- the open matters, in the order of their heads
abbrev pub open_matters : List (ℕ × Row) → List ℕ
open_matters [] = []
open_matters ((m, HeadRow h) ∷ rows) = cond (is_none h.closed) (m ∷ open_matters rows) (open_matters rows)
open_matters ((m, SeatRow seat) ∷ rows) = open_matters rows
open_matters ((m, EntryRow number entry) ∷ rows) = open_matters rows

-- each open matter with its ledger
abbrev pub trial_lines : Firm → List TrialLine
trial_lines firm = map (λ m. record { matter = m; ledger = ledger (of m firm).entries }) (open_matters firm.rows)

-- TOTAL: the sum of these and of the firm's own balance
abbrev pub trial_total : Firm → ℤ
trial_total firm = sum_of (λ l. l.ledger) (trial_lines firm) +ℤ balance_of firm.firm_lines

-- what the trial balance's sink stores
pub record TrialKept : Type 0 where
  pub lines : List TrialLine
  pub own : ℤ

abbrev pub no_trial : TrialKept
no_trial = record { lines = []; own = pos 0 }

-- with an amount added to the last line, if that is of this matter
abbrev pub add_last : ℕ → ℤ → List TrialLine → List TrialLine
add_last m z [] = []
add_last m z (l ∷ []) = cond (l.matter == m) (record l { ledger = added l.ledger z }) l ∷ []
add_last m z (l ∷ k ∷ ls) = l ∷ add_last m z (k ∷ ls)

abbrev pub with_trial_row : TrialKept → ℕ × Row → TrialKept
with_trial_row s (m, HeadRow h) = record s {
  lines = cond (is_none h.closed) (s.lines ++ (record { matter = m; ledger = pos 0 } ∷ [])) s.lines;
}
with_trial_row s (m, SeatRow seat) = s
with_trial_row s (m, EntryRow number e) = record s { lines = add_last m (ledger_share e) s.lines }

abbrev pub with_trial_own : TrialKept → FirmLine → TrialKept
with_trial_own s l = record s { own = added s.own l.amount }

-- there is a head, and it has no closing day
abbrev pub is_open : Option Head → Bool
is_open None = false
is_open (Some h) = is_none h.closed

-- what the sink stores from all rows and lines of a firm
abbrev pub trial_kept : Firm → TrialKept
trial_kept firm = fold with_trial_own (fold with_trial_row no_trial firm.rows) firm.firm_lines

-- the lines, and the firm's own balance
abbrev pub trial_of : Firm → TrialKept
trial_of firm = record { lines = trial_lines firm; own = balance_of firm.firm_lines }

-- the sum of what is stored, in 128 bits
abbrev pub trial_sum : TrialKept → ℤ
trial_sum s = fold (λ z (l : TrialLine). added z l.ledger) s.own s.lines

-- The retention list: how long the records of each closed matter are kept.

-- a closed matter: until when its records are kept, and whether it may be purged on the business day, which it may from
-- the day after
abbrev pub closed_line : ℕ → ℕ → Option ℕ → List RetentionLine
closed_line today m None = []
closed_line today m (Some day) = record {
  matter = m;
  closed = day;
  until = retained_until day;
  may_purge = nat_lt (retained_until day) today;
} ∷ []

-- empty for a purged matter
abbrev pub retention_line : ℕ → ℕ × Row → List RetentionLine
retention_line today (m, HeadRow head) = cond (is_of_nobody head.holder) [] (closed_line today m head.closed)
retention_line today (m, SeatRow seat) = []
retention_line today (m, EntryRow number entry) = []

-- every closed matter that was not purged, in the order of the rows
abbrev pub retention_list : ℕ → Firm → List RetentionLine
retention_list today firm = flat_map (retention_line today) firm.rows

-- what the sink stores
pub record Retained : Type 0 where
  pub today : ℕ
  pub lines : List RetentionLine

abbrev pub none_retained : ℕ → Retained
none_retained today = record { today = today; lines = [] }

abbrev pub with_row_retained : Retained → ℕ × Row → Retained
with_row_retained s row = record s { lines = s.lines ++ retention_line s.today row }
