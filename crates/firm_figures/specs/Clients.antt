-- The list of the clients' ledgers as of a day, and how it is built from rows that arrive one at a time.
use Rattle.std.specs.Prelude.{ℕ, Bool, false, not, ◌&&◌, ◌||◌, nat_le, cond, ◌==◌, List, [], ◌∷◌, ◌++◌, map, ℤ, pos, ◌+ℤ◌, ◌≤ℤ◌, fold}
use Rattle.std.specs.List.{filter, flat_map}
use Rattle.matter_rows.specs.declared.head.Head.{Head}
use Rattle.matter_rows.specs.declared.head.Holder.{Holder}
use Rattle.matter_rows.specs.declared.head.Holder.TheVariants as holder
use Rattle.matter_rows.specs.declared.entry.Entry.{Entry}
use Rattle.matter_rows.specs.Rows.{is_of_nobody}
use Rattle.matter_rows.specs.Events.{events_of}
use Rattle.firm_rows.specs.declared.ledger.FirmLine.{FirmLine}
use Rattle.firm_rows.specs.Sums.{sum_of}
use Rattle.firm_rows.specs.Firm.{Row, HeadRow, SeatRow, EntryRow, Firm, of}
use Rattle.firm_rows.specs.FirmSound.{FirmSound}
use Rattle.firm_figures.specs.declared.clients_sink.ClientLine.{ClientLine}
use Rattle.firm_figures.specs.Figures.{is_by, is_dated_by, is_event_by, own_by}
use Rattle.firm_figures.specs.Purged.{is_head_purged_at, is_purged_at}
use Rattle.firm_figures.specs.Reconciling.{added, ledger_share_by}

-- The list.

-- the matter was opened on or before day p, and not closed by then
abbrev pub is_open_by : ℕ → Head → Bool
is_open_by p h = nat_le h.opened p && not (is_by p h.closed)

-- it was, and it was not purged since
abbrev pub is_listed : ℕ → Head → Bool
is_listed p h = is_open_by p h && not (is_of_nobody h.holder)

-- the client's label; empty if the matter was purged
abbrev pub client_in : Holder → List ℕ
client_in (holder.Client c) = c
client_in (holder.Purged day) = []

-- the ledger of a matter as of p: what its entries had moved on or before p
abbrev pub ledger_as_of : ℕ → List Entry → ℤ
ledger_as_of p es = sum_of (λ e. e.amount) (filter (is_event_by p) (flat_map events_of es))

-- the heads of the listed matters, each with its matter, in the order of the rows
abbrev pub open_heads : ℕ → List (ℕ × Row) → List (ℕ × Head)
open_heads p [] = []
open_heads p ((m, HeadRow h) ∷ rows) = cond (is_listed p h) ((m, h) ∷ open_heads p rows) (open_heads p rows)
open_heads p ((m, SeatRow seat) ∷ rows) = open_heads p rows
open_heads p ((m, EntryRow number entry) ∷ rows) = open_heads p rows

-- a matter with its client and its ledger as of p
abbrev pub client_line : ℕ → Firm → ℕ × Head → ClientLine
client_line p firm (m, h) = record {
  matter = m;
  client = client_in h.holder;
  ledger = ledger_as_of p (of m firm).entries;
}

-- each matter that was open as of p, with its client and its ledger as of p
abbrev pub client_lines : ℕ → Firm → List ClientLine
client_lines p firm = map (client_line p firm) (open_heads p firm.rows)

-- TOTAL: the sum of these and of the firm's own lines by p
abbrev pub clients_total : ℕ → Firm → ℤ
clients_total p firm = sum_of (λ l. l.ledger) (client_lines p firm) +ℤ own_by p firm

-- no matter's ledger as of any day is negative
abbrev pub LedgersAsOfCovered : Type 0
LedgersAsOfCovered = (p m : ℕ) (firm : Firm) → FirmSound firm → pos 0 ≤ℤ ledger_as_of p (of m firm).entries

-- How it is built.

-- what the sink stores
pub record ClientsKept : Type 0 where
  pub day : ℕ
  pub own : ℤ
  pub lines : List ClientLine
  pub purged : Bool

abbrev pub no_clients : ℕ → ClientsKept
no_clients p = record { day = p; own = pos 0; lines = []; purged = false }

-- with an amount added to the last line, if that is of this matter
abbrev pub add_to_last : ℕ → ℤ → List ClientLine → List ClientLine
add_to_last m z [] = []
add_to_last m z (l ∷ []) = cond (l.matter == m) (record l { ledger = added l.ledger z }) l ∷ []
add_to_last m z (l ∷ k ∷ ls) = l ∷ add_to_last m z (k ∷ ls)

abbrev pub with_client_row : ClientsKept → ℕ × Row → ClientsKept
with_client_row s (m, HeadRow h) = record s {
  lines = cond (is_listed s.day h)
      (s.lines ++ (record { matter = m; client = client_in h.holder; ledger = pos 0 } ∷ []))
      s.lines;
  purged = is_head_purged_at s.day h || s.purged;
}
with_client_row s (m, SeatRow seat) = s
with_client_row s (m, EntryRow n e) = record s { lines = add_to_last m (ledger_share_by s.day e) s.lines }

abbrev pub with_client_own : ClientsKept → FirmLine → ClientsKept
with_client_own s l = record s { own = added s.own (cond (is_dated_by s.day l) l.amount (pos 0)) }

-- the list, and whether it is no longer complete
abbrev pub clients_of : ℕ → Firm → ClientsKept
clients_of p firm = record {
  day = p;
  own = own_by p firm;
  lines = client_lines p firm;
  purged = is_purged_at p firm;
}

-- the sum of what is stored, in 128 bits
abbrev pub clients_sum : ClientsKept → ℤ
clients_sum s = fold (λ z (l : ClientLine). added z l.ledger) s.own s.lines
