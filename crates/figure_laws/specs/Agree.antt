-- What is always true of the figures and the lists of a sound firm.
use Rattle.std.specs.List.{filter, AllByRecursion}
use Rattle.std.specs.Prelude.{◌≡◌, ℕ, ℤ, pos, ◌+ℤ◌, ◌≤ℤ◌, true}
use Rattle.firm_rows.specs.Firm.{Firm, of}
use Rattle.firm_rows.specs.FirmSound.{IsInOrder, FirmSound}
use Rattle.firm_rows.specs.Journal.{amount_for}
use Rattle.firm_rows.specs.Sums.{sum_of}
use Rattle.firm_figures.specs.Clients.{ledger_as_of, client_lines, clients_total}
use Rattle.firm_figures.specs.Figures.{is_moved_by, journal, ledgers, figures}
use Rattle.firm_figures.specs.Lists.{journal_list, last_sum, trial_lines, trial_total, is_open}
use Rattle.firm_figures.specs.declared.figures.ReconciliationFigures.{ReconciliationFigures}

-- The figures.

-- the journal equals the ledgers, and the difference to the adjusted balance is explained
pub record FiguresAgree (f : ReconciliationFigures) : Type 0 where
  pub journal : f.journal ≡ f.ledgers
  pub difference : f.difference ≡ (f.exceptions +ℤ f.early) +ℤ f.gap

abbrev pub AlwaysAgree : Type 0
AlwaysAgree = (p : ℕ) (closing : ℤ) (firm : Firm) → FirmSound firm → FiguresAgree (figures p closing firm)

-- The journal and the trial balance.

-- every matter of the trial balance is open
abbrev pub ListedAreOpen : Type 0
ListedAreOpen =
    (firm : Firm) → IsInOrder firm → AllByRecursion (λ l. is_open (of l.matter firm).head ≡ true) (trial_lines firm)

-- in a sound firm no running sum of the journal is negative, and the last one is the trial balance's TOTAL
pub record ListsAgree (firm : Firm) : Type 0 where
  pub covered : AllByRecursion (λ l. pos 0 ≤ℤ l.sum) (journal_list firm)
  pub total : last_sum (pos 0) (journal_list firm) ≡ trial_total firm

abbrev pub ListsAlwaysAgree : Type 0
ListsAlwaysAgree = (firm : Firm) → FirmSound firm → ListsAgree firm

-- The list of clients.

-- TOTAL of the list is the figures LEDGERS and JOURNAL of the same day, and no client's ledger as of the day is
-- negative
pub record ClientsAgree (p : ℕ) (firm : Firm) : Type 0 where
  pub ledgers : clients_total p firm ≡ ledgers p firm
  pub journal : clients_total p firm ≡ journal p firm
  pub covered : AllByRecursion (λ l. pos 0 ≤ℤ l.ledger) (client_lines p firm)

abbrev pub ClientsAlwaysAgree : Type 0
ClientsAlwaysAgree = (p : ℕ) (firm : Firm) → FirmSound firm → ClientsAgree p firm

-- a matter's ledger as of a day is the sum of its movements by the day
abbrev pub LedgersAsOfAreMoved : Type 0
LedgersAsOfAreMoved =
    (p m : ℕ) (firm : Firm) → FirmSound firm
    → ledger_as_of p (of m firm).entries ≡ sum_of (amount_for m) (filter (is_moved_by p) firm.movements)
