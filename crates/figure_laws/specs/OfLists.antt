-- What a sink gives of rows that arrive one at a time is what is asked of the same rows at once.
use Rattle.std.specs.Prelude.{◌≡◌, ℕ, fold}
use Rattle.firm_rows.specs.Countable.{IsCountable}
use Rattle.firm_rows.specs.Firm.{Firm}
use Rattle.firm_rows.specs.FirmSound.{FirmSound}
use Rattle.firm_figures.specs.Lists.{no_journal, with_moved, journal_list, trial_kept, trial_of, trial_sum, trial_total}
use Rattle.firm_figures.specs.Reconciliations.{all_kept, kept_told, reconciliation_on}
use Rattle.firm_figures.specs.Lists.{none_retained, with_row_retained, retention_list}

-- on the left what `finish` of each sink gives once all rows of the firm have arrived, as of the day and the business
-- day; on the right what is asked of the firm
pub record SinkGivesTheSame (day today : ℕ) (firm : Firm) : Type 0 where
  pub reconciliation : kept_told (all_kept day firm) ≡ reconciliation_on day firm
  pub trial : trial_kept firm ≡ trial_of firm
  pub total : trial_sum (trial_kept firm) ≡ trial_total firm
  pub journal : (fold with_moved no_journal firm.movements).lines ≡ journal_list firm
  pub retention : (fold with_row_retained (none_retained today) firm.rows).lines ≡ retention_list today firm

-- of every sound, countable firm
abbrev pub SinksGiveTheSame : Type 0
SinksGiveTheSame = (day today : ℕ) (firm : Firm) → FirmSound firm → IsCountable firm → SinkGivesTheSame day today firm
