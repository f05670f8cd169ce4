-- The outcome for the lines of a statement over the rows of a firm.
use Rattle.std.specs.Prelude.{◌≡◌, ◌≢◌, ◌⊎◌, ℕ, ◌<◌, Bool, true, List, length, slice_index_or}
use Rattle.std.specs.List.{Contains}
use Rattle.trust_base.specs.Limits.{IsMatterNo}
use Rattle.trust_base.specs.declared.line.Line.{Line}
use Rattle.matter_rows.specs.declared.deposit.DepositState.TheVariants as deposit
use Rattle.matter_rows.specs.declared.deposit.Deposit.{Deposit}
use Rattle.matter_rows.specs.declared.payment.PaymentState.TheVariants as payment
use Rattle.matter_rows.specs.declared.payment.Payment.{Payment}
use Rattle.matter_rows.specs.declared.entry.Entry.TheVariants as entry
use Rattle.firm_rows.specs.Firm.{EntryRow, Firm, Row}
use Rattle.firm_rows.specs.FirmSound.{FirmSound}
use Rattle.statement_csv.specs.References.{reference_text}
use Rattle.statement_lines.specs.Waiting.{Waiting}
use Rattle.statement_lines.specs.Showing.{fits}
use Rattle.statement_lines.specs.declared.line_outcome.LineOutcome.TheVariants as outcome
use Rattle.statement_match.specs.Rule.{becomes}
use Rattle.statement_match.specs.Books.{held_of, row_waiting, with_matters}
use Rattle.statement_match.specs.Laws.{AreNamedApart, written_as}

-- Other matters' rows can only take a filling away: if a line is filled over a firm, and fits an entry of a matter, it
-- is filled with the same reference over that firm with the rows of some matters only, if that matter is one of them.
abbrev pub OtherMattersOnlyTakeAway : Type 0
OtherMattersOnlyTakeAway =
    (today : ℕ) (firm : Firm) (is_kept : ℕ → Bool) (lines : List Line) (line : Line) (reference : List ℕ)
    (m : ℕ) (row : Row) (w : Waiting)
    → is_kept m ≡ true → Contains firm.rows (m, row) → Contains (row_waiting (m, row)) w → fits today line w ≡ true
    → becomes today (held_of firm) lines line ≡ outcome.Filled reference
    → becomes today (held_of (with_matters is_kept firm)) lines line ≡ outcome.Filled reference

-- the row is a held deposit
pub record IsHeldRow (row : Row) (n : ℕ) : Type 0 where
  pub made : Deposit
  pub is : row ≡ EntryRow n (entry.Deposit made)
  pub held : made.state ≡ deposit.Held

-- the row is an issued payment
pub record IsIssuedRow (row : Row) (n : ℕ) : Type 0 where
  pub made : Payment
  pub day : ℕ
  pub is : row ≡ EntryRow n (entry.Payment made)
  pub issued : made.state ≡ payment.Issued day

-- the reference that a line is filled with is that of a held deposit or an issued payment: not FIRM, not a balance, and
-- not a cleared deposit, whose money would go back
abbrev pub FilledWaits : Type 0
FilledWaits =
    (today : ℕ) (firm : Firm) (lines : List Line) (line : Line) (reference : List ℕ)
    → becomes today (held_of firm) lines line ≡ outcome.Filled reference
    → (m : ℕ) × (n : ℕ) × (row : Row) × Contains firm.rows (m, row) × (reference ≡ reference_text m n)
    × (IsHeldRow row n ⊎ IsIssuedRow row n)

-- No entry is named twice.

-- each row's matter has a valid number
abbrev pub HasMatterNumbers : Firm → Type 0
HasMatterNumbers firm = (m : ℕ) (row : Row) → Contains firm.rows (m, row) → IsMatterNo m

-- no two waiting entries in a sound firm have the same reference
abbrev pub WaitApart : Type 0
WaitApart = (firm : Firm) → FirmSound firm → HasMatterNumbers firm → AreNamedApart (held_of firm).waiting

-- the reference that a line is filled with over a sound firm is not on any other line that is written
abbrev pub NoneIsNamedTwiceByFirms : Type 0
NoneIsNamedTwiceByFirms =
    (today : ℕ) (firm : Firm) (lines : List Line) (i k : ℕ) (d x : Line) (reference : List ℕ)
    → FirmSound firm → HasMatterNumbers firm → i < length lines → k < length lines → i ≢ k
    → becomes today (held_of firm) lines (slice_index_or lines i d) ≡ outcome.Filled reference
    → Contains
    (written_as (slice_index_or lines k d) (becomes today (held_of firm) lines (slice_index_or lines k d))) x
    → x.reference ≢ reference
