-- Worked cases: bank lines for one matter, their verdicts, and the rows after them.
use Rattle.std.specs.Prelude.{◌≡◌, ℕ, List, [], ◌∷◌, Some, None, codes, ℤ, pos, ◌-ℤ◌}
use Rattle.matter_rows.specs.declared.head.Holder.TheVariants as holder
use Rattle.matter_rows.specs.declared.payment.Fund.TheVariants as fund
use Rattle.matter_rows.specs.declared.clearing.Clearing.{Clearing}
use Rattle.matter_rows.specs.declared.deposit.DepositState.{DepositState}
use Rattle.matter_rows.specs.declared.deposit.DepositState.TheVariants as deposit
use Rattle.matter_rows.specs.declared.payment.PaymentState.{PaymentState}
use Rattle.matter_rows.specs.declared.entry.Entry.{Entry}
use Rattle.matter_rows.specs.Rows.{Rows}
use Rattle.trust_matter.specs.declared.bank_line.BankLine.{BankLine}
use Rattle.trust_matter.specs.declared.line_verdict.Reason.{Reason}
use Rattle.trust_matter.specs.declared.line_verdict.LineEffect.TheVariants as told
use Rattle.trust_matter.specs.LineStep.{IsApplied, line_on, rows_after_line}
use Rattle.matter_laws.specs.Cases.{seat_of_lee}
use Rattle.trust_matter.specs.Examples.{received, paid}

-- The verdict on a line.

-- the line is applied and leaves these rows
pub record Clears (rows : Rows) (l : BankLine) (today : ℕ) (later : Rows) : Type 0 where
  pub applied : IsApplied (line_on rows l today)
  pub leaves : rows_after_line rows l today ≡ later

-- the line is a repeat and changes nothing
pub record ComesAgain (rows : Rows) (l : BankLine) (today : ℕ) : Type 0 where
  pub repeat : line_on rows l today ≡ told.Repeat
  pub leaves : rows_after_line rows l today ≡ rows

-- the line matches no entry and changes nothing
pub record Misses (rows : Rows) (l : BankLine) (today : ℕ) (r : Reason) : Type 0 where
  pub unmatched : line_on rows l today ≡ told.Unmatched r
  pub leaves : rows_after_line rows l today ≡ rows

-- Days in January 2024.

abbrev pub ninth : ℕ
ninth = 20240109

abbrev pub tenth : ℕ
tenth = 20240110

abbrev pub eleventh : ℕ
eleventh = 20240111

abbrev pub twelfth : ℕ
twelfth = 20240112

abbrev pub thirteenth : ℕ
thirteenth = 20240113

abbrev pub fourteenth : ℕ
fourteenth = 20240114

-- The lines.

-- a line for entry `number`: of so many cents, dated `day`, with this text
abbrev pub in_words : List ℕ → ℕ → ℕ → List ℕ → ℤ → BankLine
in_words text number day bank_ref cents = record {
  matter = 1;
  entry = number;
  line = record { date = day; reference = codes "M000001"; bank_ref = bank_ref; amount = cents; text = text };
}

abbrev pub line_for : ℕ → ℕ → List ℕ → ℤ → BankLine
line_for number day bank_ref cents = in_words [] number day bank_ref cents

-- an amount that goes out, as a negative number
abbrev pub out : ℕ → ℤ
out cents = pos 0 -ℤ pos cents

abbrev pub b1 : List ℕ
b1 = codes "B1"

abbrev pub b2 : List ℕ
b2 = codes "B2"

-- The rows.

abbrev pub cleared_on : ℕ → List ℕ → Clearing
cleared_on day bank_ref = record { bank_day = day; bank_ref = bank_ref }

-- a matter with these entries, last changed on `last`
abbrev pub with_entries : ℕ → List Entry → Rows
with_entries last entries = record {
  head = Some (record { holder = holder.Client (codes "Ada Chen"); opened = tenth; closed = None; last = last });
  seats = seat_of_lee ∷ [];
  entries = entries;
}

-- a deposit of 500.00 in some state
abbrev pub deposit_in : ℕ → DepositState → Rows
deposit_in last state = with_entries last (received tenth 50000 state ∷ [])

-- the same, taken back by the bank on the thirteenth; the return was booked on `day`
abbrev pub returned_in : ℕ → ℕ → Rows
returned_in last day = deposit_in last (deposit.Returned (record {
  clearing = cleared_on twelfth b1;
  returning = cleared_on thirteenth b2;
  undone = day;
}))

-- a cleared deposit of 500.00, and a payment of 100.00 in some state
abbrev pub payment_in : ℕ → PaymentState → Rows
payment_in last state =
    with_entries last
    (received tenth 50000 (deposit.Cleared (cleared_on tenth b1)) ∷ paid tenth 10000 fund.General state ∷ [])
