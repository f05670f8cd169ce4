-- An entry that waits for the bank.
use Rattle.std.specs.Prelude.{ℕ, ℤ, pos, ◌-ℤ◌, List, ◌++◌, None}
use Rattle.statement_lines.specs.Numbers.{numbers as numbers_of, telling_numbers}

-- a held deposit or an issued payment
pub record Waiting : Type 0 where
  -- the reference that names it
  pub reference : List ℕ
  -- the amount of the line that clears it: positive for a deposit, negative for a payment
  pub amount : ℤ
  -- the first day on which that line may be dated: the day of issue for a payment, 0 for a deposit
  pub since : ℕ
  -- the numbers that identify it
  pub numbers : List (List ℕ)

-- a held deposit: it may be booked after the bank had it, and is identified by the telling numbers of its texts
abbrev pub waiting_deposit : List ℕ → ℕ → List ℕ → List ℕ → Waiting
waiting_deposit reference amount source description = record {
  reference = reference;
  amount = pos amount;
  since = 0;
  numbers = telling_numbers None source ++ telling_numbers None description;
}

-- a payment that was issued on a day: it is identified by the numbers of its instrument
abbrev pub waiting_payment : List ℕ → ℕ → ℕ → List ℕ → Waiting
waiting_payment reference amount issued instrument = record {
  reference = reference;
  amount = pos 0 -ℤ pos amount;
  since = issued;
  numbers = numbers_of instrument;
}
