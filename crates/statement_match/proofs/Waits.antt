-- An entry that waits is a held deposit or an issued payment.
use Rattle.statement_match.proofs.Names.{◌≡◌, ℕ, [], ◌∷◌, arith, Contains, DepositState, PaymentState, Entry, Firm, Row, flat_map_from, held_of, row_waiting, reference_text, Waiting, waiting_deposit, waiting_payment, deposit_waiting, entry_waiting, payment_waiting, ints, nat_tests}
use Rattle.matter_rows.specs.declared.deposit.Deposit.{Deposit}
use Rattle.matter_rows.specs.declared.deposit.DepositState.TheVariants as deposit
use Rattle.matter_rows.specs.declared.payment.Payment.{Payment}
use Rattle.matter_rows.specs.declared.payment.PaymentState.TheVariants as payment
use Rattle.matter_rows.specs.declared.entry.Entry.TheVariants as entry

pub none_there : {A : Type 0} (x : A) → Contains [] x → ⊥
none_there x (k, lt, is) = omega arith

pub the_one : {A : Type 0} (y x : A) → Contains (y ∷ []) x → y ≡ x
the_one y x x2 = grind (arith, ints, nat_tests)

-- what holds of both holds of an entry that waits
module _ (P : Entry → Type 0) (m n : ℕ) (w : Waiting)
    (held : (d : Deposit) → d.state ≡ deposit.Held
    → waiting_deposit (reference_text m n) d.amount d.source d.description ≡ w → P (entry.Deposit d))
    (issued : (p : Payment) (day : ℕ) → p.state ≡ payment.Issued day
    → waiting_payment (reference_text m n) p.amount day p.instrument ≡ w → P (entry.Payment p)) where
  by_deposit : (d : Deposit) (s : DepositState) → d.state ≡ s → Contains (deposit_waiting m n d s) w
      → P (entry.Deposit d)
  by_deposit d s is there = grind (arith, ints, nat_tests, the_one, none_there)

  by_payment : (p : Payment) (s : PaymentState) → p.state ≡ s → Contains (payment_waiting m n p s) w
      → P (entry.Payment p)
  by_payment p s is there = grind (arith, ints, nat_tests, none_there, the_one)

  pub by_waiting : (e : Entry) → Contains (entry_waiting m n e) w → P e
  by_waiting e there = grind (arith, ints, nat_tests, by_deposit, by_payment, none_there)

-- an entry that waits is of a row
pub row_of : (firm : Firm) (w : Waiting) → Contains (held_of firm).waiting w
    → (p : ℕ × Row) × Contains firm.rows p × Contains (row_waiting p) w
unfolding held_of
row_of firm w there = flat_map_from row_waiting firm.rows w there
