-- A firm that is solvent and not sound: the money of one client has paid another's debt.
use Rattle.std.specs.Prelude.{◌≡◌, [], ◌∷◌, ◌++◌, Some, None, codes, pos, ◌-ℤ◌}
use Rattle.trust_matter.specs.Rows.{Rows}
use Rattle.trust_matter.specs.head.Head.{Head}
use Rattle.trust_matter.specs.head.Holder.TheVariants as holder
use Rattle.trust_matter.specs.deposit.DepositState.TheVariants as deposit
use Rattle.trust_matter.specs.payment.PaymentState.TheVariants as payment
use Rattle.trust_matter.specs.payment.Fund.TheVariants as fund
use Rattle.trust_matter.specs.Balances.{ledger}
use Rattle.trust_matter.specs.Examples.{seats, received, paid, told_on}
use Rattle.firm_rows.specs.declared.movement.Owner.TheVariants as owner
use Rattle.firm_rows.specs.Firm.{Firm, of, pairs}
use Rattle.firm_rows.specs.FirmSound.{IsInOrder, FirmSound, IsSolvent}
use Rattle.firm_rows.specs.Journal.{ledger_sum}

abbrev pub head_of : Head
head_of = record { holder = holder.Client (codes "Ada Chen"); opened = 20260105; closed = None; last = 20260107 }

-- 200.00 were received, and cleared at the bank
abbrev pub paid_in : Rows
paid_in = record {
  head = Some head_of;
  seats = seats;
  entries = received 20260105 20_000 (deposit.Cleared (told_on 20260106)) ∷ [];
}

-- 200.00 were paid, and nothing was ever received
abbrev pub overdrawn : Rows
overdrawn = record {
  head = Some head_of;
  seats = seats;
  entries = paid 20260107 20_000 fund.General (payment.Issued 20260107) ∷ [];
}

-- the first of these is matter 1, the second matter 2, and each entry has its movement
abbrev pub two_matters : Firm
two_matters = record {
  rows = pairs 1 paid_in ++ pairs 2 overdrawn;
  movements =
      record { owner = owner.Matter 1 1; day = 20260105; amount = pos 20_000 }
      ∷ record { owner = owner.Matter 2 1; day = 20260107; amount = pos 0 -ℤ pos 20_000 } ∷ [];
  firm_lines = [];
  exceptions = [];
  balances = [];
  acts = [];
  dismissals = [];
}

-- this firm's rows are in order, and it is solvent: all ledgers together are at zero, and the journal is never below;
-- but matter 2 is below zero by what matter 1 has, so that the firm is not sound
pub record SolventIsNotSound : Type 0 where
  pub in_order : IsInOrder two_matters
  pub solvent : IsSolvent two_matters
  pub above : ledger (of 1 two_matters).entries ≡ pos 20_000
  pub below : ledger (of 2 two_matters).entries ≡ pos 0 -ℤ pos 20_000
  pub together : ledger_sum two_matters ≡ pos 0
  pub unsound : FirmSound two_matters → ⊥
