-- A solvent firm need not be sound.
use Rattle.firm_rows.proofs.Names.{ℕ, zero, suc, List, take, refl, sym, subst, arith, ints, pos, ◌+ℤ◌, ◌-ℤ◌, ◌≤ℤ◌, IsStrictlySortedBy, Movement, empty_firm, purged_by, IsInOrder}
use Rattle.std.proofs.Math.Seq.{take-nil}
unfoldable use Rattle.trust_matter.specs.Shares.{held_share, total_share}
use Rattle.firm_rows.specs.Journal.{journal_sum}
use Rattle.firm_rows.specs.Unsound.{paid_in, overdrawn, two_matters, SolventIsNotSound}
use Rattle.firm_rows.proofs.Order.{in_order-purged_by}

nothing-in_order : IsInOrder empty_firm
unfolding IsStrictlySortedBy
nothing-in_order = record { rows = λ m. refl; exceptions = tt; balances = tt }

in-order : IsInOrder two_matters
in-order =
    let first = in_order-purged_by 1 paid_in empty_firm nothing-in_order in
    let both = in_order-purged_by 2 overdrawn (purged_by 1 paid_in empty_firm) first in
    record { rows = both.rows; exceptions = both.exceptions; balances = both.balances }

never-below : (k : ℕ) → pos 0 ≤ℤ journal_sum (take k two_matters.movements)
never-below zero = omega (arith, ints)
never-below (suc zero) = omega (arith, ints)
never-below (suc (suc k)) =
    subst (λ (vs : List Movement). pos 0 ≤ℤ (pos 20_000 +ℤ ((pos 0 -ℤ pos 20_000) +ℤ journal_sum vs))) (sym (take-nil k)) (omega (arith, ints))

pub solvent-is-not-sound : SolventIsNotSound
unfolding held_share total_share
solvent-is-not-sound = record {
  in_order = in-order;
  solvent = record { ledgers = omega (arith, ints); journal = never-below; agree = refl };
  above = refl;
  below = refl;
  together = refl;
  unsound = λ sound. let covered = sound.covered 2 2 in omega (arith, ints, covered);
}
