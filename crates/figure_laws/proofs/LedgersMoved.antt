-- A matter's ledger as of a day is what its movements by the day add up to.
use Rattle.figure_laws.proofs.Names.{◌≡◌, Bool, cond, arith, ℤ, pos, nat_le, ints, of, is_moved_by, sum-same, sum-filter}
use Rattle.firm_rows.specs.Firm.{is_of_matter}
use Rattle.firm_rows.specs.Journal.{amount_for}
use Rattle.firm_rows.proofs.Agree.{of_matter}
use Rattle.firm_figures.proofs.OneMatter.{as-shares, matter-agrees}
use Rattle.firm_figures.proofs.Shares.{event_by}
use Rattle.figure_laws.specs.Agree.{LedgersAsOfAreMoved}

swapped : (b c : Bool) (z : ℤ) → cond c (cond b z (pos 0)) (pos 0) ≡ cond b (cond c z (pos 0)) (pos 0)
swapped b c z = grind (arith, ints)

pub as_of-moved : LedgersAsOfAreMoved
as_of-moved p m firm sound =
    let es = (of m firm).entries in
    let moved = matter-agrees (event_by p) m firm.movements es (sound.events m) in
    let some = sum-filter (is_moved_by p) (amount_for m) firm.movements in
    let same = sum-same (λ v. cond (is_moved_by p v) (amount_for m v) (pos 0)) (of_matter (event_by p) m) firm.movements (λ v. swapped (is_of_matter m v.owner) (nat_le v.day p) v.amount) in
    omega (arith, ints, as-shares p es, moved, some, same)
