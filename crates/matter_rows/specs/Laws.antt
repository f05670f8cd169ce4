-- Laws over the balances.
use Rattle.std.specs.Prelude.{◌≡◌, List, pos, ◌+ℤ◌, ◌≤ℤ◌}
use Rattle.matter_rows.specs.declared.entry.Entry.{Entry}
use Rattle.matter_rows.specs.Balances.{held, available, disputed, fees, claims, total}
use Rattle.matter_rows.specs.Sound.{AreBacked}

-- the total, cleared deposits less payments, is the sum of what is available, disputed, left of fees and left of
-- claims; none of these is negative
pub record IsCovered (es : List Entry) : Type 0 where
  pub sum : total es ≡ ((available es +ℤ disputed es) +ℤ fees es) +ℤ claims es
  pub held : pos 0 ≤ℤ held es
  pub available : pos 0 ≤ℤ available es
  pub disputed : pos 0 ≤ℤ disputed es
  pub fees : pos 0 ≤ℤ fees es
  pub claims : pos 0 ≤ℤ claims es
  pub total : pos 0 ≤ℤ total es

abbrev pub Covered : Type 0
Covered = (es : List Entry) → AreBacked es → IsCovered es
