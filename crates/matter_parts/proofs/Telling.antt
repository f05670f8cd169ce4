-- What a part tells of the balances and of what is left.
use Rattle.matter_parts.proofs.Names.{◌≡◌, ℕ, ◌+◌, Bool, true, arith, ints, Entry, Rows, entry_at, left_at, Sound, total-covered, Figures, Part, IsPart, AreBalances, is_held, kept_at, left_if, held, available, fees, claims, disputed}
use Rattle.matter_parts.proofs.Parts.{held-entry}

-- what is left of an entry that is held is what is left by the rows
pub left-held : (kind : Entry → Bool) (m : Part) (rows : Rows) (n : ℕ) → IsPart m rows → is_held m n ≡ true → left_if kind (kept_at m n) ≡ left_at kind rows.entries n (entry_at rows.entries n)
left-held kind m rows n p h =
    grind (arith, (held-entry m.kept m.figures.entries n rows.entries p.kept p.figures.entries))

pub balances-of : (m : Part) (rows : Rows) (f : Figures) → Sound rows → IsPart m rows → f ≡ m.figures → AreBalances (record { held = f.held; available = f.available; fees = f.fees; claims = f.claims; disputed = f.disputed; total = f.available + f.disputed + f.fees + f.claims }) rows.entries
balances-of m rows f s p same = grind (arith, ints, total-covered)
