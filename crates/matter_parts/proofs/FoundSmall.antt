-- What is found is what is kept, so it is in range.
use Rattle.std.specs.Option.{option_copied}
use Rattle.matter_parts.proofs.Names.{◌≡◌, ◌≤◌, Option, Some, None, Bor, IfSome, sym, MAX_TOTAL, Kept}

pub found-small : (r : Option (Bor Kept)) (o : Option Kept) → option_copied r ≡ o → ((k : Kept) → o ≡ Some k → k.left ≤ MAX_TOTAL) → IfSome r (λ k. k.now.left ≤ MAX_TOTAL)
found-small None o e h = tt
found-small (Some k) o e h = h k.now (sym e)
