use Rattle.statement_lines.proofs.Names.{◌≡◌, ℕ, take, IsKeyed}
use Rattle.std.specs.Fn.{FnReturnsAt}
use Rattle.statement_lines.proofs.lookup.keyed.Given as goal

abbrev pub invariant-loop-item : goal.invariant-loop-item
invariant-loop-item g l =
    (key : _ → ℕ) → ((x : _) (r : ℕ) → FnReturnsAt g.F.Fn l.fn.key_of x r → r ≡ key x)
    → IsKeyed key (take l.item-index l.items) l.found.items
