-- A line that is dismissed from the exceptions.
use Rattle.desk_laws.proofs.Names.{◌≡◌, ℕ, Bool, false, cond, List, [], ◌∷◌, Option, refl, Line, Refusal, first, Firm, without_line, dismiss_refusal, dismissed_unless, is_exception, arith, ints, nat_tests}
use Rattle.std.specs.Prelude.{not}
use Rattle.trust_base.specs.LineOrder.{is_same_line}
use Rattle.desk_laws.specs.Dismissed.{DismissedOnce, DismissingMovesNothing, KeepsAllElse}

kept-else : (day : ℕ) (o : Option Refusal) (line : Line) (firm : Firm) → KeepsAllElse firm (dismissed_unless day o line firm)
kept-else day o line firm = grind (arith, ints, nat_tests)

pub dismissing-moves-nothing : DismissingMovesNothing
dismissing-moves-nothing day firm caller line = kept-else day (dismiss_refusal caller line firm) line firm

left-of : (line x : Line) (b : Bool) (left : List Line) → is_same_line x line ≡ b → is_exception line left ≡ false → is_exception line (cond (not b) (x ∷ left) left) ≡ false
left-of line x b left e none = grind (arith, ints, nat_tests)

none-left : (line : Line) (lines : List Line) → is_exception line (without_line line lines) ≡ false
none-left line [] = refl
none-left line (x ∷ xs) = left-of line x (is_same_line x line) (without_line line xs) refl (none-left line xs)

pub dismissed-once : DismissedOnce
dismissed-once day firm line fit =
    grind (arith, ints, nat_tests, dismiss_refusal, dismissed_unless, first, not, none-left)

pub ruleset dismissed_laws = (dismissing-moves-nothing)
