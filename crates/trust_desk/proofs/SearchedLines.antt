-- A line that is looked for among the exceptions.
use Rattle.trust_desk.proofs.Names.{◌≡◌, List, [], ◌∷◌, sym, ◌∙◌, fold, Line, is_exception}
use Rattle.std.specs.Prelude.{◌||◌}
use Rattle.std.proofs.Math.Bool.{or_assoc, or-false}
use Rattle.trust_base.specs.LineOrder.{is_same_line}
use Rattle.trust_desk.specs.declared.exceptions.LineSearch.{LineSearch}

-- what one more line makes of the search
abbrev pub looked : LineSearch → Line → LineSearch
looked s x = record s { is_found = s.is_found || is_same_line x s.line.now }

pub looked-all : (s : LineSearch) (lines : List Line) → (fold looked s lines).is_found ≡ (s.is_found || is_exception s.line.now lines)
looked-all s [] = sym (or-false s.is_found)
looked-all s (x ∷ xs) = looked-all (looked s x) xs ∙ or_assoc s.is_found (is_same_line x s.line.now) (is_exception s.line.now xs)
