use Rattle.sql_rows.proofs.Names.{◌≡◌, ℕ, true, length, List, [], ◌∷◌, refl, sym, ◌∙◌, arith, nat_tests}
use Rattle.std.proofs.Common.{◌==◌}
use Rattle.sql_rows.proofs.matter.holder_in.Goals as goal

empty : (xs : List ℕ) → (length xs == 0) ≡ true → [] ≡ xs
empty [] e = refl
empty (x ∷ xs) e = absurd (grind (arith, nat_tests))

pub returns-clause-client : goal.returns-clause-client
returns-clause-client c = empty c.args.client.now (sym c.is_empty.ensures ∙ c.if-not-is_empty.false)
