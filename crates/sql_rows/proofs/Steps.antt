-- Lists of steps, one behind another.
use Rattle.sql_rows.proofs.Names.{List, [], ◌∷◌, ◌++◌, refl, Lists, Step, AreMade, arith, ints, nat_tests}

-- steps and then others are made in two parts
pub made-append : (steps more : List Step) (a b : Lists) → AreMade (steps ++ more) a b
    → (mid : Lists) × AreMade steps a mid × AreMade more mid b
made-append [] more a b made = (a, refl, made)
made-append (s ∷ steps) more a b made = grind (arith, ints, nat_tests, (made-append steps more made.0 b made.2))
