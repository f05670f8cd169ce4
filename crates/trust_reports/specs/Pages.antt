-- A report while it is being written.
use Rattle.std.specs.Prelude.{ℕ, List}

-- what the vector held before, and the report so far
pub record Written : Type 0 where
  pub before : List ℕ
  pub text : List ℕ
