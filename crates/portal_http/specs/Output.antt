-- What a call has written.
use Rattle.std.specs.Prelude.{ℕ, List, Option}

pub record Output : Type 0 where
  -- the bytes of its writer before it, if they are known
  pub before : Option (List ℕ)
  -- those after it
  pub after : Option (List ℕ)

-- by what a writer has, before and after the call
abbrev pub output_of : {W : Type 0} → (W → Option (List ℕ)) → W → W → Output
output_of contents old new = record { before = contents old; after = contents new }
