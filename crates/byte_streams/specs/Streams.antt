-- What a reader has lost when reading fails.
use Rattle.std.specs.Prelude.{ℕ, ◌<◌, ◌≤◌, List, length}
use Rattle.byte_streams.specs.declared.input.InputFault.{InputFault}
use Rattle.byte_streams.specs.declared.input.InputFault.TheVariants.{Reader, Memory}

-- the bytes taken before a fault: no more than the limit, and at least one if memory ran out
abbrev pub IsTakenBefore : InputFault → ℕ → List ℕ → Type 0
IsTakenBefore Reader limit bs = length bs ≤ limit
IsTakenBefore Memory limit bs = (0 < length bs) × (length bs ≤ limit)
