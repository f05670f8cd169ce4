-- The texts of ports and of counts.
use Rattle.std.specs.Prelude.{◌≡◌, ◌≤◌, ℕ, List}
use Rattle.std.specs.Fmt.{decimal}
use Rattle.command_line.specs.declared.command.TheConstants.{MAX_COUNT, MAX_PORT, MIN_PORT}

-- the text is the digits of the number, without leading zeros, and the number is from `least` to `most`
pub record IsNumberBetween (least most : ℕ) (text : List ℕ) (number : ℕ) : Type 0 where
  pub digits : text ≡ decimal number
  pub above : least ≤ number
  pub below : number ≤ most

-- a port that is not reserved for the system
abbrev pub IsPort : List ℕ → ℕ → Type 0
IsPort text port = IsNumberBetween MIN_PORT MAX_PORT text port

-- the fewest connections of a run
abbrev pub MIN_COUNT : ℕ
MIN_COUNT = 1

-- how many connections a run serves
abbrev pub IsCount : List ℕ → ℕ → Type 0
IsCount text count = IsNumberBetween MIN_COUNT MAX_COUNT text count
