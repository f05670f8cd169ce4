-- Who sends a message, given by the values of its fields x-caller.
use Rattle.std.specs.Prelude.{ℕ, List, [], ◌∷◌, codes, Option, Some, None, option_map, if◌then◌else◌}
use Rattle.std.specs.Str.{bytes_eq}
use Rattle.trust_base.specs.Names.{person_of}
use Rattle.matter_rows.specs.declared.act.Caller.{Caller}
use Rattle.matter_rows.specs.declared.act.Caller.TheVariants.{Cashier, Person}

-- the caller that a value names
abbrev pub caller_in : List ℕ → Option Caller
caller_in value = if bytes_eq value (codes "cashier")
    then Some Cashier
    else option_map (λ p. Person p) (person_of value)

-- the caller, if there is exactly one value and it names one
abbrev pub caller_of : List (List ℕ) → Option Caller
caller_of [] = None
caller_of (v ∷ []) = caller_in v
caller_of (v ∷ w ∷ vs) = None
