-- How much of a statement is read.
use Rattle.std.specs.Prelude.{◌≡◌, ◌<◌, ◌≤◌, ℕ, List, [], ◌∷◌, drop, length, Option, Some, ⊤}
use Rattle.std.specs.Io.KnownBytes.{IsAtEnd, prepend_known}
use Rattle.trust_base.specs.declared.limits.TheConstants.{MAX_FILE_BYTES}
use Rattle.statement_csv.specs.declared.item.ReadFault.{ReadFault}
use Rattle.statement_csv.specs.declared.item.ReadFault.TheVariants as fault
use Rattle.statement_csv.specs.declared.item.Course.{Course}
use Rattle.statement_csv.specs.declared.item.Course.TheVariants as course

-- the statement is too long, if its bytes are known
abbrev pub IsTooLong : Option (List ℕ) → Type 0
IsTooLong whole = (bytes : List ℕ) → whole ≡ Some bytes → MAX_FILE_BYTES < length bytes

-- the statement is not too long, if its bytes are known
abbrev pub IsWithin : Option (List ℕ) → Type 0
IsWithin whole = (bytes : List ℕ) → whole ≡ Some bytes → length bytes ≤ MAX_FILE_BYTES

-- what contracts see of a statement's reader
pub record Source : Type 0 where
  -- the remaining bytes, if they are known
  pub left : Option (List ℕ)
  -- how the reading stands
  pub course : Course

abbrev pub left_of : Source → Option (List ℕ)
left_of source = source.left

-- the byte that came although it is past the length limit
abbrev pub beyond : Course → List ℕ
beyond course.Open = []
beyond course.Ended = []
beyond (course.Longer byte) = byte ∷ []
beyond course.Failed = []

-- a reader, from how the reading stands and the remaining bytes of the inner reader
abbrev pub source_in : Course → Option (List ℕ) → Source
source_in now rest = record { left = prepend_known (beyond now) rest; course = now }

-- what is left is the statement without its first `given` bytes, if its bytes are known
abbrev pub IsAfter : Option (List ℕ) → Option (List ℕ) → ℕ → Type 0
IsAfter whole left given =
    (bytes : List ℕ) → whole ≡ Some bytes → (left ≡ Some (drop given bytes)) × (given ≤ length bytes)

-- what is known from how the reading stands
abbrev pub Tells : Option (List ℕ) → Option (List ℕ) → Course → Type 0
Tells whole rest course.Open = ⊤
Tells whole rest course.Ended = IsAtEnd rest × IsWithin whole
Tells whole rest (course.Longer byte) = IsTooLong whole
Tells whole rest course.Failed = ⊤

-- the state of reading a statement of which `given` bytes were returned
pub record IsReading (whole rest : Option (List ℕ)) (given : ℕ) (now : Course) : Type 0 where
  pub after : IsAfter whole (prepend_known (beyond now) rest) given
  pub most : given ≤ MAX_FILE_BYTES
  pub tells : Tells whole rest now

-- only a prefix of the statement was returned, no longer than the length limit, if its bytes are known
abbrev pub IsHeldBack : Option (List ℕ) → Option (List ℕ) → Type 0
IsHeldBack whole left =
    (bytes : List ℕ) → whole ≡ Some bytes → (given : ℕ) × (given ≤ MAX_FILE_BYTES) × (left ≡ Some (drop given bytes))

-- the fault reported when reading cannot go on
abbrev pub cause_of : Course → ReadFault
cause_of course.Open = fault.Memory
cause_of course.Ended = fault.Memory
cause_of (course.Longer byte) = fault.Limit
cause_of course.Failed = fault.Reader
