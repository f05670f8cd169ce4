-- The parts of a path, and the matter that it names.
use Rattle.std.specs.Prelude.{◌==◌, ◌&&◌, ℕ, nat_le, length, slice_get, List, [], codes, Option, Some, None}
use Rattle.std.specs.Prelude.{unwrap_or, if◌then◌else◌}
use Rattle.std.specs.List.{slice_split}
use Rattle.std.specs.Str.{bytes_eq}
use Rattle.trust_base.specs.Periods.{Span}
use Rattle.trust_base.specs.Texts.{day_of, matter_of}

-- a part of a path by its number, where a slash stands between two parts; empty if there is none. What is before the
-- first slash has number 0, so in /matters/000001/entries/0002 the matter has number 2, and the entry 4
unfoldable pub part : ℕ → List ℕ → List ℕ
part n path = unwrap_or (slice_get (slice_split (λ b. b == 47) path) n) []

-- from one day to another; there is no such period where one of them is missing, or the second is earlier
abbrev pub period_of : Option ℕ → Option ℕ → Option Span
period_of None to = None
period_of (Some from) None = None
period_of (Some from) (Some to) = if nat_le from to then Some (record { from = from; to = to }) else None

-- the period whose first and last day are written so
abbrev pub period_in : List ℕ → List ℕ → Option Span
period_in from to = period_of (day_of from) (day_of to)

-- the matter that a path names, whether or not it has a route: /matters/ and six digits, and then the end or a slash
abbrev pub named_in : List ℕ → Option ℕ
named_in path =
    if (length (part 0 path) == 0) && bytes_eq (part 1 path) (codes "matters") then matter_of (part 2 path) else None
