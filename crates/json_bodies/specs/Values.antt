-- The values passed to the writers.
use Rattle.std.specs.Prelude.{ℕ, List, [], ◌∷◌, codes, map}
use Rattle.std.specs.Borrow.{Bor}
use Rattle.serde_json.specs.Data.{Data, null, string}
use Rattle.matter_rows.specs.Rows.{role_name}
use Rattle.matter_rows.specs.declared.seat.Seat.{Seat}
use Rattle.json_bodies.specs.declared.bodies.Value.{Value}
use Rattle.json_bodies.specs.declared.bodies.Value.TheVariants as value
use Rattle.json_bodies.specs.Json.{object_of, array_of, amount_value, sum_value, day_value, matter_value, entry_value, count_value}

abbrev pub seat_object : Seat → Data
seat_object s = object_of ((codes "person", string s.person) ∷ (codes "role", string (role_name s.role)) ∷ [])

-- the data of a value
abbrev pub data_of : Value → Data
data_of value.Null = null
data_of (value.Text t) = string t.now
data_of (value.Count n) = count_value n
data_of (value.Cents n) = amount_value n
data_of (value.Sum z) = sum_value z
data_of (value.Day d) = day_value d
data_of (value.Entry n) = entry_value n
data_of (value.Matter m) = matter_value m
data_of (value.Seats seats) = array_of (map seat_object seats.now)

-- a key and the data of its value
abbrev pub member_of : Bor (List ℕ) × Value → List ℕ × Data
member_of m = (m.0.now, data_of m.1)
