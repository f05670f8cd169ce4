-- The values in the JSON bodies of answers.
use Rattle.std.specs.Prelude.{ℕ, ℤ, List, [], ◌∷◌, ◌++◌, Option, Some, None}
use Rattle.json.specs.Token.{Token}
use Rattle.json.specs.Tree.{json_tokens}
use Rattle.serde_json.specs.Data.{Data, null, number, string, array, object, unsigned, Items, no_items, item, Members, no_members, member}
use Rattle.serde_json.specs.Written.{outline}
use Rattle.trust_base.specs.Texts.{amount_text, signed_text, day_text, matter_text, entry_text}

abbrev pub members_of : List (List ℕ × Data) → Members
members_of [] = no_members
members_of (m ∷ ms) = member m.0 m.1 (members_of ms)

-- the object of these keys and values
abbrev pub object_of : List (List ℕ × Data) → Data
object_of ms = object (members_of ms)

abbrev pub items_of : List Data → Items
items_of [] = no_items
items_of (d ∷ ds) = item d (items_of ds)

-- the array of these values
abbrev pub array_of : List Data → Data
array_of ds = array (items_of ds)

-- an amount in cents
abbrev pub amount_value : ℕ → Data
amount_value n = string (amount_text n)

-- a sum in cents
abbrev pub sum_value : ℤ → Data
sum_value z = string (signed_text z)

abbrev pub day_value : ℕ → Data
day_value n = string (day_text n)

abbrev pub matter_value : ℕ → Data
matter_value n = string (matter_text n)

abbrev pub entry_value : ℕ → Data
entry_value n = string (entry_text n)

abbrev pub count_value : ℕ → Data
count_value n = number (unsigned n)

-- null if there is no value
abbrev pub or_null : {A : Type 0} → (A → Data) → Option A → Data
or_null value None = null
or_null value (Some a) = value a

-- the tokens of a value
abbrev pub value_tokens : Data → List Token
value_tokens d = json_tokens (outline d)

-- the tokens of a key and its value
abbrev pub member_tokens : List ℕ → Data → List Token
member_tokens key d = Token.key key ∷ value_tokens d

-- the tokens of these keys and values, without the brackets of an object
abbrev pub members_between : List (List ℕ × Data) → List Token
members_between [] = []
members_between (m ∷ ms) = member_tokens m.0 m.1 ++ members_between ms
