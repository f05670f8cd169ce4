-- The object in the body of a message, and the texts of its fields.
use Rattle.std.specs.Prelude.{ℕ, Bool, true, false, ◌&&◌, List, [], ◌∷◌, codes, map, Option, Some, None, unwrap_or}
use Rattle.std.specs.Prelude.{Result, Err, option_and_then, if◌then◌else◌}
use Rattle.std.specs.Borrow.{Bor}
use Rattle.std.specs.List.{list_any}
use Rattle.std.specs.Str.{bytes_eq, is_utf8}
use Rattle.serde_json.specs.Data.{Data, null, boolean, number, string, array, object, Members, no_members, member}
use Rattle.serde_json.specs.Read.{read as read_text}
use Rattle.serde_json.specs.Find.{as_str, get}
use Rattle.trust_base.specs.declared.refusal.Field.{Field}
use Rattle.trust_base.specs.declared.refusal.Field.TheVariants as field

-- the bytes of some texts
abbrev pub texts : List (Bor (List ℕ)) → List (List ℕ)
texts = map (λ t. t.now)

-- whether the key is one of these
abbrev pub is_key : List (List ℕ) → List ℕ → Bool
is_key keys key = list_any (bytes_eq key) keys

abbrev pub has_keys : List (List ℕ) → Members → Bool
has_keys keys no_members = true
has_keys keys (member k d ms) = is_key keys k && has_keys keys ms

abbrev pub is_object : List (List ℕ) → Data → Bool
is_object keys null = false
is_object keys (boolean b) = false
is_object keys (number n) = false
is_object keys (string s) = false
is_object keys (array ds) = false
is_object keys (object ms) = has_keys keys ms

-- an object, if it has no other keys
abbrev pub object_with : List (List ℕ) → Data → Option Data
object_with keys d = if is_object keys d then Some d else None

-- an empty body counts as an object without keys
abbrev pub text_in : List ℕ → List ℕ
text_in [] = codes "{}"
text_in (b ∷ bs) = b ∷ bs

-- the object in a body, if all its keys are among these
abbrev pub body_in : List (List ℕ) → List ℕ → Option Data
body_in keys body = if is_utf8 (text_in body)
    then option_and_then (object_with keys) (read_text (text_in body))
    else None

-- what is asked with the fields of an object, or a refusal of the body without one
abbrev pub on_body : {T : Type 0} → Option Data → (Data → Result T Field) → Result T Field
on_body None asked = Err field.Body
on_body (Some d) asked = asked d

abbrev pub with_body : {T : Type 0} → List (List ℕ) → List ℕ → (Data → Result T Field) → Result T Field
with_body keys body asked = on_body (body_in keys body) asked

-- the text under a key; empty if the key is missing or has no text, which no field accepts
abbrev pub text_at : List ℕ → Data → List ℕ
text_at key d = unwrap_or (option_and_then as_str (get key d)) []

-- a value that may be null; null gives `None`
abbrev pub unless_null : Data → Option (List ℕ)
unless_null null = None
unless_null (boolean b) = Some []
unless_null (number n) = Some []
unless_null (string s) = Some s
unless_null (array ds) = Some []
unless_null (object ms) = Some []

-- the text under a key that may be missing or null; both give `None`
abbrev pub optional_text_at : List ℕ → Data → Option (List ℕ)
optional_text_at key d = option_and_then unless_null (get key d)

-- the text of a value that may be missing or null, which counts as empty
abbrev pub text_if_any : Option Data → Option (List ℕ)
text_if_any None = Some []
text_if_any (Some null) = Some []
text_if_any (Some (boolean b)) = None
text_if_any (Some (number n)) = None
text_if_any (Some (string s)) = Some s
text_if_any (Some (array ds)) = None
text_if_any (Some (object ms)) = None

-- the text under a key, empty if the key is missing or null; `None` if its value is no text
abbrev pub field_text_at : List ℕ → Data → Option (List ℕ)
field_text_at key d = text_if_any (get key d)
