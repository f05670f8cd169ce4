-- Names of persons, and labels.
use Rattle.std.specs.Prelude.{ℕ, ◌-◌, Bool, not, ◌&&◌, ◌||◌, ◌==◌, nat_le, List, length, take, drop, codes, Option, Some, None, if◌then◌else◌, IsTrue}
use Rattle.std.specs.List.{list_all, list_any, prefix_len, suffix_len}
use Rattle.std.specs.Char.{is_control}
use Rattle.std.specs.Str.{bytes_eq, chars, is_utf8, str_to_ascii_lowercase}
use Rattle.trust_base.specs.declared.limits.TheConstants.{MAX_PERSON, MAX_LABEL}

-- a lowercase letter, a digit, a point or a dash
abbrev pub is_person_byte : ℕ → Bool
is_person_byte b = (nat_le 97 b && nat_le b 122) || (nat_le 48 b && nat_le b 57) || b == 46 || b == 45

-- the name under which the cashier asks
abbrev pub cashier_text : List ℕ
cashier_text = codes "cashier"

-- 1 to 32 lowercase letters, digits, points and dashes, but not `cashier`
unfoldable pub is_person_text : List ℕ → Bool
is_person_text bs =
    nat_le 1 (length bs) && nat_le (length bs) MAX_PERSON && list_all is_person_byte bs
    && not (bytes_eq bs cashier_text)

-- 1 to 80 bytes of UTF-8 without a control character (U+0000 to U+001F, U+007F to U+009F)
unfoldable pub is_label_text : List ℕ → Bool
is_label_text bs =
    nat_le 1 (length bs) && nat_le (length bs) MAX_LABEL && is_utf8 bs && not (list_any is_control (chars bs))

-- the text, if it is valid
abbrev pub text_if : Bool → List ℕ → Option (List ℕ)
text_if form bs = if form then Some bs else None

-- the person's name, if these bytes are valid as one
abbrev pub person_of : List ℕ → Option (List ℕ)
person_of bs = text_if (is_person_text bs) bs

-- the label, if these bytes are valid as one
abbrev pub label_of : List ℕ → Option (List ℕ)
label_of bs = text_if (is_label_text bs) bs

-- the space U+0020, the only character trimmed
abbrev pub is_space : ℕ → Bool
is_space b = b == 32

-- without leading spaces
abbrev pub without_leading_spaces : List ℕ → List ℕ
without_leading_spaces bs = drop (prefix_len is_space bs) bs

-- without trailing spaces
abbrev pub without_trailing_spaces : List ℕ → List ℕ
without_trailing_spaces bs = take (length bs - suffix_len is_space bs) bs

-- a label that names cash: the word in any ASCII case, with any spaces around it
unfoldable pub is_cash_label : List ℕ → Bool
is_cash_label bs =
    bytes_eq (str_to_ascii_lowercase (without_trailing_spaces (without_leading_spaces bs))) (codes "cash")

-- the label of the firm as payee
abbrev pub is_firm_label : List ℕ → Bool
is_firm_label bs = bytes_eq bs (codes "FIRM")

-- the bytes of a person's name
abbrev pub IsPerson : List ℕ → Type 0
IsPerson bs = IsTrue (is_person_text bs)

-- the bytes of a label
abbrev pub IsLabel : List ℕ → Type 0
IsLabel bs = IsTrue (is_label_text bs)
