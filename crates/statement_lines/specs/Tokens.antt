-- The tokens of a text: runs of letters, and runs of digits. A single `,` `-` `.` `/` or `:` between two digits joins
-- them.
use Rattle.std.specs.Prelude.{ℕ, Bool, ◌&&◌, ◌||◌, ◌==◌, not, nat_le, List, [], ◌∷◌, ◌+◌, map, slice_index, take}
use Rattle.std.specs.Prelude.{if◌then◌else◌}
use Rattle.std.specs.List.{prefix_len}

-- A byte.

-- an ASCII letter
abbrev pub is_letter : ℕ → Bool
is_letter b = (nat_le 65 b && nat_le b 90) || (nat_le 97 b && nat_le b 122)

-- an ASCII digit
abbrev pub is_digit : ℕ → Bool
is_digit b = nat_le 48 b && nat_le b 57

-- one of `,` `-` `.` `/` `:`
abbrev pub is_joiner : ℕ → Bool
is_joiner b = (nat_le 44 b && nat_le b 47) || (b == 58)

-- an ASCII letter in lower case, and any other byte unchanged
abbrev pub lowered : ℕ → ℕ
lowered b = if nat_le 65 b && nat_le b 90 then b + 32 else b

-- A token.

-- a numeral continues with the byte: it is a digit, or a joiner before one
abbrev pub goes_on : ℕ → ℕ → Bool
goes_on b next = is_digit b || (is_joiner b && is_digit next)

-- how many bytes at the start of a text are digits, or joiners before a digit
unfoldable pub numeral_len : List ℕ → ℕ
numeral_len [] = 0
numeral_len (b ∷ rest) = if goes_on b (slice_index rest 0) then 1 + numeral_len rest else 0

-- the length in bytes of the token at the start of a text, which begins with a letter or a digit
unfoldable pub token_len : List ℕ → ℕ
token_len text = if is_letter (slice_index text 0) then prefix_len is_letter text else numeral_len text

-- the token at the start of a text, its letters in lower case
unfoldable pub token_in_front : List ℕ → List ℕ
token_in_front text = map lowered (take (token_len text) text)

-- a token begins with the byte: it is a letter not after a letter, or a digit that is neither after a digit nor after a
-- digit and a joiner. The bytes before it are `second` and then `last`; each is 0 if there is none.
unfoldable pub begins : ℕ → ℕ → ℕ → Bool
begins second last b =
    (is_letter b && not (is_letter last))
    || (is_digit b && not (is_digit last) && not (is_joiner last && is_digit second))

-- at each place of a text where a token begins, the token; these two bytes come before the text
unfoldable pub tokens_after : ℕ → ℕ → List ℕ → List (List ℕ)
tokens_after second last [] = []
tokens_after second last (b ∷ rest) =
    if begins second last b
    then token_in_front (b ∷ rest) ∷ tokens_after last b rest
    else tokens_after last b rest

-- the tokens of a text, in order
abbrev pub tokens : List ℕ → List (List ℕ)
tokens text = tokens_after 0 0 text
