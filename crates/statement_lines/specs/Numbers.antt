-- The numbers in a text, and the telling ones, which its words mark as numbers.
use Rattle.std.specs.Prelude.{ℕ, Bool, false, ◌&&◌, ◌||◌, ◌==◌, not, nat_le, List, [], ◌∷◌, ◌/◌, map, length}
use Rattle.std.specs.Prelude.{drop, codes, unsigned_abs, Option, Some, None, if◌then◌else◌}
use Rattle.std.specs.List.{filter, list_all, list_any, prefix_len}
use Rattle.std.specs.Fmt.{decimal}
use Rattle.std.specs.Str.{bytes_eq}
use Rattle.trust_base.specs.declared.line.Line.{Line}
use Rattle.statement_lines.specs.Tokens.{is_digit, tokens}
use Rattle.statement_lines.specs.WrittenDays.{spells_day_near}

-- the list has these bytes
abbrev pub is_among : List (List ℕ) → List ℕ → Bool
is_among list bytes = list_any (bytes_eq bytes) list

-- A number.

-- the digits without leading zeros
abbrev pub without_zeros : List ℕ → List ℕ
without_zeros digits = drop (prefix_len (λ b. b == 48) digits) digits

-- a token of digits only, at least three without leading zeros
unfoldable pub is_number : List ℕ → Bool
is_number token = list_all is_digit token && nat_le 3 (length (without_zeros token))

-- the numbers of a text, in order
unfoldable pub numbers : List ℕ → List (List ℕ)
numbers text = map without_zeros (filter is_number (tokens text))

-- A telling number: one of six digits or more, or one after a word that says what it is.

-- a word that the number of a check follows
abbrev pub is_check_word : List ℕ → Bool
is_check_word word =
    bytes_eq word (codes "check") || bytes_eq word (codes "chk") || bytes_eq word (codes "ck")
    || bytes_eq word (codes "cheque")

-- a word that the number of a check, of a deposit slip or of a wire follows
abbrev pub is_label : List ℕ → Bool
is_label word = is_check_word word || bytes_eq word (codes "slip") || bytes_eq word (codes "wire")

-- a word that may stand between such a word, or `id`, and the number
abbrev pub is_number_word : List ℕ → Bool
is_number_word word =
    bytes_eq word (codes "no") || bytes_eq word (codes "number") || bytes_eq word (codes "num")
    || bytes_eq word (codes "paid")

-- the tokens before a number say what it is; `last` stands directly before it, and `second` before that
unfoldable pub are_labels : List ℕ → List ℕ → Bool
are_labels second last =
    is_label last || (is_number_word last && (is_label second || bytes_eq second (codes "id")))

-- they say that it is a check's
unfoldable pub are_of_check : List ℕ → List ℕ → Bool
are_of_check second last = is_check_word last || (is_number_word last && is_check_word second)

-- A day is no number of a bank's line.

-- the token writes a day near the line's in digits alone, and is no check's number of six digits
unfoldable pub is_day_of_line : ℕ → List ℕ → List ℕ → List ℕ → Bool
is_day_of_line date second last token =
    spells_day_near date token && not ((length token == 6) && are_of_check second last)

-- the same if the words are those of a bank's line, which has a date; an entry's words have none
abbrev pub is_day_of : Option ℕ → List ℕ → List ℕ → List ℕ → Bool
is_day_of None second last token = false
is_day_of (Some date) second last token = is_day_of_line date second last token

-- a token that follows these two is a telling number
unfoldable pub is_telling : Option ℕ → List ℕ → List ℕ → List ℕ → Bool
is_telling date second last token =
    is_number token && (nat_le 6 (length (without_zeros token)) || are_labels second last)
    && not (is_day_of date second last token)

-- the telling numbers among tokens that follow these two
unfoldable pub telling_after : Option ℕ → List ℕ → List ℕ → List (List ℕ) → List (List ℕ)
telling_after date second last [] = []
telling_after date second last (token ∷ rest) =
    if is_telling date second last token
    then without_zeros token ∷ telling_after date last token rest
    else telling_after date last token rest

-- the telling numbers of a text, in order; the date is that of the bank's line whose text it is
abbrev pub telling_numbers : Option ℕ → List ℕ → List (List ℕ)
telling_numbers date text = telling_after date [] [] (tokens text)

-- The numbers of a bank line.

-- the dollars of its amount, which its text may repeat
abbrev pub dollars : Line → List ℕ
dollars line = decimal (unsigned_abs line.amount / 100)

-- the telling numbers of its text except these
unfoldable pub line_numbers : Line → List (List ℕ)
line_numbers line =
    filter (λ number. not (bytes_eq (dollars line) number)) (telling_numbers (Some line.date) line.text)
