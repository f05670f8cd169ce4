-- What the fields of a head say of the body after it: its size, given by Content-Length alone (RFC 9112, 6.2 and
-- 6.3).
use Rattle.std.specs.Prelude.{◌==◌, ◌&&◌, ◌||◌, ℕ, Bool, nat_le, nat_lt, List, [], ◌∷◌, length, map, codes}
use Rattle.std.specs.Prelude.{Option, Some, None, Result, Ok, Err, if◌then◌else◌}
use Rattle.std.specs.List.{list_all}
use Rattle.std.specs.Char.{is_ascii_digit}
use Rattle.std.specs.Str.{bytes_eq, str_eq_ignore_ascii_case}
use Rattle.std.specs.Str.Parse.{digits_value}
use Rattle.trust_base.specs.declared.refusal.Refusal.{Refusal}
use Rattle.trust_base.specs.declared.refusal.Refusal.TheVariants.{BadMessage, LengthRequired, TooLarge}
use Rattle.httparse.specs.Grammar.{RequestHead}
use Rattle.httparse.specs.Spans.{name_and_value}

-- the values of all fields of a name, in order; ASCII letters match in either case
abbrev pub values_of : List ℕ → List (List ℕ × List ℕ) → List (List ℕ)
values_of name [] = []
values_of name (p ∷ pairs) = if str_eq_ignore_ascii_case name p.0
    then p.1 ∷ values_of name pairs
    else values_of name pairs

-- one to ten digits and nothing else
abbrev pub is_size : List ℕ → Bool
is_size text = nat_lt 0 (length text) && (nat_le (length text) 10 && list_all is_ascii_digit text)

-- the number that one to ten digits write
abbrev pub size_of_text : List ℕ → Option ℕ
size_of_text text = if is_size text then Some (digits_value 10 text) else None

-- the size that the values of Content-Length give: no value means no body, two or more mean no valid size
abbrev pub size_of : List (List ℕ) → Option ℕ
size_of [] = Some 0
size_of (v ∷ []) = size_of_text v
size_of (v ∷ w ∷ vs) = None

-- the bytes before the first question mark
abbrev pub path_of : List ℕ → List ℕ
path_of [] = []
path_of (b ∷ bs) = if b == 63 then [] else b ∷ path_of bs

-- whether a bank statement is sent to this path, to be imported or matched
abbrev pub takes_statement : List ℕ → Bool
takes_statement path =
    bytes_eq path (codes "/firm/statements")
    || (bytes_eq path (codes "/firm/statements/match") || bytes_eq path (codes "/firm/statements/unmatched"))

-- whether the request sends a bank statement
abbrev pub is_statement : List ℕ → List ℕ → Bool
is_statement method target = bytes_eq method (codes "POST") && takes_statement (path_of target)

-- the most bytes of a body
abbrev pub body_limit : List ℕ → List ℕ → ℕ
body_limit method target = if is_statement method target then 4194304 else 65536

-- the size of the body, or why it is not read: its lengths are judged first, then its codings, then its size
abbrev pub judged : Option ℕ → List (List ℕ) → ℕ → Result ℕ Refusal
judged None codings limit = Err BadMessage
judged (Some n) (v ∷ vs) limit = Err LengthRequired
judged (Some n) [] limit = if nat_lt limit n then Err TooLarge else Ok n

abbrev pub body_size : List ℕ → List ℕ → List (List ℕ × List ℕ) → Result ℕ Refusal
body_size method target pairs = judged (size_of (values_of (codes "content-length") pairs))
    (values_of (codes "transfer-encoding") pairs) (body_limit method target)

-- the names and values of a head
abbrev pub pairs_of : RequestHead → List (List ℕ × List ℕ)
pairs_of head = map name_and_value head.fields

-- the size of the body after a head
abbrev pub size_after : RequestHead → Result ℕ Refusal
size_after head = body_size head.method head.target (pairs_of head)
