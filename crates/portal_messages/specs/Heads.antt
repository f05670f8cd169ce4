-- The heads in a stream of bytes: a request line and field lines by the grammar of httparse (RFC 9112, 2.1 to 5).
use Rattle.std.specs.Prelude.{◌≤◌, ◌==◌, ◌||◌, ◌&&◌, ℕ, Bool, nat_le, min, List, length, drop, take}
use Rattle.std.specs.List.{list_all}
use Rattle.httparse.specs.Grammar.{ReadsRequest, RequestHead, print_request}
use Rattle.httparse.specs.Spans.{IsRequestAt, IsRequestWithin}
use Rattle.httparse.specs.declared.spans.HeaderSpan.{HeaderSpan}
use Rattle.httparse.specs.declared.spans.RequestSpans.{RequestSpans}

-- the most bytes of a head, including empty lines before it
abbrev pub HEAD_LIMIT : ℕ
HEAD_LIMIT = 8192

-- the most fields of a head
abbrev pub FIELD_LIMIT : ℕ
FIELD_LIMIT = 64

-- the bytes begin with this head, which keeps the limits, and this rest follows
pub record BeginsWith (bytes : List ℕ) (head : RequestHead) (rest : List ℕ) : Type 0 where
  pub reads : ReadsRequest bytes head rest
  pub size : length (print_request head) ≤ HEAD_LIMIT
  pub fields : length head.fields ≤ FIELD_LIMIT

-- the bytes do not begin with a head
abbrev pub HasNoHead : List ℕ → Type 0
HasNoHead bytes = (head : RequestHead) (rest : List ℕ) → ¬ (BeginsWith bytes head rest)

-- a byte of an empty line
abbrev pub is_line_byte : ℕ → Bool
is_line_byte b = (b == 13) || (b == 10)

-- nothing but bytes of empty lines, at most as many as a head may have
abbrev pub is_ended : List ℕ → Bool
is_ended bytes = nat_le (length bytes) HEAD_LIMIT && list_all is_line_byte bytes

-- the first bytes, at most as many as a head may have
abbrev pub front_of : List ℕ → List ℕ
front_of bytes = take (min (length bytes) HEAD_LIMIT) bytes

-- the bytes begin with a head whose parts are at these positions
pub record IsHeadAt (bytes : List ℕ) (spans : List HeaderSpan) (r : RequestSpans) (head : RequestHead) : Type 0 where
  pub begins : BeginsWith bytes head (drop r.len bytes)
  pub at : IsRequestAt (front_of bytes) spans r head
  pub within : IsRequestWithin (front_of bytes) spans r
