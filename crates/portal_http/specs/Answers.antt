-- The bytes of answers: a status line, two fields, an empty line and the body (RFC 9112, 3 to 6).
use Rattle.std.specs.Prelude.{◌≡◌, ℕ, List, [], ◌∷◌, ◌++◌, length, map, codes, unwrap_or, if◌then◌else◌, ◌==◌}
use Rattle.std.specs.Fmt.{decimal}
use Rattle.std.specs.List.{flat_map}
use Rattle.http.specs.StatusCode.{reason_phrase}
use Rattle.trust_base.specs.Refusals.{refusal_text}
use Rattle.trust_desk.specs.declared.requests.Reply.{Reply}
use Rattle.trust_desk.specs.declared.requests.Body.{Body}
use Rattle.trust_desk.specs.declared.requests.Body.TheVariants.{Json, Text, Refused}

-- the reason phrase of a status that replies use
abbrev pub phrase_of : ℕ → List ℕ
phrase_of n =
    if n == 200 then codes "OK"
    else if n == 201 then codes "Created"
    else if n == 400 then codes "Bad Request"
    else if n == 401 then codes "Unauthorized"
    else if n == 403 then codes "Forbidden"
    else if n == 404 then codes "Not Found"
    else if n == 405 then codes "Method Not Allowed"
    else if n == 409 then codes "Conflict"
    else if n == 410 then codes "Gone"
    else if n == 411 then codes "Length Required"
    else if n == 413 then codes "Payload Too Large"
    else if n == 422 then codes "Unprocessable Entity"
    else if n == 503 then codes "Service Unavailable"
    else []

-- the statuses that replies use
abbrev pub statuses : List ℕ
statuses = 200 ∷ 201 ∷ 400 ∷ 401 ∷ 403 ∷ 404 ∷ 405 ∷ 409 ∷ 410 ∷ 411 ∷ 413 ∷ 422 ∷ 503 ∷ []

-- their phrases are those of the crate http
abbrev pub PhrasesAreCanonical : Type 0
PhrasesAreCanonical = map phrase_of statuses ≡ map (λ n. unwrap_or (reason_phrase n) []) statuses

-- the media type of a body
abbrev pub kind_of : Body → List ℕ
kind_of (Json text) = codes "application/json"
kind_of (Text text) = codes "text/plain; charset=utf-8"
kind_of (Refused r) = codes "application/json"

abbrev pub body_text : Body → List ℕ
body_text (Json text) = text
body_text (Text text) = text
body_text (Refused r) = refusal_text r

abbrev pub line_end : List ℕ
line_end = 13 ∷ 10 ∷ []

-- the status line of an answer
abbrev pub status_line : ℕ → List ℕ
status_line status = codes "HTTP/1.1 " ++ decimal status ++ 32 ∷ (phrase_of status ++ line_end)

-- a field line
abbrev pub field_line : List ℕ → List ℕ → List ℕ
field_line name value = name ++ 58 ∷ 32 ∷ (value ++ line_end)

-- the head of an answer: the status line, two fields, and an empty line
unfoldable pub head_text : ℕ → List ℕ → ℕ → List ℕ
head_text status kind size =
    status_line status
    ++ (field_line (codes "content-type") kind
    ++ (field_line (codes "content-length") (decimal size) ++ line_end))

-- the bytes of a reply
abbrev pub reply_bytes : Reply → List ℕ
reply_bytes reply =
    head_text reply.status (kind_of reply.body) (length (body_text reply.body)) ++ body_text reply.body

-- the bytes of replies, one after another
abbrev pub replies_bytes : List Reply → List ℕ
replies_bytes replies = flat_map reply_bytes replies
