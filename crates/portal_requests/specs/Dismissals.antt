-- The bank line in a body, to be dismissed from the exceptions.
use Rattle.std.specs.Prelude.{ℕ, List, [], ◌∷◌, codes, Option, Some, None, option_and_then, Result, Ok, Err}
use Rattle.serde_json.specs.Data.{Data}
use Rattle.trust_base.specs.declared.line.Line.{Line}
use Rattle.trust_base.specs.declared.refusal.Field.TheVariants as field
use Rattle.trust_base.specs.declared.refusal.Refusal.{Refusal}
use Rattle.trust_base.specs.declared.refusal.Refusal.TheVariants.{BadField}
use Rattle.matter_rows.specs.declared.act.Caller.{Caller}
use Rattle.statement_csv.specs.Lines.{line_of_texts}
use Rattle.trust_desk.specs.declared.requests.Request.{Request}
use Rattle.trust_desk.specs.declared.requests.Request.TheVariants.{Dismiss}
use Rattle.portal_requests.specs.Bodies.{body_in, field_text_at}

abbrev pub line_keys : List (List ℕ)
line_keys = codes "date" ∷ codes "reference" ∷ codes "bank_ref" ∷ codes "amount" ∷ codes "text" ∷ []

-- the line that an object's fields give, if each is a text; a field that is missing or null counts as empty
abbrev pub line_in : Option Data → Option Line
line_in None = None
line_in (Some d) =
    option_and_then (λ date. option_and_then (λ reference. option_and_then (λ bank_ref. option_and_then (λ amount.
    option_and_then (λ text. line_of_texts date reference bank_ref amount text) (field_text_at (codes "text") d))
    (field_text_at (codes "amount") d)) (field_text_at (codes "bank_ref") d)) (field_text_at (codes "reference") d))
    (field_text_at (codes "date") d)

abbrev pub dismissing : Caller → Option Line → Result Request Refusal
dismissing caller None = Err (BadField field.Body)
dismissing caller (Some line) = Ok (Dismiss caller line)

-- the request to dismiss the line in a body
abbrev pub dismissing_in : Caller → List ℕ → Result Request Refusal
dismissing_in caller body = dismissing caller (line_in (body_in line_keys body))
