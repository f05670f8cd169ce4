-- The line in a record of a statement.
use Rattle.std.specs.Prelude.{ℕ, ℤ, List, [], ◌∷◌, Option, Some, None, option_and_then}
use Rattle.trust_base.specs.BankTexts.{bank_text_of, line_text_of}
use Rattle.trust_base.specs.Texts.{bank_amount_of, day_of}
use Rattle.trust_base.specs.declared.line.Line.{Line}

-- the line with these five values
abbrev pub line_with : ℕ → ℤ → List ℕ → List ℕ → List ℕ → Line
line_with date amount reference bank_ref text =
    record { date = date; reference = reference; bank_ref = bank_ref; amount = amount; text = text }

-- the line from the texts of its fields: a day, two references of at most 64 printable bytes, a bank amount, and at
-- most 1,000 bytes of UTF-8
unfoldable pub line_of_texts : List ℕ → List ℕ → List ℕ → List ℕ → List ℕ → Option Line
line_of_texts date reference bank_ref amount text =
    option_and_then (λ d. option_and_then (λ a. option_and_then (λ r. option_and_then (λ b. option_and_then (λ t.
    Some (line_with d a r b t))
    (line_text_of text)) (bank_text_of bank_ref)) (bank_text_of reference)) (bank_amount_of amount)) (day_of date)

-- the line of a record with five valid fields
abbrev pub line_of : List (List ℕ) → Option Line
line_of [] = None
line_of (a ∷ []) = None
line_of (a ∷ b ∷ []) = None
line_of (a ∷ b ∷ c ∷ []) = None
line_of (a ∷ b ∷ c ∷ d ∷ []) = None
line_of (date ∷ reference ∷ bank_ref ∷ amount ∷ text ∷ []) = line_of_texts date reference bank_ref amount text
line_of (a ∷ b ∷ c ∷ d ∷ e ∷ f ∷ rest) = None
