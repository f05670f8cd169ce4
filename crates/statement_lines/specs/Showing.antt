-- What the words of a bank line show, and when the line fits a waiting entry.
use Rattle.std.specs.Prelude.{ℕ, ℤ, pos, Bool, false, ◌&&◌, ◌||◌, not, nat_le, nat_eq, List, [], ◌∷◌, length}
use Rattle.std.specs.Prelude.{slice_index, codes}
use Rattle.std.specs.List.{list_any, starts_with}
use Rattle.std.specs.Int.Signed.{le_z}
use Rattle.std.specs.Ordering.{int_eq}
use Rattle.trust_base.specs.declared.line.Line.{Line}
use Rattle.statement_lines.specs.Tokens.{is_digit, tokens}
use Rattle.statement_lines.specs.Numbers.{is_among, line_numbers}
use Rattle.statement_lines.specs.Waiting.{Waiting}

-- Other business than an entry's: a return, a correction or a charge.

-- a word that speaks of a return or of a correction, judging by how it begins
abbrev pub is_correction : List ℕ → Bool
is_correction word =
    starts_with nat_eq word (codes "return") || starts_with nat_eq word (codes "rtn")
    || starts_with nat_eq word (codes "revers") || starts_with nat_eq word (codes "nsf")
    || starts_with nat_eq word (codes "correct") || starts_with nat_eq word (codes "adjust")

-- a word that speaks of a charge
abbrev pub is_charge : List ℕ → Bool
is_charge word =
    starts_with nat_eq word (codes "fee") || starts_with nat_eq word (codes "charg")
    || starts_with nat_eq word (codes "chg")

-- the amount went out
abbrev pub is_out : ℤ → Bool
is_out amount = not (le_z (pos 0) amount)

-- a word speaks of a return or of a correction, or, if money went out, of a charge
unfoldable pub is_other_word : Bool → List ℕ → Bool
is_other_word went_out word = is_correction word || (went_out && is_charge word)

-- a word of the line's text speaks of other business
unfoldable pub is_other_business : Line → Bool
is_other_business line = list_any (is_other_word (is_out line.amount)) (tokens line.text)

-- What it shows.

-- the text begins with the reference, not followed by a digit
unfoldable pub begins_with_reference : List ℕ → List ℕ → Bool
begins_with_reference reference text =
    starts_with nat_eq text reference && not (is_digit (slice_index text (length reference)))

-- the text contains the reference, not followed by a digit
unfoldable pub has_reference : List ℕ → List ℕ → Bool
has_reference reference [] = false
has_reference reference (b ∷ rest) =
    begins_with_reference reference (b ∷ rest) || has_reference reference rest

-- the line and the entry have a number in common, or the line's text contains the entry's reference
unfoldable pub shows : Line → Waiting → Bool
shows line w = list_any (is_among w.numbers) (line_numbers line) || has_reference w.reference line.text

-- the line is dated on or before the business day, has the amount of the line that clears the entry, is not dated
-- before the payment was issued, is not other business, and shows the entry
unfoldable pub fits : ℕ → Line → Waiting → Bool
fits today line w =
    nat_le line.date today && int_eq line.amount w.amount && nat_le w.since line.date && not (is_other_business line)
    && shows line w
