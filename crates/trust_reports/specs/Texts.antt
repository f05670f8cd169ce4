-- How a line of a report is laid out: its fields, their widths, and the texts of what it names.
use Rattle.std.specs.Prelude.{ℕ, ◌-◌, List, [], ◌∷◌, ◌++◌, length, codes, map, replicate, flat_map, Option, Some, None, if◌then◌else◌, encode_utf8_all}
use Rattle.std.specs.Char.{is_control}
use Rattle.std.specs.Str.{chars}
use Rattle.trust_base.specs.Texts.{day_text, entry_text, matter_text}
use Rattle.matter_rows.specs.declared.act.Caller.{Caller}
use Rattle.matter_rows.specs.declared.act.Caller.TheVariants as caller
use Rattle.firm_rows.specs.declared.movement.Owner.{Owner}
use Rattle.firm_rows.specs.declared.movement.Owner.TheVariants as owner

-- Widths.

-- a text padded with spaces on its right to so many places; a longer one is printed whole
unfoldable pub left_in : ℕ → List ℕ → List ℕ
left_in places text = text ++ replicate (places - length text) 32

-- a text padded with spaces on its left to so many places; a longer one is printed whole
unfoldable pub right_in : ℕ → List ℕ → List ℕ
right_in places text = replicate (places - length text) 32 ++ text

-- Lines, each with its line end.

-- a field after another, separated by a space
abbrev pub further : List ℕ → List ℕ
further field = 32 ∷ field

-- fields separated by single spaces
abbrev pub line : List ℕ → List (List ℕ) → List ℕ
line field fields = field ++ (flat_map further fields ++ 10 ∷ [])

-- the first line of a report: its name and its day
unfoldable pub heading : List ℕ → ℕ → List ℕ
heading name day = line name (day_text day ∷ [])

-- a label padded on its right, directly followed by a figure padded on its left
abbrev pub column : ℕ → ℕ → List ℕ → List ℕ → List ℕ
column label_places figure_places label figure =
    left_in label_places label ++ (right_in figure_places figure ++ 10 ∷ [])

-- Names.

-- an entry of a matter: `M`, the six digits of the matter, `-` and the four digits of the entry
abbrev pub reference_text : ℕ → ℕ → List ℕ
reference_text matter entry = 77 ∷ (matter_text matter ++ 45 ∷ entry_text entry)

-- a matter, `M` and its six digits, or an entry of it
abbrev pub place_text : ℕ → Option ℕ → List ℕ
place_text m None = 77 ∷ matter_text m
place_text m (Some n) = reference_text m n

-- whose money was moved
abbrev pub owner_text : Owner → List ℕ
owner_text (owner.Matter matter entry) = reference_text matter entry
owner_text owner.Firm = codes "FIRM"

-- who did something
abbrev pub caller_text : Caller → List ℕ
caller_text caller.Cashier = codes "cashier"
caller_text (caller.Person person) = person

-- The text of a bank line.

-- a dash if empty
abbrev pub or_dash : List ℕ → List ℕ
or_dash [] = codes "-"
or_dash (b ∷ bs) = b ∷ bs

-- a control character (U+0000 to U+001F, U+007F to U+009F) is shown as a space
abbrev pub shown : ℕ → ℕ
shown c = if is_control c then 32 else c

-- a text as it is shown, character by character
abbrev pub shown_text : List ℕ → List ℕ
shown_text text = encode_utf8_all (map shown (chars text))

-- a line's text as it is shown; a dash if empty
abbrev pub words_shown : List ℕ → List ℕ
words_shown [] = codes "-"
words_shown (b ∷ bs) = shown_text (b ∷ bs)
