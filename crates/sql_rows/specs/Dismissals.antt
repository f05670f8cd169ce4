-- The columns of a dismissal: a row of the trail that is of no matter.
use Rattle.std.specs.Prelude.{◌≡◌, ℕ, pos, ◌==◌, not, Bool, true, List, [], ◌∷◌, ◌++◌, if◌then◌else◌}
use Rattle.std.specs.List.{list_all}
use Rattle.trust_values.specs.Limits.{IsBankAmount, IsDay}
use Rattle.trust_values.specs.Texts.{day_text, signed_text}
use Rattle.trust_base.specs.BankTexts.{IsBankText}
use Rattle.trust_base.specs.Names.{cashier_text}
use Rattle.trust_base.specs.declared.line.Line.{Line}
use Rattle.firm_rows.specs.declared.dismissal.Dismissal.{Dismissal}
use Rattle.sql_tables.specs.Rows as table
use Rattle.sql_rows.specs.Codes.{dismissed_deed}
use Rattle.sql_rows.specs.Columns.{IsBankLine}

-- A bank line as one text.

-- the character that ends a field: neither a day, nor a reference, nor an amount has it
abbrev pub tab : ℕ
tab = 9

-- a line's day, its two references and its amount, each with a tab behind it, and then its text, which may have tabs
abbrev pub line_column : Line → List ℕ
line_column l =
    day_text l.date ++ tab ∷ (l.reference ++ tab ∷ (l.bank_ref ++ tab ∷ (signed_text l.amount ++ tab ∷ l.text)))

-- any other character
abbrev pub is_plain : ℕ → Bool
is_plain b = not (b == tab)

-- no tab is in it
abbrev pub IsField : List ℕ → Type 0
IsField bytes = list_all is_plain bytes ≡ true

-- what is before the first tab, and behind it
abbrev pub before_tab : List ℕ → List ℕ
before_tab [] = []
before_tab (b ∷ bytes) = if b == tab then [] else b ∷ before_tab bytes

abbrev pub after_tab : List ℕ → List ℕ
after_tab [] = []
after_tab (b ∷ bytes) = if b == tab then bytes else after_tab bytes

-- The columns.

-- the row of a day with the text of a line: of the cashier, who alone dismisses
abbrev pub dismissal_row : ℕ → List ℕ → table.Act
dismissal_row day text = record {
  seq = pos 0;
  matter = pos 0;
  entry = pos 0;
  day = pos day;
  deed = pos dismissed_deed;
  caller = cashier_text;
  text = text;
  number = pos 0;
}

abbrev pub dismissal_columns : Dismissal → table.Act
dismissal_columns d = dismissal_row d.day (line_column d.line)

-- a dismissal whose values have the form of their types
abbrev pub IsDismissal : Dismissal → Type 0
IsDismissal d = IsDay d.day × IsBankLine d.line

-- the text is that of a line whose day, reference and amount are valid
pub record BeginsLineText (text : List ℕ) : Type 0 where
  pub line : Line
  pub shown : line_column line ≡ text
  pub dated : IsDay line.date
  pub referred : IsBankText line.reference
  pub amounts : IsBankAmount line.amount

-- a row has a valid day, nothing that no dismissal has, and such a text
pub record BeginsDismissal (row : table.Act) : Type 0 where
  pub dated : (d : ℕ) × (IsDay d × (dismissal_row d row.text ≡ row))
  pub line : BeginsLineText row.text
