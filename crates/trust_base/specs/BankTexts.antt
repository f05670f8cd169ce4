-- References and texts on bank lines.
use Rattle.std.specs.Prelude.{ℕ, Bool, ◌&&◌, nat_le, List, length, Option, IsTrue}
use Rattle.std.specs.List.{list_all}
use Rattle.std.specs.Str.{is_utf8}
use Rattle.trust_base.specs.Names.{text_if}
use Rattle.trust_base.specs.declared.limits.TheConstants.{MAX_BANK_TEXT, MAX_LINE_TEXT}

-- a printable ASCII character or a space
abbrev pub is_printed_byte : ℕ → Bool
is_printed_byte b = nat_le 0x20 b && nat_le b 0x7E

-- at most 64 bytes, each a printable ASCII character or a space
unfoldable pub is_bank_text : List ℕ → Bool
is_bank_text bs = nat_le (length bs) MAX_BANK_TEXT && list_all is_printed_byte bs

-- at most 1000 bytes of UTF-8
unfoldable pub is_line_text : List ℕ → Bool
is_line_text bs = nat_le (length bs) MAX_LINE_TEXT && is_utf8 bs

-- the reference, if these bytes are valid as one
abbrev pub bank_text_of : List ℕ → Option (List ℕ)
bank_text_of bs = text_if (is_bank_text bs) bs

-- the line text, if these bytes are valid as one
abbrev pub line_text_of : List ℕ → Option (List ℕ)
line_text_of bs = text_if (is_line_text bs) bs

-- the bytes of a reference on a bank line
abbrev pub IsBankText : List ℕ → Type 0
IsBankText bs = IsTrue (is_bank_text bs)

-- the bytes of a bank line's text
abbrev pub IsLineText : List ℕ → Type 0
IsLineText bs = IsTrue (is_line_text bs)
