-- The items of a statement, determined by its bytes alone.
use Rattle.std.specs.Prelude.{◌+◌, ◌==◌, ℕ, List, [], ◌∷◌, length, Option, Some, None, if◌then◌else◌, option_map, unwrap_or}
use Rattle.csv.specs.Reading.{default_config, records, strip_bom}
use Rattle.trust_base.specs.declared.line.Line.{Line}
use Rattle.statement_csv.specs.Headers.{is_header}
use Rattle.statement_csv.specs.Lines.{line_of}
use Rattle.statement_csv.specs.References.{LineOwner, owner_of}
use Rattle.statement_csv.specs.References as owner
use Rattle.statement_csv.specs.declared.item.Item.{Item}
use Rattle.statement_csv.specs.declared.item.Item.TheVariants as item

-- the item, if the bank gave a reference of its own; otherwise unreadable
abbrev pub with_bank_ref : ℕ → Line → Item → Item
with_bank_ref number line it = if length line.bank_ref == 0 then item.Unreadable number else it

-- the item of a line from its owner; all but balances need the bank's own reference
abbrev pub item_by : ℕ → Line → LineOwner → Item
item_by number line owner.Opening = item.Opening line
item_by number line owner.Closing = item.Closing line
item_by number line owner.Firm = with_bank_ref number line (item.OfFirm line)
item_by number line (owner.Entry named) =
    with_bank_ref number line (item.OfMatter (record { matter = named.matter; entry = named.entry; line = line }))
item_by number line owner.Nobody = with_bank_ref number line (item.Stray line)

-- the item of a line in record `number`
abbrev pub item_of_line : ℕ → Line → Item
item_of_line number line = item_by number line (owner_of line.reference)

-- the item of record `number`
unfoldable pub item_of : ℕ → List (List ℕ) → Item
item_of number fields = unwrap_or (option_map (item_of_line number) (line_of fields)) (item.Unreadable number)

-- the line that an item is, if it is one
abbrev pub line_in : Item → Option Line
line_in (item.Opening line) = Some line
line_in (item.Closing line) = Some line
line_in (item.OfMatter named) = Some named.line
line_in (item.OfFirm line) = Some line
line_in (item.Stray line) = Some line
line_in (item.Unreadable number) = None

-- the items of records, the first of which is record `number`
unfoldable pub items_from : ℕ → List (List (List ℕ)) → List Item
items_from number [] = []
items_from number (fields ∷ rest) = item_of number fields ∷ items_from (number + 1) rest

-- the items of the records after the header, numbered from `number`; None if the header is wrong or missing
abbrev pub items_after_header : ℕ → List (List (List ℕ)) → Option (List Item)
items_after_header number [] = None
items_after_header number (first ∷ rest) = if is_header first then Some (items_from number rest) else None

-- the items of a statement, from the records that `csv` reads after a byte order mark; None if its header is wrong or
-- missing
abbrev pub items : List ℕ → Option (List Item)
items bytes = items_after_header 1 (records default_config (strip_bom bytes))
