-- The reason of an exception is the import's own verdict.
use Rattle.std.specs.Prelude.{◌≡◌, ℕ, Bool, true, false}
use Rattle.firm_rows.specs.Firm.{Firm}
use Rattle.statement_csv.specs.declared.item.Item.{Item}
use Rattle.statement_csv.specs.declared.item.Item.TheVariants as item
use Rattle.json_bodies.specs.Reasons.{item_reason, verdict_for}
use Rattle.trust_desk.specs.ItemStep.{counted_by, counted_of}

-- the item is a line
abbrev pub is_line : Item → Bool
is_line (item.Opening line) = true
is_line (item.Closing line) = true
is_line (item.OfMatter l) = true
is_line (item.OfFirm line) = true
is_line (item.Stray line) = true
is_line (item.Unreadable number) = false

-- an import on the business day would count each line as its reason says
abbrev pub ReasonsAreVerdicts : Type 0
ReasonsAreVerdicts =
    (day : ℕ) (firm : Firm) (it : Item) → is_line it ≡ true
    → counted_of day firm it ≡ counted_by (verdict_for (item_reason day firm it))
