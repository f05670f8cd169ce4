-- How many items an import counts.
use Rattle.std.specs.Prelude.{◌≡◌, ◌+◌, ℕ, List, length}
use Rattle.json_bodies.specs.declared.bodies.ImportReply.{ImportReply}
use Rattle.firm_rows.specs.Firm.{Firm}
use Rattle.statement_csv.specs.declared.item.Item.{Item}
use Rattle.trust_desk.specs.ItemStep.{counts_after, none_counted}

abbrev pub count_sum : ImportReply → ℕ
count_sum c = c.applied + c.exceptions + c.repeated + c.unreadable

-- each item is counted exactly once
abbrev pub EveryItemIsCounted : Type 0
EveryItemIsCounted =
    (day : ℕ) (firm : Firm) (items : List Item) → count_sum (counts_after day firm items none_counted) ≡ length items
