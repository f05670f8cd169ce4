-- What an import of a statement has done when it ends.
use Rattle.std.specs.Prelude.{◌≡◌, ◌≢◌, ◌⊎◌, ◌<◌, ℕ, false, true, List, [], ◌∷◌, ◌++◌, Option, Some, None, ⊤}
use Rattle.std.specs.List.{list_any}
use Rattle.trust_base.specs.Refusals.{is_fault}
use Rattle.trust_base.specs.declared.refusal.Field.TheVariants as field
use Rattle.trust_base.specs.declared.refusal.Refusal.TheVariants as refusal
use Rattle.firm_rows.specs.Firm.{Firm, of}
use Rattle.firm_rows.specs.FirmSound.{FirmSound}
use Rattle.statement_csv.specs.declared.item.Item.{Item}
use Rattle.statement_csv.specs.declared.item.ReadFault.{ReadFault}
use Rattle.statement_csv.specs.declared.item.ReadFault.TheVariants as fault
use Rattle.json_bodies.specs.declared.bodies.ImportReply.{ImportReply}
use Rattle.trust_desk.specs.declared.importing.ImportEnd.{ImportEnd}
use Rattle.trust_desk.specs.declared.importing.ImportStop.{ImportStop}
use Rattle.trust_desk.specs.declared.importing.ImportStop.TheVariants as stop
use Rattle.trust_desk.specs.Counts.{counted_refusal}
use Rattle.trust_desk.specs.ItemStep.{after_item, after_items, counts_after, names_item, none_counted}
use Rattle.trust_desk.specs.Heard.{own_of_item, own_of_items}
use Rattle.trust_desk.specs.Solo.{solo_rows}

-- The items of a statement. Nothing is known if its reader does not say what its bytes are; otherwise it has no items
-- if it has another header, or these.
abbrev pub Told : Type 0
Told = Option (Option (List Item))

-- How it ends.

-- an import is only refused for its header, by the store or for lack of memory
abbrev pub IsStop : ImportStop → Type 0
IsStop stop.Done = ⊤
IsStop (stop.Refused r) = (r ≡ refusal.BadField field.Header) ⊎ (is_fault r ≡ true)
IsStop stop.Limit = ⊤
IsStop stop.ReadFault = ⊤

-- the book's count of calls that returned `Store`, after an import that ends this way: one more if it ends with `Store`
abbrev pub counted_stop : ImportStop → ℕ → ℕ
counted_stop stop.Done n = n
counted_stop (stop.Refused r) n = counted_refusal r n
counted_stop stop.Limit n = n
counted_stop stop.ReadFault n = n

-- how an import ends for a fault of the reading
abbrev pub stop_at : ReadFault → ImportStop
stop_at fault.BadHeader = stop.Refused (refusal.BadField field.Header)
stop_at fault.Limit = stop.Limit
stop_at fault.Reader = stop.ReadFault
stop_at fault.Memory = stop.Refused refusal.Memory

-- What it has done.

-- these are the first items of the statement, and all of them if the import is done; with another header it is not
-- done, and there are none
abbrev pub AreFirst : Told → List Item → ImportStop → Type 0
AreFirst None front end = ⊤
AreFirst (Some None) front end = (front ≡ []) × (end ≢ stop.Done)
AreFirst (Some (Some items)) front end = (rest : List Item) × (front ++ rest ≡ items) × (end ≡ stop.Done → rest ≡ [])

-- the firm is sound before and after each item
abbrev pub AlwaysSound : ℕ → Firm → List Item → Type 0
AlwaysSound day firm [] = FirmSound firm
AlwaysSound day firm (it ∷ items) = FirmSound firm × AlwaysSound day (after_item day firm it) items

-- the first items of the statement were applied in order and counted; the firm is sound after each; and each matter's
-- rows are those that its own machine makes with the lines among them that name it
pub record Imports (day : ℕ) (firm : Firm) (told : Told) (result : ImportEnd) (new : Firm) : Type 0 where
  pub front : List Item
  pub first : AreFirst told front result.end
  pub leaves : new ≡ after_items day firm front
  pub counts : result.reply ≡ counts_after day firm front none_counted
  pub own : (m : ℕ) → of m new ≡ solo_rows (of m firm) (own_of_items m day front)
  pub sound : AlwaysSound day firm front

-- each matter's rows are those that its own machine makes with the item, if the item names it
abbrev pub LeavesOwnItem : ℕ → Firm → Item → Firm → Type 0
LeavesOwnItem day firm it new = (m : ℕ) → of m new ≡ solo_rows (of m firm) (own_of_item m day it)

-- What it has not done.

-- no item of the statement is known to name the matter
abbrev pub IsUnnamed : ℕ → Told → Type 0
IsUnnamed m None = ⊥
IsUnnamed m (Some None) = ⊤
IsUnnamed m (Some (Some items)) = list_any (names_item m) items ≡ false

-- the rows of each matter that no item names are unchanged
abbrev pub KeepsAllUnnamed : Told → Firm → Firm → Type 0
KeepsAllUnnamed told firm new = (m : ℕ) → IsUnnamed m told → of m new ≡ of m firm

-- During the import.

-- each count is below a number
pub record AreBelow (n : ℕ) (counts : ImportReply) : Type 0 where
  pub applied : counts.applied < n
  pub repeated : counts.repeated < n
  pub exceptions : counts.exceptions < n
  pub unreadable : counts.unreadable < n

-- these items of the statement were read, and the others are left
abbrev pub AreRead : Told → List Item → Told → Type 0
AreRead None front left = ⊤
AreRead (Some None) front left = (front ≡ []) × (left ≡ Some None)
AreRead (Some (Some items)) front left = (rest : List Item) × (front ++ rest ≡ items) × (left ≡ Some (Some rest))
