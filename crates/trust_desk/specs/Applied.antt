-- How an item of a statement is applied, and how a statement is imported.
use Rattle.std.specs.Prelude.{◌≡◌, ℕ, false, List, Option, Result, IfOk, IsOk, OnErr}
use Rattle.trust_base.specs.declared.refusal.Field.TheVariants as field
use Rattle.trust_base.specs.declared.refusal.Refusal.TheVariants as refusal
use Rattle.trust_base.specs.declared.refusal.StoreFault.{StoreFault}
use Rattle.firm_rows.specs.Firm.{Firm}
use Rattle.statement_csv.specs.Limits.{IsTooLong, IsWithin}
use Rattle.statement_csv.specs.Reading.{LacksHeader}
use Rattle.statement_csv.specs.declared.item.Item.{Item}
use Rattle.trust_store.specs.Books.{counted}
use Rattle.trust_store.specs.Seen.{Seen}
use Rattle.trust_desk.specs.declared.importing.Counted.{Counted}
use Rattle.trust_desk.specs.declared.importing.ImportEnd.{ImportEnd}
use Rattle.trust_desk.specs.declared.importing.ImportStop.TheVariants as stop
use Rattle.trust_desk.specs.Calls.{Counts, KeepsBook}
use Rattle.trust_desk.specs.Crashes.{IsAfterFirst, MayLeave, MayLeaveChange, is_stopped}
use Rattle.trust_desk.specs.Imports.{Imports, IsStop, Told, counted_stop}
use Rattle.trust_desk.specs.ItemStep.{after_item, counted_of}

-- the item is counted and applied as the firm has it; on an error nothing changes; the result is `Store` only if a call
-- of the book returned `Store`; a crash may leave what it might have left before, or the rows with the item's change
pub record IsItemApplied (day : ℕ) (it : Item) (result : Result Counted StoreFault)
    (old new : Seen) : Type 0 where
  pub step : new.clean → old.stands
      → IfOk result (λ c. (c ≡ counted_of day old.firm it) × (new.firm ≡ after_item day old.firm it))
  pub err : new.clean → old.stands → OnErr result (new.firm ≡ old.firm)
  pub kept : KeepsBook (Counts (counted result)) old new
  pub crash : new.sure → old.stands
      → MayLeaveChange (IsOk result) old.firm (after_item day old.firm it) old new

-- some first items are applied and counted, with the firm sound after each; the import ends for the header only if that
-- is another one, at the limit only if the bytes are too long, and is done only if they are not; it ends with `Store`
-- only if a call of the book returned `Store`; a crash may leave the rows after some first items; the counted items are
-- the first of the statement even if a fault has shut the store since
pub record IsImported (day : ℕ) (told : Told) (bytes : Option (List ℕ))
    (result : ImportEnd) (old new : Seen) : Type 0 where
  pub front : new.clean → old.stands → Imports day old.firm told result new.firm
  pub stops : IsStop result.end
  pub header : result.end ≡ stop.Refused (refusal.BadField field.Header) → LacksHeader told
  pub limit : result.end ≡ stop.Limit → IsTooLong bytes
  pub within : result.end ≡ stop.Done → IsWithin bytes
  pub kept : KeepsBook (Counts (counted_stop result.end)) old new
  pub crash : new.sure → old.clean → old.stands → MayLeave (is_stopped result.end ≡ false)
      (IsAfterFirst day old.firm told) old.firm new.firm old new
  pub shut : new.sure → old.clean → old.stands → (mid : Firm) × Imports day old.firm told result mid
