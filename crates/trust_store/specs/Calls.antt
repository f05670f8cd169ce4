-- What each read and each write of a book leaves, whatever else it returns.
use Rattle.std.specs.Prelude.{◌≡◌, OnOk, OnErr, Result}
use Rattle.trust_base.specs.declared.refusal.StoreFault.{StoreFault}
use Rattle.firm_rows.specs.FirmChange.{FirmChange, after}
use Rattle.trust_store.specs.Books.{counted}
use Rattle.trust_store.specs.Crashes.{LeavesBefore, LeavesOr, LeavesAlone}
use Rattle.trust_store.specs.Seen.{Seen}

-- a read leaves the rows as they were, and adds nothing to what a crash may leave; if the store is sure of its reads
-- afterwards, it was before; it stands for a sound firm exactly if it did before; what a crash leaves still lasts; if
-- the read returns Ok, the store works; a store fault is counted
pub record IsRead {T : Type 0} (result : Result T StoreFault) (old new : Seen) : Type 0 where
  pub same : new.clean → old.stands → new.firm ≡ old.firm
  pub was_clean : new.clean → old.clean
  pub was_sure : new.sure → old.sure
  pub still_stands : new.clean → old.stands → new.stands
  pub stood : new.clean → new.stands → old.stands
  pub still_lasts : new.sure → old.lasts → new.lasts
  pub serves : new.sure → OnOk result new.clean
  pub crash : new.sure → old.stands → LeavesBefore old.leaves new.leaves
  pub count : new.refusals ≡ counted result old.refusals

-- a write that returns Ok makes its one change, and any other leaves the rows as they were; a crash may leave what it
-- might have left before, or the rows with the change, and after an Ok only the latter, if before the write it left
-- only the old rows; if the store is sure of its reads afterwards, it was before, and if it stood for a sound firm, it
-- still does; what a crash leaves still lasts, even if a fault shut the store before or during the write, provided that
-- a working store stood for a sound firm; if the store worked and the write returns Ok, it still works; a store fault
-- is counted
pub record IsWrite {T : Type 0} (change : FirmChange) (result : Result T StoreFault) (old new : Seen) : Type 0 where
  pub ok : new.clean → old.stands → OnOk result (new.firm ≡ after change old.firm)
  pub err : new.clean → old.stands → OnErr result (new.firm ≡ old.firm)
  pub was_clean : new.clean → old.clean
  pub was_sure : new.sure → old.sure
  pub still_stands : new.clean → old.stands → new.stands
  pub still_lasts : new.sure → (old.clean → old.stands) → old.lasts → new.lasts
  pub serves : new.sure → old.clean → OnOk result new.clean
  pub crash : new.sure → old.stands → LeavesOr (after change old.firm) old.leaves new.leaves
  pub settled : new.sure → old.stands
      → OnOk result (LeavesAlone old.firm old.leaves → LeavesAlone (after change old.firm) new.leaves)
  pub count : new.refusals ≡ counted result old.refusals

-- the same of a write that promises what needs `stands` only if `fits` holds too, except of an error
pub record IsWriteIf {T : Type 0} (fits : Type 0) (change : FirmChange) (result : Result T StoreFault) (old new : Seen)
    : Type 0 where
  pub ok : new.clean → old.stands → fits → OnOk result (new.firm ≡ after change old.firm)
  pub err : new.clean → old.stands → OnErr result (new.firm ≡ old.firm)
  pub was_clean : new.clean → old.clean
  pub was_sure : new.sure → old.sure
  pub still_stands : new.clean → old.stands → fits → new.stands
  pub still_lasts : new.sure → (old.clean → old.stands) → fits → old.lasts → new.lasts
  pub serves : new.sure → old.clean → OnOk result new.clean
  pub crash : new.sure → old.stands → fits → LeavesOr (after change old.firm) old.leaves new.leaves
  pub settled : new.sure → old.stands → fits
      → OnOk result (LeavesAlone old.firm old.leaves → LeavesAlone (after change old.firm) new.leaves)
  pub count : new.refusals ≡ counted result old.refusals
