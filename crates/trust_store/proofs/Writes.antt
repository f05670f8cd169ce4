-- A write that promises something only if it fits.
use Rattle.std.specs.Prelude.{Result}
use Rattle.trust_base.specs.declared.refusal.StoreFault.{StoreFault}
use Rattle.trust_store.proofs.Names.{FirmChange, IsWrite, IsWriteIf, arith, ints, nat_tests}
use Rattle.trust_store.specs.Seen.{Seen}

module _ {T : Type 0} {fits : Type 0} {change : FirmChange} {result : Result T StoreFault} {old new : Seen} where
  -- if it fits, it is a write
  pub fit_write : fits → IsWriteIf fits change result old new
      → IsWrite change result old new
  fit_write fit w = grind (arith, ints, nat_tests)

  -- it promises no more if less fits
  pub write_if : {told : Type 0} → (told → fits) → IsWriteIf fits change result old new
      → IsWriteIf told change result old new
  write_if is w = grind (arith, ints, nat_tests)

  -- a write whatever fits
  pub write_always : IsWrite change result old new
      → IsWriteIf fits change result old new
  write_always w = grind (arith, ints, nat_tests)
