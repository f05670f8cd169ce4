-- What is seen of a book at a moment.
use Rattle.std.specs.Prelude.{ℕ}
use Rattle.firm_rows.specs.Firm.{Firm}
use Rattle.firm_rows.specs.FirmSound.{FirmSound}

pub record Seen : Type 1 where
  -- the firm that it stores
  pub firm : Firm
  -- its store works, and whatever it read is what was written
  pub clean : Type 0
  -- whatever its store read is what was written, even if a fault has since shut it
  pub sure : Type 0
  -- what is stored stands for the rows of a sound firm
  pub stands : Type 0
  -- what is stored can be read as rows, sound or not
  pub readable : Type 0
  -- whatever a crash leaves now can be opened as a book again, and stands for the rows of a sound firm
  pub lasts : Type 0
  -- the rows that may be found after a crash now
  pub leaves : Firm → Type 0
  -- how many calls have returned `Store`, up to the greatest 64-bit number
  pub refusals : ℕ
  -- a firm that it stands for is sound
  pub sound : stands → FirmSound firm
  -- a clean store is sure of what it read
  pub clean_is_sure : clean → sure
