-- What each call of the desk leaves of its book, whatever it returns.
use Rattle.std.specs.Prelude.{◌≡◌, ℕ, ⊤}
use Rattle.trust_store.specs.Seen.{Seen}

-- if the store is sure now it was sure before, and if it is clean now it was clean before; a book that stood for a
-- sound firm still does; if the store is sure, and stood for a sound firm if it was clean, then what a crash leaves
-- still lasts, and its count of faults goes as the reply says, even if a fault shut the store before or during the
-- call
pub record KeepsBook (Goes : ℕ → ℕ → Type 0) (old new : Seen) : Type 0 where
  pub was_clean : new.clean → old.clean
  pub was_sure : new.sure → old.sure
  pub still_stands : new.clean → old.stands → new.stands
  pub still_lasts : new.sure → (old.clean → old.stands) → old.lasts → new.lasts
  pub cause : new.sure → (old.clean → old.stands) → Goes old.refusals new.refusals

-- the count of faults after is this of the count before
abbrev pub Counts : (ℕ → ℕ) → ℕ → ℕ → Type 0
Counts counted before after = after ≡ counted before

-- the count may be anything
abbrev pub IsAny : ℕ → ℕ → Type 0
IsAny before after = ⊤
