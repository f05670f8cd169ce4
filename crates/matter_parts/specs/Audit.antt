-- Whether a matter in memory is the whole of sound rows.
use Rattle.std.specs.Prelude.{◌≡◌, ◌≢◌, ℕ, ◌+◌, ◌<◌, List, [], ◌∷◌, length, get_or, ℤ, pos}
use Rattle.matter_rows.specs.declared.entry.Entry.{Entry}
use Rattle.matter_rows.specs.Rows.{Rows}
use Rattle.matter_rows.specs.Balances.{left_of, total_of}
use Rattle.matter_rows.specs.Shares.{IsSmallSum, draw_on, target}
use Rattle.matter_rows.specs.Sound.{Sound}
use Rattle.matter_parts.specs.declared.kept.Kept.{Kept}
use Rattle.matter_parts.specs.Parts.{Part, IsWhole, entries_kept}

-- the rows of a matter that has loaded all entries
abbrev pub rows_kept : Part → Rows
rows_kept m = record { head = m.head; seats = m.seats; entries = entries_kept m.kept }

-- the rows are sound, all entries are loaded by number, the totals are those of the rows, and what is left of each
-- entry follows from the rows
pub record IsSoundWhole (m : Part) : Type 0 where
  pub sound : Sound (rows_kept m)
  pub whole : IsWhole m (rows_kept m)

-- a matter that is the whole of sound rows passes the test
abbrev pub WholeIsSound : Type 0
WholeIsSound = (m : Part) (rows : Rows) → Sound rows → IsWhole m rows → IsSoundWhole m

-- The test, entry by entry.

-- the entry draws on none of the first `count`
abbrev pub IsUntargeted : Entry → ℕ → Type 0
IsUntargeted e count = (place : ℕ) → place < count → target e ≢ place + 1

-- what all entries draw on each of them, the first being number 1
pub record AreDrawn (drawn : List ℤ) (es : List Entry) : Type 0 where
  pub count : length drawn ≡ length es
  pub sums : (place : ℕ) → place < length es → get_or drawn place (pos 0) ≡ total_of (draw_on (place + 1)) es
  pub small : (place : ℕ) → place < length es → IsSmallSum (get_or drawn place (pos 0))

-- a loaded entry has this number, and what is left of it follows from the entries
pub record IsInPlace (es : List Entry) (n : ℕ) (k : Kept) : Type 0 where
  pub number : k.number ≡ n
  pub left : pos k.left ≡ left_of es n k.entry

-- loaded entries have the numbers n, n + 1 and so on, and what is left of each follows from the entries
abbrev pub AreInPlace : List Entry → ℕ → List Kept → Type 0
AreInPlace es n [] = Unit {0}
AreInPlace es n (k ∷ ks) = IsInPlace es n k × AreInPlace es (n + 1) ks
