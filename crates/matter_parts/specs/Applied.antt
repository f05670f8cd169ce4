-- The loaded entries after a change.
use Rattle.std.specs.Prelude.{◌≡◌, ℕ, ◌==◌, cond, List, [], ◌∷◌, Option, Some, None}
use Rattle.matter_rows.specs.Rows.{seen_on}
use Rattle.matter_parts.specs.declared.edit.Numbered.{Numbered}
use Rattle.matter_parts.specs.declared.kept.Kept.{Kept}
use Rattle.matter_parts.specs.declared.change.Left.{Left}
use Rattle.matter_parts.specs.declared.change.TotalsAfter.{TotalsAfter}
use Rattle.matter_parts.specs.Parts.{Part}

-- the loaded entries, with `new` replacing the one with its number, or added after the others
abbrev pub entry_put : List Kept → Kept → List Kept
entry_put [] new = new ∷ []
entry_put (k ∷ ks) new = cond (k.number == new.number) (new ∷ ks) (k ∷ entry_put ks new)

-- the loaded entries, with what is left of one entry written
abbrev pub left_written : List Kept → ℕ → ℕ → List Kept
left_written [] n left = []
left_written (k ∷ ks) n left = cond (k.number == n) (record k { left = left } ∷ ks) (k ∷ left_written ks n left)

abbrev pub other_written : List Kept → Option Left → List Kept
other_written ks None = ks
other_written ks (Some o) = left_written ks o.number o.left

-- the entry as it is stored
abbrev pub kept_as : Numbered → TotalsAfter → Kept
kept_as x v = record { number = x.number; left = v.left; entry = x.entry }

-- the entry is stored, what is left of the one that it names is written, and the figures are new
pub record IsWritten (m : Part) (x : Numbered) (v : TotalsAfter) (day : ℕ) (m' : Part) : Type 0 where
  pub head : m'.head ≡ seen_on m.head day
  pub seats : m'.seats ≡ m.seats
  pub figures : m'.figures ≡ v.figures
  pub kept : m'.kept ≡ other_written (entry_put m.kept (kept_as x v)) v.other
