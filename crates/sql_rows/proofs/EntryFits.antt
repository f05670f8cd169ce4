-- The entry of a change fits among those that the matter keeps.
use Rattle.sql_rows.proofs.Names.{◌≡◌, ◌⊎◌, List, length, arith, Rows, entry_at, TotalsAfter, Numbered, Kept, entry_put, kept_as, MatterChange, IsChange, Part, AreNumbered, IsWhole, entries_kept, ints, nat_tests}
use Rattle.matter_parts.specs.declared.edit.Edit.TheVariants as edit
use Rattle.matter_parts.proofs.AllKept.{length-kept, numbered-at, numbered-end}

-- what is kept is numbered, also with the entry
pub record FitsKept (ks : List Kept) (x : Numbered) (v : TotalsAfter) : Type 0 where
  pub before : AreNumbered 1 ks
  pub after : AreNumbered 1 (entry_put ks (kept_as x v))

-- an entry that is new
fits-append : (part : Part) (rows : Rows) (c : MatterChange) (x : Numbered) → IsWhole part rows → IsChange rows c
    → c.edit ≡ edit.Append x → FitsKept part.kept x c.moves
fits-append part rows c x whole ch is = grind (arith, ints, nat_tests, length, length-kept, numbered-end, kept_as)

-- an entry in the place of the one that was there
fits-exchange : (part : Part) (rows : Rows) (c : MatterChange) (x : Numbered) → IsWhole part rows → IsChange rows c
    → c.edit ≡ edit.Exchange x → FitsKept part.kept x c.moves
fits-exchange part rows c x whole ch is = grind (arith, ints, nat_tests, entry_at, entries_kept, numbered-at, kept_as)

-- The entry of a change of either kind.

-- the change writes the entry: a new one, or one in the place of that which was there
abbrev pub IsEntryChange : MatterChange → Numbered → Type 0
IsEntryChange c x = (c.edit ≡ edit.Append x) ⊎ (c.edit ≡ edit.Exchange x)

-- it fits among what is kept of whole rows
pub fits-change : (part : Part) (rows : Rows) (c : MatterChange) (x : Numbered) → IsWhole part rows → IsChange rows c
    → IsEntryChange c x → FitsKept part.kept x c.moves
fits-change part rows c x whole ch x6 = grind (arith, ints, nat_tests, fits-append, fits-exchange)
