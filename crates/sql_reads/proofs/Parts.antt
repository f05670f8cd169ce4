-- What the tables hold of a matter is all of it.
use Rattle.sql_reads.proofs.Names.{◌≡◌, ℕ, pos, find, Option, Some, None, option_map, refl, sym, ap, subst, ◌∙◌, List, Seat, Rows, unopened, Kept, IsWhole, of, rows_in, firm_rows, Lists, AreSound, firm_from, head_from, matters_from, part_from, head_at, HeadWithTotals, PartsAreWhole, figures_found, part_at, part_of, totals_of, with_totals_at, with_totals_from, arith, ints, nat_tests}
use Rattle.sql_tables.specs.Rows as table
use Rattle.sql_rows.proofs.Becomes.{whole_at}
use Rattle.sql_rows.proofs.HeadOrder.{rows_found}
use Rattle.sql_rows.proofs.Heads.{rows_at}

module _ (m : ℕ) (a : Lists) (sound : AreSound a) where
  own_rows : rows_in m (matters_from a) ≡ of m (firm_from a)
  own_rows = firm_rows m (matters_from a) (matters_from a) _ _ _ _ _ _ (firm_from a) refl sound.meant.matters.ascends refl

  rows_are : rows_found (part_from a) (find (table.is_head (pos m)) a.heads) ≡ of m (firm_from a)
  rows_are = sym (rows_at a m sound.keyed.heads sound.meant.written.heads) ∙ own_rows

  whole : IsWhole (part_at m a) (of m (firm_from a))
  whole = subst (λ (rows : Rows). IsWhole (part_at m a) rows) own_rows (whole_at a m sound.keyed.heads sound.meant)

pub parts_whole : PartsAreWhole
parts_whole m a sound = whole m a sound

-- What was read of a matter.

head_read : (o : HeadWithTotals) (f : Option table.Head) → Some o ≡ option_map with_totals_from f → (Some o.head ≡ option_map head_from f) × (o.figures ≡ figures_found f)
head_read o f e = grind (arith, ints, nat_tests, with_totals_from)

none_read : (f : Option table.Head) → None ≡ option_map with_totals_from f → f ≡ None
none_read f e = grind (arith, ints, nat_tests)

-- its head and its totals, as they were found
pub head_found : (m : ℕ) (a : Lists) (o : HeadWithTotals) → Some o ≡ with_totals_at m a → (Some o.head ≡ (part_at m a).head) × (o.figures ≡ (part_at m a).figures)
head_found m a o found = head_read o (find (table.is_head (pos m)) a.heads) found

alone : (f : Option table.Head) → option_map (λ (x : HeadWithTotals). x.head) (option_map with_totals_from f) ≡ option_map head_from f
alone f = grind (arith, ints, nat_tests)

-- without the totals it is the head alone
head_alone : (m : ℕ) (a : Lists) (o : Option HeadWithTotals) → o ≡ with_totals_at m a → option_map (λ (x : HeadWithTotals). x.head) o ≡ head_at m a
head_alone m a o found = ap (option_map (λ (x : HeadWithTotals). x.head)) found ∙ alone (find (table.is_head (pos m)) a.heads)

totals_found : (f : Option table.Head) → totals_of (option_map with_totals_from f) ≡ figures_found f
totals_found f = grind (arith, ints, nat_tests)

-- its head with the totals, its seats and its entries are what the tables hold of it
pub read_part : (m : ℕ) (a : Lists) (o : Option HeadWithTotals) → o ≡ with_totals_at m a → (seats : List Seat) → seats ≡ (part_at m a).seats
    → (kept : List Kept) → kept ≡ (part_at m a).kept → part_of o seats kept ≡ part_at m a
read_part m a o found seats sits kept keeps =
    grind (arith, ints, nat_tests, head_alone, totals_of, part_at, totals_found, find)

-- without a head it has no rows
pub none_rows : (m : ℕ) (a : Lists) → AreSound a → None ≡ with_totals_at m a → unopened ≡ of m (firm_from a)
none_rows m a sound none = ap (rows_found (part_from a)) (sym (none_read _ none)) ∙ rows_are m a sound
