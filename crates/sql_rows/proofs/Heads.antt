-- What is found of a matter's head, what is written of one, and the matters after one was put in.
use Rattle.sql_rows.proofs.Names.{◌≡◌, inl, inr, ℕ, ℤ, pos, ◌≤◌, true, false, List, [], ◌∷◌, map, find, Option, Some, None, option_map, sym, ap, subst, ◌∙◌, arith, int_eq, ◌==◌, IfSome, AllByRecursion, cases_Bool, nat_tests, IsKeyedBy, delete_where, all-insert_by, has_key-insert_by, has_key-delete_where, same_int, all-filter, Head, Client, Purged, Seat, Entry, IsBare, Figures, IsWhole, rows_in, matters_with, IsKeptWhole, AreKeptWhole, put_head, is_head, Lists, client_column, closed_column, head_columns, purged_column, part_from, matter_from, matters_from, head_from, holder_from, day_or_none, IsWrittenHead, HasHeadAt, head_at, all_unmap, all_weaker, cond_both, ints}
use Rattle.std.specs.Prelude.{nat_abs}
use Rattle.matter_rows.specs.declared.head.Holder.{Holder}
use Rattle.sql_tables.specs.Rows as table
use Rattle.sql_rows.proofs.HeadOrder.{key, IsNumbered, made-put_head, rows_found, rows_in-made}
use Rattle.sql_rows.proofs.KeyedRows.{has_key-put, not_zero}
use Rattle.sql_rows.proofs.RowOrder.{all-find, found_passes}

-- The matters.

-- written heads have numbers
are_numbered : (hs : List table.Head) → AllByRecursion IsWrittenHead hs → AllByRecursion IsNumbered hs
are_numbered hs = all_weaker IsWrittenHead IsNumbered (λ h is. is.0) hs

-- after a head was put in and the parts of other matters stay, the matter is there with it, and the others as they were
pub heads_put : (a b : Lists) (m : ℕ) (new : table.Head) → IsKeyedBy key a.heads → AllByRecursion IsWrittenHead a.heads
    → new.no ≡ pos m → b.heads ≡ put_head new a.heads
    → ((h : table.Head) → (h.no ≡ pos m → ⊥) → part_from b h ≡ part_from a h)
    → matters_from b ≡ matters_with m (part_from b new) (matters_from a)
heads_put a b m new up written own put same =
    ap (map (matter_from b)) put ∙ made-put_head (part_from b) (part_from a) new m own same a.heads up
    (are_numbered a.heads written)

-- the rows of a matter are those of the head that is found, or none
pub rows_at : (a : Lists) (m : ℕ) → IsKeyedBy key a.heads → AllByRecursion IsWrittenHead a.heads
    → rows_in m (matters_from a) ≡ rows_found (part_from a) (find (is_head (pos m)) a.heads)
rows_at a m up written = rows_in-made (part_from a) a.heads m up (are_numbered a.heads written)

-- and so is its head
pub head_found : (a : Lists) (m : ℕ) → IsKeyedBy key a.heads → AllByRecursion IsWrittenHead a.heads
    → head_at m a ≡ (rows_in m (matters_from a)).head
head_found a m up written =
    grind (arith, ints, nat_tests, find, is_head, rows_at, option_map, head_from, rows_found, part_from)

-- a head that is found has the number
pub found_number : (a : Lists) (m : ℕ) (h : table.Head) → find (is_head (pos m)) a.heads ≡ Some h → h.no ≡ pos m
found_number a m h found = same_int h.no (pos m) (found_passes (is_head (pos m)) a.heads h found)

-- its matter is one of the whole ones, and whole for its rows
pub part_found : (a : Lists) (m : ℕ) (h : table.Head) → IsKeyedBy key a.heads → AllByRecursion IsWrittenHead a.heads
    → AreKeptWhole (matters_from a) → find (is_head (pos m)) a.heads ≡ Some h
    → IsWhole (part_from a h) (rows_in m (matters_from a))
part_found a m h up written kept found =
    let whole : IsKeptWhole (matter_from a h) =
    all-find (λ (x : table.Head). IsKeptWhole (matter_from a x)) (is_head (pos m)) a.heads h
    (all_unmap IsKeptWhole (matter_from a) a.heads kept.whole) found in
    subst (IsWhole (part_from a h)) (sym (rows_at a m up written ∙ ap (rows_found (part_from a)) found)) whole.whole

-- The head that is written is read back, where its days are above 0.

-- a day of 0 stands for none, so a day that is set is above it
abbrev pub IsDated : Option ℕ → Type 0
IsDated o = IfSome o (λ day. 1 ≤ day)

-- so the day of a purge is
abbrev pub IsHeld : Holder → Type 0
IsHeld (Client name) = Unit {0}
IsHeld (Purged day) = 1 ≤ day

-- the days of closing and of the purge are above 0
pub record HasDays (h : Head) : Type 0 where
  pub holder : IsHeld h.holder
  pub closed : IsDated h.closed

some_day : (n : ℕ) → (n == 0) ≡ false → 1 ≤ n
some_day n e = grind (arith, nat_tests)

day_back : (o : Option ℕ) → IsDated o → day_or_none (nat_abs (closed_column o)) ≡ o
day_back o one = grind (arith, ints, nat_tests, not_zero)

holder_back : (h : table.Head) (o : Holder) → IsHeld o → h.client ≡ client_column o → h.purged ≡ purged_column o
    → holder_from h ≡ o
holder_back h o one c p = grind (arith, ints, nat_tests, not_zero)

-- the columns of a head give it back
pub head_back : (m : ℕ) (h : Head) (f : Figures) → HasDays h → head_from (head_columns m h f) ≡ h
head_back m h f days = grind (arith, ints, nat_tests, holder_back, head_columns, day_back)

head_written : (m : ℕ) (h : Head) (f : Figures) → HasDays h → IsWrittenHead (head_columns m h f)
head_written m h f days = grind (arith, ints, nat_tests, head_columns, head_back)

-- a head that was read has such days
holder_read : (h : table.Head) → IsHeld (holder_from h)
holder_read h = grind (arith, ints, nat_tests, cond_both, nat_abs, some_day)

closed_read : (n : ℕ) → IsDated (day_or_none n)
closed_read n = cond_both (n == 0) None (Some n) IsDated (λ _. tt) (λ e. some_day n e)

pub days_read : (h : table.Head) → HasDays (head_from h)
days_read h = record { holder = holder_read h; closed = closed_read (nat_abs h.closed) }

-- a matter with a seat was not purged
pub seated_held : (o : Holder) (closed : Option ℕ) (last : ℕ) (s : Seat) (es : List Entry)
    → IsBare o closed last (s ∷ []) es → IsHeld o
seated_held o closed last s es bare = grind (arith, ints, nat_tests)

-- The heads after one was put in.

-- each row is what would be written
pub written_put_head : (m : ℕ) (h : Head) (f : Figures) (hs : List table.Head) → HasDays h
    → AllByRecursion IsWrittenHead hs → AllByRecursion IsWrittenHead (put_head (head_columns m h f) hs)
written_put_head m h f hs days all =
    all-insert_by key IsWrittenHead (delete_where (is_head (pos m)) hs) (head_columns m h f) (head_written m h f days)
    (all-filter IsWrittenHead _ hs all)

-- the number that was put in has a head
pub has_put_head : (new : table.Head) (hs : List table.Head) → HasHeadAt (put_head new hs) new.no
has_put_head new hs = has_key-put key (delete_where (is_head new.no) hs) new

-- and each that had one
pub still_has_head : (new : table.Head) (hs : List table.Head) (k : ℤ) → HasHeadAt hs k → HasHeadAt (put_head new hs) k
still_has_head new hs k has = elim (cases_Bool (int_eq new.no k)) [
  | inl e ↦ subst (HasHeadAt (put_head new hs)) (same_int new.no k e) (has_put_head new hs)
  | inr e ↦ has_key-insert_by key (delete_where (is_head new.no) hs) new k
      (has_key-delete_where key (is_head new.no) hs k (each e hs) ∙ has)
]
  where
    off : (x : ℤ) → int_eq new.no k ≡ false → int_eq x new.no ≡ true → int_eq x k ≡ false
    off x apart same = rw (same_int x new.no same) apart

    each : int_eq new.no k ≡ false → (xs : List table.Head)
        → AllByRecursion (λ (x : table.Head). is_head new.no x ≡ true → int_eq x.no k ≡ false) xs
    each apart [] = tt
    each apart (x ∷ xs) = (off x.no apart, each apart xs)
