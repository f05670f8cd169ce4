-- What a row shows is what it stands for.
use Rattle.sql_reads.proofs.Names.{◌≡◌, ℕ, ℤ, pos, nat_abs, Bool, List, [], ◌∷◌, map, filter, find, take, slice_get, Option, Some, None, option_map, inl, inr, refl, sym, ap, subst, ◌∙◌, rules, SFits, to_z, of_z, w64, cases_Bool, Int, Null, Text, Row, column, bytes, State, Shown, Database, Layout, heads_in, is_past, Stands, answers, next_head_asks, next_head_answer, SeatRow, EntryRow, seat_pairs, kept_pairs, HasHead, IsHead, head_from, kept_from, seat_from, kept_at, next_at, numbered_from, seat_at, arith, ints, nat_tests}
use Rattle.sqlite_value.specs.declared.value.Value.{Value}
use Rattle.matter_rows.specs.declared.head.Head.{Head}
use Rattle.matter_parts.specs.declared.kept.Kept.{Kept}
use Rattle.sql_tables.specs.Rows as table
use Rattle.sql_rows.specs.Entries.{entry_columns}
use Rattle.sql_rows.proofs.Back.{entries_back}
use Rattle.sql_tables.specs.Texts.{next_head_text}
use Rattle.sql_reads.proofs.Firsts.{none_shown, some_shown}
use Rattle.sql_reads.proofs.HeadsRead.{head_back}

-- Single values.

-- the number of a value
abbrev pub number_of : Value → ℤ
number_of v = (table.head_in (v ∷ [])).no

pub number_held : (r : Row) (at : ℕ) (z : ℤ) → column r at ≡ Int z → SFits w64 z → to_z w64 (of_z w64 z) ≡ number_of (column r at)
number_held r at z is fits = let same : to_z w64 (of_z w64 z) ≡ z = search rules in same ∙ sym (ap number_of is)

pub text_read : (r : Row) (at : ℕ) (t : List ℕ) → column r at ≡ Text t → t ≡ bytes (column r at)
text_read r at t is = sym (ap bytes is)

-- The head behind a number.

pub numbered_back : (r : Row) (m : ℕ) (h : Head) (columns : table.Head) → column r 12 ≡ Int (pos m)
    → columns ≡ table.head_in (Int (pos m) ∷ Null ∷ r) → IsHead h → HasHead h columns → (m, h) ≡ next_at r
numbered_back r m h columns at given is has =
    grind (arith, ints, nat_tests, nat_abs, number_of, column, head_from, head_back)

first_next : (p : table.Head → Bool) (hs : List table.Head)
    → slice_get (take 1 (map table.next_shown (filter p hs))) 0 ≡ option_map table.next_shown (find p hs)
first_next p [] = refl
first_next p (h ∷ hs) = elim (cases_Bool (p h)) [ inl b ↦ rw b refl | inr b ↦ rw b (first_next p hs) ]

-- the head of the next matter: that it is found, and that it and its number were read
pub record Next (p : table.Head → Bool) (hs : List table.Head) (n : ℕ × Head) : Type 0 where
  pub head : table.Head
  pub found : find p hs ≡ Some head
  pub is : n ≡ numbered_from head

next_of_found : (p : table.Head → Bool) (hs : List table.Head) (n : ℕ × Head) (o : Option table.Head) → find p hs ≡ o
    → Some n ≡ option_map numbered_from o → Next p hs n
next_of_found p hs n None found is = absurd (let e = is in cc)
next_of_found p hs n (Some h) found is =
    let same : n ≡ numbered_from h = (let e = is in cc) in record { head = h; found = found; is = same }

pub next_of : (p : table.Head → Bool) (hs : List table.Head) (n : ℕ × Head) → Some n ≡ option_map numbered_from (find p hs)
    → Next p hs n
next_of p hs n is = next_of_found p hs n (find p hs) refl is

pub none_of : (o : Option table.Head) → None ≡ option_map numbered_from o → o ≡ None
none_of None is = refl
none_of (Some h) is = absurd (let e = is in cc)

module _ (l : Layout) (was : Database) (stands : Stands l was) (old new : State) (same : old.now ≡ was) (after z : ℤ)
    (at : z ≡ after) (rows : List Row) (shown : Shown next_head_text (Int z ∷ []) old new rows) where
  first_is : slice_get rows 0 ≡ option_map table.next_shown (find (is_past after) (heads_in l was.trees))
  first_is =
      let still = subst (Stands l) (sym same) stands in
      ap (λ xs. slice_get xs 0)
      (next_head_answer l old.now z still rows (answers (next_head_asks l) (Int z ∷ []) old new still.schema rows shown)
      ∙ (λ i. take 1 (map table.next_shown (filter (is_past (at i)) (heads_in l (same i).trees)))))
      ∙ first_next (is_past after) (heads_in l was.trees)

  pub no_next : slice_get rows 0 ≡ None → find (is_past after) (heads_in l was.trees) ≡ None
  no_next none = none_shown table.next_shown _ (sym none ∙ first_is)

  pub next : (r : Row) → slice_get rows 0 ≡ Some r → (n : ℕ × Head) → n ≡ next_at r
      → Next (is_past after) (heads_in l was.trees) n
  next r there n read = grind (arith, ints, nat_tests, some_shown, first_is, next_at)

-- Rows of a matter.

-- the entry of the columns of a row is the one that the row shows
pub entry_shown : (m : ℕ) (z : ℤ) (k : Kept) (columns : table.Entry) (r : Row) → z ≡ pos m
    → entry_columns m k.number k.left k.entry ≡ columns → columns ≡ table.entry_in (Int (pos 0) ∷ Int z ∷ r)
    → k ≡ kept_at m r
entry_shown m z k columns r own has given =
    sym (entries_back m k.number k.left k.entry) ∙ ap kept_from (has ∙ given)
    ∙ ap (λ n. kept_from (table.entry_in (Int (pos 0) ∷ Int n ∷ r))) own

pub seats_shown : (m : ℕ) (ss : List table.Seat)
    → map (λ r. (m, SeatRow (seat_at m r))) (map table.seat_shown ss) ≡ seat_pairs m (map seat_from ss)
seats_shown m [] = refl
seats_shown m (s ∷ ss) = ap (λ l. (m, SeatRow (seat_from s)) ∷ l) (seats_shown m ss)

pub entries_shown : (m : ℕ) (es : List table.Entry)
    → map (λ r. (m, EntryRow (kept_at m r).number (kept_at m r).entry)) (map table.numbered_shown es)
    ≡ kept_pairs m (map kept_from es)
entries_shown m [] = refl
entries_shown m (e ∷ es) = ap (λ l. (m, EntryRow (kept_from e).number (kept_from e).entry) ∷ l) (entries_shown m es)
