-- The matters of a book, one behind another.
use Rattle.sql_reads.proofs.Names.{◌≡◌, inl, inr, ℕ, ℤ, pos, nat_abs, ◌+◌, ◌≤◌, ◌<ℤ◌, int_lt, Bool, true, false, List, [], ◌∷◌, ◌++◌, map, filter, find, length, fold, Some, None, Result, Ok, IsErr, sym, ap, ◌∙◌, subst, arith, append_assoc, length-append, AllByRecursion, ints, cases_Bool, IsKeyedBy, all_unmap, all_weaker, IsRowInRange, MOST_ROWS, pairs, HandedOver, FoldsFront, AreHanded, IsKeptWhole, joined, rows_kept, joined-ranged, begun, all_more, some_more, ended, kept-numbered, Lists, is_past, AreSound, IsWrittenHead, kept_from, matter_from, matters_from, part_from, all-find, numbered_from, rows_at, found_passes, filter_none, is_some, any_is_found, none_from_any, filter_all, nat_tests}
use Rattle.firm_rows.specs.Firm.{Row}
use Rattle.matter_rows.specs.declared.head.Head.{Head}
use Rattle.trust_store.specs.declared.plain.KeptMatter.{KeptMatter}
use Rattle.sql_tables.specs.Rows as table
use Rattle.sql_reads.proofs.Fed.{of_err}
use Rattle.sql_reads.proofs.Shown.{Next}

-- Heads behind a number.

pub none_past : {X : Type 0} (p : X → Bool) (xs : List X) → find p xs ≡ None → filter p xs ≡ []
none_past p xs none = filter_none p xs (none_from_any p xs (any_is_found p xs ∙ ap is_some none))

lt_past : (a b : ℤ) → a <ℤ b → int_lt a b ≡ true
lt_past a b lt = grind (arith, ints)

not_past : (z : ℤ) → int_lt z z ≡ false
not_past z = grind (arith, ints)

past_after : (a b c : ℤ) → int_lt a b ≡ true → b <ℤ c → int_lt a c ≡ true
past_after a b c h lt = grind (arith, ints)

past_before : (a b c : ℤ) → int_lt a b ≡ true → int_lt a c ≡ false → int_lt b c ≡ false
past_before a b c h k = grind (arith, ints)

abbrev key : table.Head → ℤ
key h = h.no

-- the heads behind a number are the first of them and those behind that
pub next_past : (after : ℤ) (hs : List table.Head) (h : table.Head) → IsKeyedBy key hs
    → find (is_past after) hs ≡ Some h → filter (is_past after) hs ≡ h ∷ filter (is_past h.no) hs
next_past after [] h up found = absurd (let e = found in cc)
next_past after (x ∷ xs) h up found = elim (cases_Bool (is_past after x)) [
  | inl b ↦
      let same : x ≡ h = (let e = rw b at found in cc) in
      let one = filter_all (is_past after) xs
      (all_weaker (λ (y : table.Head). x.no <ℤ y.no) (λ y. is_past after y ≡ true)
      (λ y lt. past_after after x.no y.no b lt) xs up.0) in
      let two = filter_all (is_past x.no) xs
      (all_weaker (λ (y : table.Head). x.no <ℤ y.no) (λ y. is_past x.no y ≡ true)
      (λ y lt. lt_past x.no y.no lt) xs up.0) in
      subst (λ (y : table.Head). filter (is_past after) (x ∷ xs) ≡ y ∷ filter (is_past y.no) (x ∷ xs)) same
      (rw (b, not_past x.no) (ap (λ l. x ∷ l) (one ∙ sym two)))
  | inr b ↦
      let later : find (is_past after) xs ≡ Some h = rw b at found in
      let here = found_passes (is_past after) xs h later in
      rw (b, past_before after h.no x.no here b) (next_past after xs h up.1 later)
]

begin_past : (from z : ℤ) (k : ℕ) → from <ℤ pos 0 → z ≡ pos k → int_lt from z ≡ true
begin_past from z k low is = grind (arith, ints)

-- every head is behind a number below zero
pub all_past : (from : ℤ) (hs : List table.Head) → from <ℤ pos 0 → AllByRecursion IsWrittenHead hs → filter (is_past from) hs ≡ hs
all_past from hs low written = grind (arith, ints, nat_tests, filter_all, is_past, all_weaker, begin_past, nat_abs)

-- The rows of one matter.

rows_are : (a : Lists) (h : table.Head) → IsWrittenHead h → IsKeptWhole (matter_from a h)
    → rows_at a (numbered_from h) ≡ pairs (nat_abs h.no) (rows_kept (part_from a h))
rows_are a h written whole = grind (arith, ints, nat_tests, map, kept_from, kept-numbered)

-- All of them.

-- the matters behind a number
abbrev past : Lists → ℤ → List KeptMatter
past a after = map (matter_from a) (filter (is_past after) a.heads)

-- the rows of the matters up to a number were handed over, and counted
pub record IsReached {K : Type 0} (step : K → ℕ × Row → K) (a : Lists) (after : ℤ) (count : ℕ) (old now : K)
    : Type 0 where
  pub handed : HandedOver step old (joined (matters_from a)) (joined (past a after)) now
  pub counted : count + length (joined (past a after)) ≡ length (joined (matters_from a))

module _ {K : Type 0} (step : K → ℕ × Row → K) (a : Lists) (sound : AreSound a) where
  abbrev all : List (ℕ × Row)
  all = joined (matters_from a)

  pub at_start : (from : ℤ) → from <ℤ pos 0 → (old : K) → IsReached step a from 0 old old
  at_start from low old = grind (arith, ints, nat_tests, joined, past, all, map, matter_from, all_past, begun, length)

  module _ (after : ℤ) (count : ℕ) (old now : K) (so_far : IsReached step a after count old now) where
    -- the sink is at some front of the rows
    pub stopped : FoldsFront step old all now
    stopped = (joined (past a after), so_far.handed)

    -- the rows of the next matter are the first of those that are left
    module _ (n : ℕ × Head) (it : Next (is_past after) a.heads n) where
      abbrev rows : List (ℕ × Row)
      rows = rows_at a n

      abbrev rest : List (ℕ × Row)
      rest = joined (past a it.head.no)

      written : IsWrittenHead it.head
      written = all-find IsWrittenHead (is_past after) a.heads it.head sound.meant.written.heads it.found

      own_rows : rows_at a (numbered_from it.head) ≡ pairs (nat_abs it.head.no) (rows_kept (part_from a it.head))
      own_rows = grind (arith, ints, nat_tests, all_unmap, matter_from, rows_are, written, all-find, is_past)

      from : joined (past a after) ≡ rows ++ rest
      from = grind (arith, ints, nat_tests, joined, map, next_past, rest, own_rows, rows_at, rows, append_assoc)

      left : HandedOver step old all (rows ++ rest) now
      left = subst (λ xs. HandedOver step old all xs now) from so_far.handed

      module _ (v : K) where
        pub matter_stopped : FoldsFront step now rows v → FoldsFront step old all v
        matter_stopped part = (part.0 ++ rest, some_more step old now v all rows part.0 rest left part.1)

        pub reached : v ≡ fold step now rows → (i total : ℕ) → i ≡ length rows → total ≡ count + i
            → (z : ℤ) → z ≡ pos n.0 → IsReached step a z total old v
        reached folded i total is sums z number =
            let own : it.head.no ≡ z =
            written.0 ∙ ap (λ (k : ℕ × Head). pos k.0) (sym it.is) ∙ sym number in
            subst (λ k. IsReached step a k total old v) own (record {
              handed = all_more step old now v all rows rest left folded;
              counted = omega (arith, is, sums, so_far.counted, ap length from, length-append rows rest);
            })

    -- the end
    pub at_end : {E : Type 0} → find (is_past after) a.heads ≡ None → count ≤ MOST_ROWS
        → AreHanded {T = Unit {0}} {E = E} step IsRowInRange all (Ok tt) old now
    at_end none few =
        let rest : joined (past a after) ≡ [] =
        ap (λ hs. joined (map (matter_from a) hs)) (none_past (is_past after) a.heads none) in
        let handed : HandedOver step old all [] now = subst (λ xs. HandedOver step old all xs now) rest so_far.handed in
        record {
          all = ended step old now all handed;
          some = ([], handed);
          countable = record {
            few = omega (arith, few, so_far.counted, ap length rest);
            ranged = joined-ranged (matters_from a) sound.meant.matters.whole;
          };
        }

  -- at an error some front is enough
  pub refused : {E : Type 0} (r : Result (Unit {0}) E) → IsErr r → (old now : K) → FoldsFront step old all now
      → AreHanded step IsRowInRange all r old now
  refused r is old now part = grind (arith, ints, nat_tests, of_err, all)
