-- The numbers of all heads, and the matters of these numbers, are those for which the tables stand, in order.
use Rattle.sql_reads.proofs.Names.{◌≡◌, ℕ, ℤ, pos, List, [], ◌∷◌, map, find, Some, option_map, refl, ap₂, AllByRecursion, IsKeyedBy, all_both, Lists, is_head, kept_from, matter_from, matters_from, part_from, sym, head_at, apart_below, int_eq-itself, numbered_at, AreNumbersOf, arith, ints, nat_tests, ap, nat_abs, ◌∙◌, ◌++◌, joined, pairs, rows_kept}
use Rattle.std.specs.Prelude.{◌<ℤ◌}
use Rattle.firm_rows.specs.Firm.{headed}
use Rattle.trust_store.proofs.Headed.{headed-append, headed-pairs}
use Rattle.trust_store.specs.Kept.{Ascends, IsBefore, IsKeptWhole}
use Rattle.sql_tables.specs.Rows as table
use Rattle.matter_parts.specs.Audit.{IsSoundWhole}
use Rattle.trust_store.specs.declared.plain.KeptMatter.{KeptMatter}

abbrev key : table.Head → ℤ
key h = h.no

-- each head is the one that is found by its number
own_heads : (hs : List table.Head) → IsKeyedBy key hs → AllByRecursion (λ (h : table.Head). find (is_head h.no) hs ≡ Some h) hs
own_heads [] up = tt
own_heads (x ∷ xs) up = grind (arith, ints, nat_tests, find, int_eq-itself, all_both, apart_below, (own_heads xs up.1))

-- one matter more
pub whole_more : (ks : List KeptMatter) (k : KeptMatter) → AllByRecursion IsKeptWhole ks → IsSoundWhole k.matter → AllByRecursion IsKeptWhole (ks ++ k ∷ [])
whole_more [] k all sound = (record { whole = sound.whole; sound = sound.sound }, tt)
whole_more (j ∷ ks) k all sound = (all.0, whole_more ks k all.1 sound)

-- the numbers of heads, as natural numbers
numbers_read : (hs : List table.Head) (ns : List ℕ) → AreNumbersOf hs ns → ns ≡ map (λ (h : table.Head). nat_abs h.no) hs
numbers_read [] [] are = refl
numbers_read [] (n ∷ ns) are = absurd (let e = are in cc)
numbers_read (h ∷ hs) [] are = absurd (let e = are in cc)
numbers_read (h ∷ hs) (n ∷ ns) are =
    let number : pos n ≡ h.no = (let e = are in cc) in
    let others : AreNumbersOf hs ns = (let e = are in cc) in
    ap₂ ◌∷◌ (ap nat_abs number) (numbers_read hs ns others)

module _ (a : Lists) where
  headed_matters : (hs : List table.Head) → headed (joined (map (matter_from a) hs)) ≡ map (λ (h : table.Head). nat_abs h.no) hs
  headed_matters [] = refl
  headed_matters (h ∷ hs) =
      headed-append (pairs (nat_abs h.no) (rows_kept (part_from a h))) (joined (map (matter_from a) hs))
      ∙ ap₂ ◌++◌ (headed-pairs (nat_abs h.no) (rows_kept (part_from a h))) (headed_matters hs)

  -- the numbers of all heads are those of the matters for which the tables stand
  pub opened_read : (ns : List ℕ) → AreNumbersOf a.heads ns → ns ≡ headed (joined (matters_from a))
  opened_read ns are = numbers_read a.heads ns are ∙ sym (headed_matters a.heads)

  one_matter : (h : table.Head) (n : ℕ) → pos n ≡ h.no → find (is_head h.no) a.heads ≡ Some h → numbered_at a n ≡ matter_from a h
  one_matter h n own found = grind (arith, ints, nat_tests, find, head_at, option_map, map, kept_from)

  each_matter : (hs : List table.Head) (ns : List ℕ) → AreNumbersOf hs ns → AllByRecursion (λ (h : table.Head). find (is_head h.no) a.heads ≡ Some h) hs
      → map (numbered_at a) ns ≡ map (matter_from a) hs
  each_matter [] [] are own = refl
  each_matter [] (n ∷ ns) are own = absurd (let e = are in cc)
  each_matter (h ∷ hs) [] are own = absurd (let e = are in cc)
  each_matter (h ∷ hs) (n ∷ ns) are own =
      let number : pos n ≡ h.no = (let e = are in cc) in
      let others : AreNumbersOf hs ns = (let e = are in cc) in
      ap₂ ◌∷◌ (one_matter h n number own.0) (each_matter hs ns others own.1)

  pub matters_read : IsKeyedBy key a.heads → (ns : List ℕ) → AreNumbersOf a.heads ns → map (numbered_at a) ns ≡ matters_from a
  matters_read up ns are = each_matter a.heads ns are (own_heads a.heads up)

  -- Their order.

  before-others : (h : table.Head) (n : ℕ) (hs : List table.Head) (ns : List ℕ) → pos n ≡ h.no → AllByRecursion (λ x. key h <ℤ key x) hs → AreNumbersOf hs ns → IsBefore n (map (numbered_at a) ns)
  before-others h n [] [] own up are = tt
  before-others h n [] (m ∷ ns) own up are = absurd (let e = are in cc)
  before-others h n (x ∷ hs) [] own up are = absurd (let e = are in cc)
  before-others h n (x ∷ hs) (m ∷ ns) own up are =
      let number : pos m ≡ x.no = (let e = are in cc) in
      let others : AreNumbersOf hs ns = (let e = are in cc) in
      (omega (arith, ints, own, number, up.0), before-others h n hs ns own up.1 others)

  -- matters by the numbers of heads, of which each is above those before it
  pub matters_ascend : (hs : List table.Head) (ns : List ℕ) → IsKeyedBy key hs → AreNumbersOf hs ns → Ascends (map (numbered_at a) ns)
  matters_ascend [] [] up are = tt
  matters_ascend [] (n ∷ ns) up are = absurd (let e = are in cc)
  matters_ascend (h ∷ hs) [] up are = absurd (let e = are in cc)
  matters_ascend (h ∷ hs) (n ∷ ns) up are =
      let number : pos n ≡ h.no = (let e = are in cc) in
      let others : AreNumbersOf hs ns = (let e = are in cc) in
      (before-others h n hs ns number up.0 others, matters_ascend hs ns up.1 others)
