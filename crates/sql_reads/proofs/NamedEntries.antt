-- The entries of a matter that are read for two that are named: these, and then those that they draw on.
use Rattle.sql_reads.proofs.Names.{◌≡◌, zero, suc, ℕ, ◌+◌, ◌<◌, ◌≤◌, ◌==◌, ◌||◌, ltb, Bool, true, false, cond, List, [], ◌∷◌, ◌++◌, Option, Some, None, is_some, true≢false, refl, sym, ap, ap₂, subst, ◌∙◌, arith, cases_Bool, nat_tests, Seat, Rows, unopened, number_or_none, target_in, Figures, Kept, AreFigures, AreNumbered, IsPart, IsWhole, Part, entry_in, is_held, is_it, is_named, kept_in, named_part, target_by, of, IsPartFor, Lists, AreSound, firm_from, HeadWithTotals, drawn_by, part_at, with_totals_at, found_passes, ints}
use denote.Ref.{Bor}
use Rattle.std.specs.Option.{option_copied, option_or}
use Rattle.std.proofs.lemmas.List.Folds.{find-append}
use Rattle.matter_parts.specs.Parts.{kept_at}
use Rattle.matter_parts.proofs.Naming.{held-named, kept-named, only-named, part-named}
use Rattle.trust_store.proofs.PartsFor.{part-for, unopened-for}
use Rattle.sql_reads.proofs.Parts.{head_found, none_rows, parts_whole}

-- Exactly the entries with these numbers are kept, of all entries of a matter.
abbrev pub KeepsOnly : (ℕ → Bool) → List Kept → List Kept → Type 0
KeepsOnly has all kept = (n : ℕ) → kept_in kept n ≡ cond (has n) (kept_in all n) None

-- One that is wanted is kept too.
abbrev pub KeepsAlso : Option ℕ → List Kept → List Kept → List Kept → Type 0
KeepsAlso wanted all old new = (n : ℕ) → kept_in new n ≡ cond (is_it wanted n) (kept_in all n) (kept_in old n)

-- whether there is an entry behind a reference
pub held : {T : Type 0} (o : Option (Bor T)) (k : Option T) → option_copied o ≡ k → is_some o ≡ is_some k
held o k is = grind (arith, ints, nat_tests, is_some)

cond_none : (b : Bool) (o : Option Kept) → o ≡ None → cond b o None ≡ o
cond_none b o none = grind (arith, ints, nat_tests)

-- One entry more.

module _ (all old : List Kept) (wanted : Option ℕ) where
  -- none is wanted
  pub also_none : wanted ≡ None → KeepsAlso wanted all old old
  also_none is n = sym (ap (λ w. cond (is_it w n) (kept_in all n) (kept_in old n)) is)

  module _ (number : ℕ) (is : wanted ≡ Some number) where
    with_number : (new : List Kept) → ((n : ℕ) → (n == number) ≡ false → kept_in new n ≡ kept_in old n)
        → kept_in new number ≡ kept_in all number → KeepsAlso wanted all old new
    with_number new others own n = grind (arith, ints, nat_tests, cases_Bool, kept_in)

    -- an entry that is kept already
    pub also_held : (has : ℕ → Bool) → KeepsOnly has all old → is_some (kept_in old number) ≡ true
        → KeepsAlso wanted all old old
    also_held has so_far some = grind (arith, ints, nat_tests, with_number, kept_in, is_some)

    -- an entry that does not exist
    pub also_absent : (has : ℕ → Bool) → KeepsOnly has all old → kept_in all number ≡ None
        → KeepsAlso wanted all old old
    also_absent has so_far none = grind (arith, ints, nat_tests, with_number, cond_none, kept_in)

    -- an entry that was not kept, behind the others
    pub also_behind : (k : Kept) → is_some (kept_in old number) ≡ false → kept_in all number ≡ Some k
        → (new : List Kept) → new ≡ old ++ k ∷ [] → KeepsAlso wanted all old new
    also_behind k none there new pushed =
        subst (KeepsAlso wanted all old) (sym pushed) (with_number (old ++ k ∷ []) others own)
      where
        last : (n : ℕ) → kept_in (old ++ k ∷ []) n ≡ option_or (kept_in old n) (cond (k.number == n) (Some k) None)
        last n = find-append (λ (x : Kept). x.number == n) old (k ∷ [])

        here : (k.number == number) ≡ true
        here = found_passes (λ (x : Kept). x.number == number) all k there

        or_none : (o : Option Kept) → option_or o None ≡ o
        or_none None = refl
        or_none (Some x) = refl

        others : (n : ℕ) → (n == number) ≡ false → kept_in (old ++ k ∷ []) n ≡ kept_in old n
        others n other =
            let apart : (k.number == n) ≡ false = (let it = here in grind (arith, nat_tests, other, it)) in
            last n ∙ ap (λ b. option_or (kept_in old n) (cond b (Some k) None)) apart ∙ or_none (kept_in old n)

        not_some : (o : Option Kept) → is_some o ≡ false → o ≡ None
        not_some None off = refl
        not_some (Some x) off = absurd (true≢false off)

        own : kept_in (old ++ k ∷ []) number ≡ kept_in all number
        own =
            last number
            ∙ ap₂ (λ o b. option_or o (cond b (Some k) None)) (not_some (kept_in old number) none) here
            ∙ sym there

-- The four turns.

-- the number is the one of the turn
abbrev pub is_next : Part → Option ℕ → Option ℕ → ℕ → ℕ → Bool
is_next m a b zero n = is_it a n
is_next m a b (suc zero) n = is_it b n
is_next m a b (suc (suc zero)) n = n == target_by m a
is_next m a b (suc (suc (suc i))) n = n == target_by m b

-- it is the one of a turn before
abbrev pub is_read : Part → Option ℕ → Option ℕ → ℕ → ℕ → Bool
is_read m a b zero n = false
is_read m a b (suc i) n = is_read m a b i n || is_next m a b i n

-- what is wanted is the number of the turn
abbrev pub IsNext : Part → Option ℕ → Option ℕ → ℕ → Option ℕ → Type 0
IsNext m a b i wanted = (n : ℕ) → 1 ≤ n → is_it wanted n ≡ is_next m a b i n

itself : (n : ℕ) → (n == n) ≡ true
itself n = grind (arith, nat_tests)

any : (x y z : Bool) → y ≡ true → ((x || y) || z) ≡ true
any x y z is = grind (arith, ints, nat_tests)

is_target : (o : Option ℕ) (t n : ℕ) → number_or_none o ≡ t → 1 ≤ n → is_it o n ≡ (n == t)
is_target o t n is low = grind (arith, ints, nat_tests)

target_same : (m : Part) (has : ℕ → Bool) (kept : List Kept) (a : Option ℕ) → KeepsOnly has m.kept kept
    → ((k : ℕ) → is_it a k ≡ true → has k ≡ true) → drawn_by kept a ≡ target_by m a
target_same m has kept a keeps covers = grind (arith, ints, nat_tests, target_in, entry_in, kept_in, itself)

merged : (x w : Bool) (new old all : Option Kept) → new ≡ cond w all old → old ≡ cond x all None
    → new ≡ cond (x || w) all None
merged x w new old all is was = grind (arith, ints, nat_tests)

or_turned : (x y z w : Bool) → (((x || y) || z) || w) ≡ (x || (y || (z || w)))
or_turned x y z w = grind arith

no_zero : (n : ℕ) (ks : List Kept) → AreNumbered n ks → 1 ≤ n → kept_in ks 0 ≡ None
no_zero n [] numbered low = refl
no_zero n (k ∷ ks) numbered low =
    let own : k.number ≡ n = numbered.0 in
    grind (arith, ints, nat_tests, own, (no_zero (n + 1) ks numbered.1 (omega (arith, low))))

-- what is wanted at a turn, by the entries that are kept
pub record IsWanted (a b : Option ℕ) (kept : List Kept) (i : ℕ) (wanted : Option ℕ) : Type 0 where
  pub early : i < 4
  pub first : i ≡ 0 → wanted ≡ a
  pub second : i ≡ 1 → wanted ≡ b
  pub third : i ≡ 2 → number_or_none wanted ≡ drawn_by kept a
  pub fourth : i ≡ 3 → number_or_none wanted ≡ drawn_by kept b

module _ (m : Part) (a b : Option ℕ) where
  -- the entry that the first draws on
  third : (kept : List Kept) (wanted : Option ℕ) → KeepsOnly (is_read m a b 2) m.kept kept
      → number_or_none wanted ≡ drawn_by kept a → IsNext m a b 2 wanted
  third kept wanted keeps draws n low =
      grind (arith, ints, nat_tests, target_same, is_read, any, is_it, is_target, target_by)

  -- the one that the second draws on
  fourth : (kept : List Kept) (wanted : Option ℕ) → KeepsOnly (is_read m a b 3) m.kept kept
      → number_or_none wanted ≡ drawn_by kept b → IsNext m a b 3 wanted
  fourth kept wanted keeps draws n low =
      grind (arith, ints, nat_tests, target_same, is_read, any, is_it, target_by, is_target)

  is_wanted : (kept : List Kept) (i : ℕ) (wanted : Option ℕ) → KeepsOnly (is_read m a b i) m.kept kept
      → IsWanted a b kept i wanted → IsNext m a b i wanted
  is_wanted kept zero wanted keeps it n low = ap (λ o. is_it o n) (it.first refl)
  is_wanted kept (suc zero) wanted keeps it n low = ap (λ o. is_it o n) (it.second refl)
  is_wanted kept (suc (suc zero)) wanted keeps it n low = third kept wanted keeps (it.third refl) n low
  is_wanted kept (suc (suc (suc zero))) wanted keeps it n low = fourth kept wanted keeps (it.fourth refl) n low
  is_wanted kept (suc (suc (suc (suc i)))) wanted keeps it n low = absurd (let early = it.early in omega (arith, early))

  one_turn : (i : ℕ) (wanted : Option ℕ) (old new : List Kept) → AreNumbered 1 m.kept
      → KeepsOnly (is_read m a b i) m.kept old → IsNext m a b i wanted → KeepsAlso wanted m.kept old new
      → KeepsOnly (is_read m a b (suc i)) m.kept new
  one_turn i wanted old new numbered so_far next also zero =
      grind (arith, ints, nat_tests, no_zero, merged, is_read, is_it, kept_in, cond_none, is_next)
  one_turn i wanted old new numbered so_far next also (suc n) =
      let k = suc n in
      merged (is_read m a b i k) (is_it wanted k) (kept_in new k) (kept_in old k) (kept_in m.kept k) (also k) (so_far k)
      ∙ ap (λ t. cond (is_read m a b i k || t) (kept_in m.kept k) None) (next k (omega arith))

  -- after a turn
  pub after_turn : (i : ℕ) (wanted : Option ℕ) (old new : List Kept) → AreNumbered 1 m.kept
      → KeepsOnly (is_read m a b i) m.kept old → IsWanted a b old i wanted → KeepsAlso wanted m.kept old new
      → KeepsOnly (is_read m a b (i + 1)) m.kept new
  after_turn i wanted old new numbered so_far turn also =
      let next : suc i ≡ i + 1 = omega arith in
      subst (λ j. KeepsOnly (is_read m a b j) m.kept new) next
      (one_turn i wanted old new numbered so_far (is_wanted old i wanted so_far turn) also)

  -- after all turns the named ones are kept, and those that they draw on
  all_read : (kept : List Kept) → KeepsOnly (is_read m a b 4) m.kept kept
      → (n : ℕ) → kept_in kept n ≡ kept_at (named_part m a b) n
  all_read kept keeps n = grind (arith, ints, nat_tests, kept_at, or_turned, is_it, target_by, kept-named)

-- A part that keeps the named entries of a whole part, and no others.

-- all else is that of the whole part
record IsLike (m p : Part) : Type 0 where
  pub head : p.head ≡ m.head
  pub seats : p.seats ≡ m.seats
  pub figures : p.figures ≡ m.figures

module _ (m p : Part) (a b : Option ℕ) (like : IsLike m p)
    (same : (n : ℕ) → kept_at p n ≡ kept_at (named_part m a b) n) where
  is_part : (rows : Rows) → IsPart m rows → IsPart p rows
  is_part rows is =
      let named = part-named m (named_part m a b) a b rows refl is in
      record {
        head = like.head ∙ named.head;
        seats = like.seats ∙ named.seats;
        figures = subst (λ (f : Figures). AreFigures f rows.entries) (sym like.figures) named.figures;
        kept = λ n k here. named.kept n k (sym (same n) ∙ here);
      }

  holds : (n : ℕ) → is_named m a b n ≡ true → is_held m n ≡ true → is_held p n ≡ true
  holds n named held =
      ap₂ (λ (k : Option Kept) (f : Figures). is_some k || ltb f.entries n) (same n) like.figures
      ∙ held-named m (named_part m a b) a b n refl named held

  keeps_no_other : (n : ℕ) → is_named m a b n ≡ false → kept_at p n ≡ None
  keeps_no_other n other = same n ∙ only-named m (named_part m a b) a b n refl other

  part_for : (rows : Rows) → IsWhole m rows → IsPartFor rows a b p
  part_for rows whole = part-for m rows whole a b p is_part holds keeps_no_other

module _ (m : ℕ) (a : Lists) (sound : AreSound a) where
  -- the entries of the tables are numbered from 1
  pub numbered_at : AreNumbered 1 (part_at m a).kept
  numbered_at = (parts_whole m a sound).numbered

  -- what was read of a matter for two entries is its part for them
  pub read_for : (o : HeadWithTotals) → Some o ≡ with_totals_at m a
      → (seats : List Seat) → seats ≡ (part_at m a).seats
      → (entry other : Option ℕ) (kept : List Kept)
      → KeepsOnly (is_read (part_at m a) entry other 4) (part_at m a).kept kept
      → IsPartFor (of m (firm_from a)) entry other
      (record { head = Some o.head; seats = seats; figures = o.figures; kept = kept })
  read_for o found seats sits entry other kept keeps =
      let read = head_found m a o found in
      part_for (part_at m a) (record { head = Some o.head; seats = seats; figures = o.figures; kept = kept }) entry other
      (record { head = read.0; seats = sits; figures = read.1 }) (all_read (part_at m a) entry other kept keeps) (of m (firm_from a)) (parts_whole m a sound)

  -- without a head there is nothing to read
  pub none_for : None ≡ with_totals_at m a → (entry other : Option ℕ) (p : Part) → IsWhole p unopened
      → IsPartFor (of m (firm_from a)) entry other p
  none_for none entry other p whole =
      subst (λ (rows : Rows). IsPartFor rows entry other p) (none_rows m a sound none) (unopened-for entry other p whole)
