-- What is kept under a number, of what is named.
use Rattle.matter_parts.proofs.Names.{filter, ◌≡◌, ℕ, ltb, Bool, true, false, cond, List, [], ◌∷◌, refl, ap, sym, ◌∙◌, subst, arith, Option, Some, None, eqb, is_some, nat_tests, Head, Seat, number_or_none, Rows, Kept, Figures, has_number, Part, IsPart, kept_in, kept_at, is_held, is_it, is_named, named_part, target_by}
use Rattle.matter_parts.specs.declared.named_entries.NamedEntries.{NamedEntries}
use Rattle.matter_parts.proofs.Keepers.{AreSmallLefts}

kept-filter : (test : ℕ → Bool) (ks : List Kept) (n : ℕ) → kept_in (filter (λ k. test k.number) ks) n ≡ cond (test n) (kept_in ks n) None
kept-filter test [] n = elim (test n) as (λ b. kept_in [] n ≡ cond b (kept_in [] n) None) [ true ↦ refl | false ↦ refl ]
kept-filter test (k ∷ ks) n = grind (arith, nat_tests, eqb, (kept-filter test ks n))

-- what is kept of what is named
pub kept-named : (m : Part) (a b : Option ℕ) (n : ℕ) → kept_at (named_part m a b) n ≡ cond (is_named m a b n) (kept_at m n) None
kept-named m a b n = kept-filter (is_named m a b) m.kept n

was-kept : (t : Bool) (o : Option Kept) (k : Kept) → cond t o None ≡ Some k → o ≡ Some k
was-kept t o k h = grind (arith, nat_tests)

pub named-was : (m : Part) (a b : Option ℕ) (n : ℕ) (k : Kept) → kept_at (named_part m a b) n ≡ Some k → kept_at m n ≡ Some k
named-was m a b n k h = was-kept (is_named m a b n) (kept_at m n) k (sym (kept-named m a b n) ∙ h)

pub part-named : (m r : Part) (a b : Option ℕ) (rows : Rows) → r ≡ named_part m a b → IsPart m rows → IsPart r rows
part-named m r a b rows is p =
    let P : Part → Type 0 = λ x. IsPart x rows in
    subst P (sym is) (record { head = p.head; seats = p.seats; figures = p.figures; kept = λ n k h. p.kept n k (named-was m a b n k h) })

pub held-named : (m r : Part) (a b : Option ℕ) (n : ℕ) → r ≡ named_part m a b → is_named m a b n ≡ true → is_held m n ≡ true → is_held r n ≡ true
held-named m r a b n is named held = grind (arith, nat_tests, kept-named, is_some, ltb)

pub only-named : (m r : Part) (a b : Option ℕ) (n : ℕ) → r ≡ named_part m a b → is_named m a b n ≡ false → kept_at r n ≡ None
only-named m r a b n is none = ap (λ x. kept_at x n) is ∙ kept-named m a b n ∙ rw none refl

pub small-named : (m : Part) (a b : Option ℕ) → AreSmallLefts m.kept → AreSmallLefts (named_part m a b).kept
small-named m a b small n k h = small n k (named-was m a b n k h)

filter-alike : (p q : ℕ → Bool) (ks : List Kept) → ((n : ℕ) → p n ≡ q n) → filter (λ k. p k.number) ks ≡ filter (λ k. q k.number) ks
filter-alike p q [] same = refl
filter-alike p q (k ∷ ks) same = rw (same k.number) (ap (λ l. cond (q k.number) (k ∷ l) l) (filter-alike p q ks same))

pub has-named : (m : Part) (a b : Option ℕ) (w : NamedEntries) → w.first ≡ a → w.second ≡ b → number_or_none w.under_first ≡ target_by m a → number_or_none w.under_second ≡ target_by m b → (n : ℕ) → has_number w n ≡ is_named m a b n
has-named m a b w first second under over n = grind (arith, nat_tests, is_it)

pub named-kept : (m : Part) (a b : Option ℕ) (w : NamedEntries) (l ks : List Kept) → ((n : ℕ) → has_number w n ≡ is_named m a b n) → l ≡ m.kept → ks ≡ filter (λ k. has_number w k.number) l → ks ≡ (named_part m a b).kept
named-kept m a b w l ks has own is = is ∙ ap (filter (λ k. has_number w k.number)) own ∙ filter-alike (has_number w) (is_named m a b) m.kept has

abbrev part-of : Option Head → List Seat → Figures → List Kept → Part
part-of h seats f ks = record { head = h; seats = seats; figures = f; kept = ks }

pub named-made : (m r : Part) (a b : Option ℕ) (h : Option Head) (seats : List Seat) (f : Figures) (ks : List Kept) → r ≡ record { head = h; seats = seats; figures = f; kept = ks } → h ≡ m.head → seats ≡ m.seats → f ≡ m.figures → ks ≡ (named_part m a b).kept → r ≡ named_part m a b
named-made m r a b h seats f ks made head sat figures kept = grind (arith, nat_tests)
