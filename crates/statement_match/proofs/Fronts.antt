-- No line that is written before a filled one has its reference.
use Rattle.statement_match.proofs.Names.{◌≡◌, ◌≢◌, ◌∙◌, sym, ap, subst, ℕ, zero, suc, ◌<◌, List, [], ◌∷◌, ◌++◌, length, get_or, append_assoc, refl, inl, inr, ◌⊎◌, arith, Contains, Contains-append_cases, Contains-append_right, Line, Held, LineOutcome, becomes, AreNamedApart, with_reference, written, written_as, written_of, ints, nat_tests, cases_eq}
use Rattle.statement_lines.specs.declared.line_outcome.LineOutcome.TheVariants as outcome
use Rattle.statement_match.proofs.Writing.{none_is_named_twice}

-- Of a line nothing is written, or one line.

one_or_none : (line : Line) (o : LineOutcome) → (written_as line o ≡ []) ⊎ ((z : Line) × (written_as line o ≡ z ∷ []))
one_or_none line o = grind (arith, ints, nat_tests, with_reference)

no_front : (front rest : List Line) (x : Line) → [] ≡ front ++ x ∷ rest → ⊥
no_front [] rest x e = cc
no_front (f ∷ front) rest x e = cc

-- Where lines that are written stem from.

module _ (today : ℕ) (held : Held) (all : List Line) (d x y : Line) where
  abbrev of_line : Line → List Line
  of_line line = written_as line (becomes today held all line)

  pub stems : (xs : List Line) (z : Line) → Contains (written_of today held all xs) z
      → (k : ℕ) × (k < length xs) × Contains (of_line (get_or xs k d)) z
  stems [] z (k, lt, is) = absurd (omega arith)
  stems (l ∷ ls) z there =
      elim (Contains-append_cases (of_line l) (written_of today held all ls) z there) [
        | inl h ↦ (0, omega arith, h)
        | inr h ↦ let more = stems ls z h in let lt = more.1 in (suc more.0, omega (arith, lt), more.2)
      ]

  -- the one stems from a line, and the other from another
  pub record StemApart (xs : List Line) : Type 0 where
    pub first : ℕ
    pub second : ℕ
    pub first_in : first < length xs
    pub second_in : second < length xs
    pub apart : first ≢ second
    pub first_of : Contains (of_line (get_or xs first d)) x
    pub second_of : Contains (of_line (get_or xs second d)) y

  one_further : (l : Line) (ls : List Line) → StemApart ls → StemApart (l ∷ ls)
  one_further l ls more =
      let first_in = more.first_in in
      let second_in = more.second_in in
      record {
        first = suc more.first;
        second = suc more.second;
        first_in = omega (arith, first_in);
        second_in = omega (arith, second_in);
        apart = λ same. more.apart (omega (arith, same));
        first_of = more.first_of;
        second_of = more.second_of;
      }

  in_front : (l : Line) (ls : List Line) → Contains (of_line l) y → Contains (written_of today held all ls) x
      → StemApart (l ∷ ls)
  in_front l ls here there =
      let far = stems ls x there in
      let lt = far.1 in
      record {
        first = suc far.0;
        second = 0;
        first_in = omega (arith, lt);
        second_in = omega arith;
        apart = λ same. omega (arith, same);
        first_of = far.2;
        second_of = here;
      }

  behind : (fs rest ls : List Line) → written_of today held all ls ≡ fs ++ x ∷ rest
      → Contains (written_of today held all ls) x
  behind fs rest ls e =
      let there : Contains (fs ++ x ∷ rest) x = Contains-append_right fs (x ∷ rest) x (0, omega arith, refl) in
      subst (λ (ws : List Line). Contains ws x) (sym e) there

  -- what is written begins with a line, which stems from the first one
  first_or_later : (l : Line) (ls : List Line) (z : Line) (front rest : List Line) → of_line l ≡ z ∷ []
      → ((fs : List Line) → written_of today held all ls ≡ fs ++ x ∷ rest → Contains fs y → StemApart ls)
      → z ∷ written_of today held all ls ≡ front ++ x ∷ rest → Contains front y → StemApart (l ∷ ls)
  first_or_later l ls z [] rest one later whole (k, lt, is) = absurd (omega arith)
  first_or_later l ls z (f ∷ fs) rest one later whole (zero, lt, is) =
      let first : z ≡ f = cc in
      grind (arith, ints, nat_tests, written_of, first, in_front, behind)
  first_or_later l ls z (f ∷ fs) rest one later whole (suc k, lt, is) =
      grind (arith, ints, nat_tests, written_of, one_further)

  pub stem_apart : (xs front rest : List Line) → written_of today held all xs ≡ front ++ x ∷ rest
      → Contains front y → StemApart xs
  stem_apart [] front rest e there = absurd (no_front front rest x e)
  stem_apart (l ∷ ls) front rest e there =
      elim (one_or_none l (becomes today held all l)) [
        | inl none ↦
            let shorter = ap (λ ws. ws ++ written_of today held all ls) (sym none) ∙ e in
            one_further l ls (stem_apart ls front rest shorter there)
        | inr one ↦
            let whole = ap (λ ws. ws ++ written_of today held all ls) (sym one.1) ∙ e in
            first_or_later l ls one.0 front rest one.1 (λ fs is more. stem_apart ls fs rest is more) whole there
      ]

-- what is written has a line that is filled, with its reference, at some place
module _ (today : ℕ) (held : Held) (all : List Line) (d : Line) (reference : List ℕ) where
  pub record HasFilled (xs : List Line) (line : Line) : Type 0 where
    pub front : List Line
    pub rest : List Line
    pub is : written_of today held all xs ≡ front ++ with_reference reference line ∷ rest

  place_filled : (xs : List Line) (j : ℕ) → j < length xs
      → becomes today held all (get_or xs j d) ≡ outcome.Filled reference → HasFilled xs (get_or xs j d)
  place_filled [] j lt filled = absurd (omega arith)
  place_filled (l ∷ ls) zero lt filled = record {
    front = [];
    rest = written_of today held all ls;
    is = ap (λ o. written_as l o ++ written_of today held all ls) filled;
  }
  place_filled (l ∷ ls) (suc j) lt filled =
      let more = place_filled ls j (omega arith) filled in
      let first = written_as l (becomes today held all l) in
      record {
        front = first ++ more.front;
        rest = more.rest;
        is = ap (λ ws. first ++ ws) more.is
            ∙ sym (append_assoc first more.front (with_reference reference (get_or ls j d) ∷ more.rest));
      }

pub has_filled : (today : ℕ) (held : Held) (lines : List Line) (line : Line) (reference : List ℕ)
    → Contains lines line → becomes today held lines line ≡ outcome.Filled reference
    → HasFilled today held lines line reference lines line
has_filled today held lines line reference x5 filled = grind (arith, ints, nat_tests, place_filled, becomes)

-- no line before a filled one has the reference with which that is filled
pub front_apart : (today : ℕ) (held : Held) (lines front rest : List Line) (line y : Line) (reference : List ℕ)
    → AreNamedApart held.waiting → Contains lines line → becomes today held lines line ≡ outcome.Filled reference
    → written today held lines ≡ front ++ with_reference reference line ∷ rest → Contains front y
    → y.reference ≢ reference
front_apart today held lines front rest line y reference apart (j, inside, at) filled split there is =
    let x = with_reference reference line in
    let filled_at : becomes today held lines (get_or lines j line) ≡ outcome.Filled reference =
    ap (becomes today held lines) at ∙ filled in
    let stem = stem_apart today held lines line x y lines front rest split there in
    elim (cases_eq j stem.second) [
      | inl same ↦
          none_is_named_twice today held lines j stem.first line x reference apart inside stem.first_in
          (λ again. stem.apart (sym again ∙ same)) filled_at stem.first_of refl
      | inr differ ↦
          none_is_named_twice today held lines j stem.second line y reference apart inside stem.second_in
          differ filled_at stem.second_of is
    ]
