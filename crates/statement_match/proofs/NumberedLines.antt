-- The lines with their numbers.
use Rattle.statement_match.proofs.Names.{◌≡◌, ◌∙◌, ap, ℕ, ◌+◌, ◌<◌, ◌≤◌, ◌==◌, Bool, true, false, cond, List, [], ◌∷◌, ◌++◌, length, get_or, drop, map, append_assoc, append-nil, refl, filter, at_drop_more, drop_all, map-append, Line, amount_key, waiting_key, elements, is_open_fit, Waiting, open_fit_narrows, filter_among, numbered, numbered_key, plain_pairs, fit_numbers, Bor, arith, ints, nat_tests}

pub numbered_more : (numbers : List ℕ) (lines : List Line) (i number : ℕ) (line : Bor Line) (found new : List (ℕ × Bor Line))
    → i < length lines → number ≡ get_or numbers i 0 → line.now ≡ get_or lines i line.now
    → new ≡ found ++ (number, line) ∷ []
    → plain_pairs found ++ numbered numbers i (drop i lines)
    ≡ plain_pairs new ++ numbered numbers (i + 1) (drop (i + 1) lines)
unfolding numbered
numbered_more numbers lines i number line found new lt number_is line_is added =
    ap (λ (ps : List (ℕ × Line)). plain_pairs found ++ ps) (at_drop_more (numbered numbers i) lines i line.now lt)
    ∙ rw (
      ← number_is,
      ← line_is,
      added,
      map-append {A = ℕ × Bor Line} {B = ℕ × Line} (λ pair. (pair.0, pair.1.now)) found ((number, line) ∷ []),
      append_assoc,
    ) refl

pub numbered_done : (numbers : List ℕ) (lines : List Line) (i : ℕ) (found : List (ℕ × Bor Line)) → length lines ≤ i
    → plain_pairs found ++ numbered numbers i (drop i lines) ≡ plain_pairs found
unfolding numbered
numbered_done numbers lines i found past = grind (arith, ints, nat_tests, plain_pairs, numbered, drop_all, append-nil)

-- The numbers of those that fit an entry.

fit_pairs : (today : ℕ) (w : Waiting) (numbers : List ℕ) (place : ℕ) (lines : List Line)
    → map {A = ℕ × Line} (λ x. x.0) (filter (λ x. is_open_fit today w x.1) (numbered numbers place lines))
    ≡ fit_numbers today w numbers place lines
unfolding numbered fit_numbers
fit_pairs today w numbers place [] = refl
fit_pairs today w numbers place (line ∷ lines) =
    grind (arith, ints, nat_tests, filter, numbered, map, (fit_pairs today w numbers (place + 1) lines))

told_pairs : (p : Line → Bool) (found : List (ℕ × Bor (ℕ × Bor Line)))
    → map (λ e. e.1.now.0) (filter (λ e. p e.1.now.1.now) found)
    ≡ map {A = ℕ × Line} (λ x. x.0) (filter (λ x. p x.1) (plain_pairs (elements found)))
told_pairs p [] = refl
told_pairs p (e ∷ found) = cases (p e.1.now.1.now) (told_pairs p found)
  where
    kept : List (ℕ × Bor (ℕ × Bor Line))
    kept = filter (λ d. p d.1.now.1.now) found

    picked : List (ℕ × Line)
    picked = filter (λ x. p x.1) (plain_pairs (elements found))

    cases : (b : Bool) → map (λ d. d.1.now.0) kept ≡ map (λ x. x.0) picked
        → map (λ d. d.1.now.0) (cond b (e ∷ kept) kept)
        ≡ map {A = ℕ × Line} (λ x. x.0) (cond b ((e.1.now.0, e.1.now.1.now) ∷ picked) picked)
    cases true more = ap (λ ns. e.1.now.0 ∷ ns) more
    cases false more = more

pub fit_found : (today : ℕ) (w : Waiting) (numbers : List ℕ) (lines : List Line)
    (found : List (ℕ × Bor (ℕ × Bor Line)))
    → plain_pairs (elements found) ≡ filter (λ pair. amount_key pair.1 == waiting_key w) (numbered numbers 0 lines)
    → map (λ e. e.1.now.0) (filter (λ e. is_open_fit today w e.1.now.1.now) found)
    ≡ fit_numbers today w numbers 0 lines
fit_found today w numbers lines found same =
    told_pairs (is_open_fit today w) found
    ∙ ap (λ (ps : List (ℕ × Line)). map (λ x. x.0) (filter (λ x. is_open_fit today w x.1) ps)) same
    ∙ ap (map {A = ℕ × Line} (λ x. x.0))
    (filter_among {T = ℕ × Line} (λ x. is_open_fit today w x.1) (λ pair. amount_key pair.1 == waiting_key w)
    (λ x is. open_fit_narrows today w x.1 is) (numbered numbers 0 lines))
    ∙ fit_pairs today w numbers 0 lines

-- those of an amount, with their numbers
pub pairs_found : (key : ℕ) (pairs : List (ℕ × Bor Line))
    → plain_pairs (filter (λ pair. numbered_key pair == key) pairs)
    ≡ filter {X = ℕ × Line} (λ pair. amount_key pair.1 == key) (plain_pairs pairs)
pairs_found key [] = refl
pairs_found key (pair ∷ pairs) = cases (numbered_key pair == key) (pairs_found key pairs)
  where
    kept : List (ℕ × Bor Line)
    kept = filter (λ x. numbered_key x == key) pairs

    picked : List (ℕ × Line)
    picked = filter (λ x. amount_key x.1 == key) (plain_pairs pairs)

    cases : (b : Bool) → plain_pairs kept ≡ picked
        → plain_pairs (cond b (pair ∷ kept) kept) ≡ cond b ((pair.0, pair.1.now) ∷ picked) picked
    cases true more = ap (λ (ps : List (ℕ × Line)). (pair.0, pair.1.now) ∷ ps) more
    cases false more = more
