use Rattle.firm_figures.proofs.Names.{◌≡◌, ℕ, ◌+◌, ◌-◌, ◌<◌, Bool, true, false, List, length, get_or, sym, ◌∙◌, arith, rules, nat_lt, nat_tests, pair_read, Issued, has_same_instrument, is_double_in}
use Rattle.firm_figures.proofs.DoubleRows.{none-beside, one-below, one-above}
use Rattle.firm_figures.proofs.day_lists.is_double.Goals.{else-place-gt0-via-then-place-gt0+else-eq, else-place-gt0-via-else-place-gt0}
use Rattle.firm_figures.proofs.day_lists.is_double.Goals as goal

pub returns-then-eq : goal.returns-then-eq
returns-then-eq c =
    let xs = c.args.sorted.now in
    let i = c.args.place in
    let same : has_same_instrument c.index-sorted-place-then-place-gt0.result c.index-sorted-place.result ≡ c.eq.result = search rules in
    let near : (d : Issued) → has_same_instrument (get_or xs (i - 1) d) (get_or xs i d) ≡ true =
    pair_read xs (λ a b. has_same_instrument a b ≡ true) (i - 1) i _ _ (omega (arith, c.requires.within)) c.requires.within c.index-sorted-place-then-place-gt0.is c.index-sorted-place.is (same ∙ c.if-eq.true) in
    λ d. sym (one-below xs i d c.if-place-gt0.true c.requires.within (near d))

pub returns-then-place-sorted : goal.returns-then-place-sorted
returns-then-place-sorted c =
    let xs = c.args.sorted.now in
    let i = c.args.place in
    let h : i + 1 < length xs = c.if-place-sorted.true in
    let low : (d : Issued) → 0 < i → has_same_instrument (get_or xs (i - 1) d) (get_or xs i d) ≡ false =
    elim c.else-place-gt0.branch [
      | else-place-gt0-via-then-place-gt0+else-eq w ↦ λ d some.
          let apart : has_same_instrument w.index-sorted-place-then-place-gt0.result c.index-sorted-place.result ≡ w.eq.result = search rules in
          pair_read xs (λ a b. has_same_instrument a b ≡ false) (i - 1) i _ _ (omega (arith, c.requires.within)) c.requires.within w.index-sorted-place-then-place-gt0.is c.index-sorted-place.is (apart ∙ w.if-eq.false) d
      | else-place-gt0-via-else-place-gt0 w ↦ λ d some. absurd (omega (arith, some, w.if-place-gt0.false))
    ] in
    let read : has_same_instrument c.index-sorted-place.result c.index-sorted-place-then-place-sorted.result ≡ c.eq-then-place-sorted.result = search rules in
    let same : (d : Issued) → has_same_instrument (get_or xs i d) (get_or xs (i + 1) d) ≡ c.eq-then-place-sorted.result =
    pair_read xs (λ a b. has_same_instrument a b ≡ c.eq-then-place-sorted.result) i (i + 1) _ _ c.requires.within h c.index-sorted-place.is c.index-sorted-place-then-place-sorted.is read in
    λ d. cases xs i d c.eq-then-place-sorted.result (one-above xs i d h) (λ off. none-beside xs c.requires.order i d c.requires.within (low d) (λ l. off)) (same d)
  where
    cases : (xs : List Issued) (i : ℕ) (d : Issued) (b : Bool) → (has_same_instrument (get_or xs i d) (get_or xs (i + 1) d) ≡ true → is_double_in xs (get_or xs i d) ≡ true) → (has_same_instrument (get_or xs i d) (get_or xs (i + 1) d) ≡ false → is_double_in xs (get_or xs i d) ≡ false) → has_same_instrument (get_or xs i d) (get_or xs (i + 1) d) ≡ b → b ≡ is_double_in xs (get_or xs i d)
    cases xs i d true yes' no' is = sym (yes' is)
    cases xs i d false yes' no' is = sym (no' is)

pub returns-else-place-sorted : goal.returns-else-place-sorted
returns-else-place-sorted c =
    let xs = c.args.sorted.now in
    let i = c.args.place in
    let low : (d : Issued) → 0 < i → has_same_instrument (get_or xs (i - 1) d) (get_or xs i d) ≡ false =
    elim c.else-place-gt0.branch [
      | else-place-gt0-via-then-place-gt0+else-eq w ↦ λ d some.
          let apart : has_same_instrument w.index-sorted-place-then-place-gt0.result c.index-sorted-place.result ≡ w.eq.result = search rules in
          pair_read xs (λ a b. has_same_instrument a b ≡ false) (i - 1) i _ _ (omega (arith, c.requires.within)) c.requires.within w.index-sorted-place-then-place-gt0.is c.index-sorted-place.is (apart ∙ w.if-eq.false) d
      | else-place-gt0-via-else-place-gt0 w ↦ λ d some. absurd (omega (arith, some, w.if-place-gt0.false))
    ] in
    let last : nat_lt (i + 1) (length xs) ≡ false = grind (arith, nat_tests, c.if-place-sorted.false) in
    λ d. last ∙ sym (none-beside xs c.requires.order i d c.requires.within (low d) (λ l. absurd (omega (arith, l, c.if-place-sorted.false))))
