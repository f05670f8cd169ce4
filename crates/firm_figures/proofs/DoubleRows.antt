-- Payments in order, and those of one instrument side by side.
use Rattle.firm_figures.proofs.Names.{◌≡◌, ℕ, ◌+◌, ◌-◌, ◌<◌, true, false, List, length, get_or, refl, sym, ap, ◌∙◌, arith, nat_lt, IsTotalOrder, IsStrictWeakOrder, filter, IsSortedBy, Less, Equal, is_lt, is_eq, nat_cmp, ordering_then, ordering_reverse, nat_tests, filter_agree, ranks_by, Issued, issued_cmp, is_before_issued, has_same_instrument, is_double_in, in_order, doubles_in}
use Rattle.std.specs.Cmp.Lexicographic.{slice_cmp}
use Rattle.std.specs.declared.cmp.Ordering.{Ordering}
use Rattle.std.specs.Str.{bytes_eq}
use Rattle.std.proofs.lemmas.Cmp.{on_total, then_total, nat_cmp_total, lists_total, nat_list_eq_equiv, same_from_slice_cmp}
use Rattle.firm_figures.proofs.Sorted.{alone, has-below, has-above, count-ordered}

instrument_total : IsTotalOrder (slice_cmp nat_cmp)
instrument_total = lists_total nat_cmp_total

issued_total : IsTotalOrder issued_cmp
issued_total = then_total (on_total (λ (x : Issued). x.instrument) instrument_total) (then_total (on_total (λ (x : Issued). x.matter) nat_cmp_total) (on_total (λ (x : Issued). x.entry) nat_cmp_total))

pub issued_order : IsStrictWeakOrder is_before_issued
issued_order = ranks_by issued_total (λ (x : Issued). x)

texts_ties : (a b : List ℕ) → bytes_eq a b ≡ is_eq (slice_cmp nat_cmp a b)
texts_ties a b = sym (same_from_slice_cmp nat_cmp is_eq bytes_eq refl (λ _ _. refl) (λ _ _. refl) (λ x y xs ys o h. grind (arith, nat_tests)) a b (slice_cmp nat_cmp a b) refl)

first-part : (o r : Ordering) → is_lt (ordering_then o r) ≡ false → (o ≡ Less → ⊥)
first-part o r is = grind (arith, nat_tests)

equal-from : (o : Ordering) → is_eq o ≡ true → o ≡ Equal
equal-from o is = grind (arith, nat_tests)

-- what is neither behind nor before the same is there
middle : (xy yx zy : Ordering) → xy ≡ ordering_reverse yx → (yx ≡ Less → ⊥) → (zy ≡ Less → ⊥) → xy ≡ zy → is_eq xy ≡ true
middle xy yx zy back low high same = grind (arith, nat_tests)

pub between : (x y z : Issued) → is_before_issued y x ≡ false → is_before_issued z y ≡ false → has_same_instrument x z ≡ true → (has_same_instrument x y ≡ true) × (has_same_instrument y z ≡ true)
between x y z low high ends =
    let xz : slice_cmp nat_cmp x.instrument z.instrument ≡ Equal = equal-from _ (sym (texts_ties x.instrument z.instrument) ∙ ends) in
    let xy : has_same_instrument x y ≡ true =
    texts_ties x.instrument y.instrument
    ∙ middle _ _ (slice_cmp nat_cmp z.instrument y.instrument) (instrument_total.antisymm x.instrument y.instrument) (first-part _ _ low) (first-part _ _ high) (instrument_total.congr x.instrument z.instrument y.instrument xz) in
    (xy, sym (nat_list_eq_equiv.congr x.instrument y.instrument z.instrument xy) ∙ ends)

pub alike : (x : Issued) → has_same_instrument x x ≡ true
alike x = nat_list_eq_equiv.refl x.instrument

pub back : (x y : Issued) → has_same_instrument x y ≡ has_same_instrument y x
back x y = nat_list_eq_equiv.symm x.instrument y.instrument

-- where no neighbour has the same instrument no other has
pub none-beside : (xs : List Issued) → IsSortedBy is_before_issued xs → (i : ℕ) (d : Issued) → i < length xs → (0 < i → has_same_instrument (get_or xs (i - 1) d) (get_or xs i d) ≡ false) → (i + 1 < length xs → has_same_instrument (get_or xs i d) (get_or xs (i + 1) d) ≡ false) → is_double_in xs (get_or xs i d) ≡ false
none-beside xs up i d h low high =
    let one = alone is_before_issued issued_order has_same_instrument alike between back xs up i d h low high in
    grind (arith, nat_tests, one)

pub one-below : (xs : List Issued) (i : ℕ) (d : Issued) → 0 < i → i < length xs → has_same_instrument (get_or xs (i - 1) d) (get_or xs i d) ≡ true → is_double_in xs (get_or xs i d) ≡ true
one-below xs i d some h near =
    let two = has-below is_before_issued issued_order has_same_instrument alike between back xs i d some h near in
    grind (arith, nat_tests, two)

pub one-above : (xs : List Issued) (i : ℕ) (d : Issued) → i + 1 < length xs → has_same_instrument (get_or xs i d) (get_or xs (i + 1) d) ≡ true → is_double_in xs (get_or xs i d) ≡ true
one-above xs i d h near =
    let two = has-above is_before_issued issued_order has_same_instrument alike between back xs i d h near in
    grind (arith, nat_tests, two)

-- a list and the same in order have the same doubles
double-ordered : (all : List Issued) (x : Issued) → is_double_in (in_order is_before_issued all) x ≡ is_double_in all x
double-ordered all x = ap (λ n. nat_lt 1 n) (count-ordered (has_same_instrument x) is_before_issued all)

pub doubles-of : (all ys : List Issued) → ys ≡ in_order is_before_issued all → filter (is_double_in ys) ys ≡ doubles_in all
doubles-of all ys is = grind (arith, nat_tests, filter_agree, double-ordered)
