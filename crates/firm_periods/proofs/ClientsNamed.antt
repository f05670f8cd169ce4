-- Each line names the client of its matter: the rows of a matter stand behind its head.
use Rattle.firm_periods.proofs.Names.{◌≡◌, ℕ, zero, suc, ◌+◌, ◌<◌, ◌≤◌, Bool, true, List, [], ◌∷◌, ◌++◌, length, Option, Some, None, refl, sym, ap, ◌∙◌, subst, append_assoc, arith, nat_lt, flat_map, nat_tests, AllByRecursion, recursion_from_All, filter_passes, Head, Seat, Entry, Row, HeadRow, EntryRow, Firm, of, pairs, head_pairs, seat_pairs, entry_pairs, FirmSound, passing, flat_map-append}
use Rattle.matter_rows.specs.Sound.{IsHeaded}
use Rattle.firm_rows.proofs.Joined.{pairs_pass, passing_swap, passing_twice, passing-put}
use Rattle.firm_periods.specs.declared.moved.Moved.{Moved}
use Rattle.firm_periods.specs.declared.moved.NamedMove.{NamedMove}
use Rattle.firm_periods.specs.Named.{client_in_head, client_of, named, named_in, row_named, NamesAreOfTheirMatter}

-- What passes a test that later matters pass too.

abbrev Rises : (ℕ → Bool) → Type 0
Rises t = (x y : ℕ) → t x ≡ true → x < y → t y ≡ true

passes : (t : ℕ → Bool) (xs : List (ℕ × Row)) → AllByRecursion (λ q. t q.0 ≡ true) (passing t xs)
passes t xs = recursion_from_All _ _ (filter_passes (λ (q : ℕ × Row). t q.0) xs)

-- of lists that begin with a row of matter m, a part of lesser matters is empty
none-lesser : (m : ℕ) (r : Row) (xs ys zs : List (ℕ × Row)) → AllByRecursion (λ q. nat_lt q.0 m ≡ true) xs → xs ++ ys ≡ (m, r) ∷ zs → xs ≡ []
none-lesser m r [] ys zs all is = refl
none-lesser m r (x ∷ xs) ys zs all is = absurd (grind (arith, nat_tests))

-- nor is one of greater matters all of it
not-greater : (m : ℕ) (r : Row) (ys zs : List (ℕ × Row)) → AllByRecursion (λ q. nat_lt m q.0 ≡ true) ys → ys ≡ (m, r) ∷ zs → {A : Type 0} → A
not-greater m r [] zs all is = absurd (cc)
not-greater m r (y ∷ ys) zs all is = absurd (grind (arith, nat_tests))

lesser-than : (a b : ℕ) → nat_lt a b ≡ true → a < b
lesser-than a b is = grind (arith, nat_tests)

greater-rises : (m : ℕ) → Rises (nat_lt m)
greater-rises m x y is le = grind (arith, nat_tests)

sizes-add : (ys zs : List (ℕ × Row)) → length (ys ++ zs) ≡ length ys + length zs
sizes-add [] zs = grind (arith)
sizes-add (y ∷ ys) zs = omega (arith, sizes-add ys zs)

module _ (pick : Entry → List Moved) (firm : Firm) (sound : FirmSound firm) where
  abbrev lines : List (ℕ × Row) → List NamedMove
  lines xs = flat_map (row_named pick firm) xs

  abbrev greater : ℕ → List (ℕ × Row)
  greater m = passing (nat_lt m) firm.rows

  -- One matter.

  entries-named : (c : Option (List ℕ)) (m n : ℕ) (es : List Entry) (rest : List (ℕ × Row)) → c ≡ client_in_head (of m firm).head
      → named_in pick c (entry_pairs m n es ++ rest) ≡ lines (entry_pairs m n es) ++ named_in pick c rest
  entries-named c m n [] rest is = refl
  entries-named c m n (e ∷ es) rest is =
      (λ i. flat_map (named (is i) m n e) (pick e) ++ entries-named c m (n + 1) es rest is i)
      ∙ sym (append_assoc (row_named pick firm (m, EntryRow n e)) (lines (entry_pairs m (n + 1) es)) (named_in pick c rest))

  seats-named : (c : Option (List ℕ)) (m : ℕ) (ss : List Seat) (rest : List (ℕ × Row)) → named_in pick c (seat_pairs m ss ++ rest) ≡ named_in pick c rest
  seats-named c m [] rest = refl
  seats-named c m (s ∷ ss) rest = seats-named c m ss rest

  seats-none : (m : ℕ) (ss : List Seat) (rest : List (ℕ × Row)) → lines (seat_pairs m ss ++ rest) ≡ lines rest
  seats-none m [] rest = refl
  seats-none m (s ∷ ss) rest = seats-none m ss rest

  pairs-named : (c : Option (List ℕ)) (m : ℕ) (h : Head) (rest : List (ℕ × Row)) → (of m firm).head ≡ Some h
      → named_in pick c (pairs m (of m firm) ++ rest) ≡ lines (pairs m (of m firm)) ++ named_in pick (client_of h.holder) rest
  pairs-named c m h rest is =
      let rows = of m firm in
      let mine : client_of h.holder ≡ client_in_head rows.head = sym (ap client_in_head is) in
      ap (λ o. named_in pick c ((head_pairs m o ++ (seat_pairs m rows.seats ++ entry_pairs m 1 rows.entries)) ++ rest)) is
      ∙ (ap (named_in pick (client_of h.holder)) (append_assoc (seat_pairs m rows.seats) (entry_pairs m 1 rows.entries) rest)
      ∙ (seats-named (client_of h.holder) m rows.seats (entry_pairs m 1 rows.entries ++ rest)
      ∙ (entries-named (client_of h.holder) m 1 rows.entries rest mine
      ∙ ap (λ vs. vs ++ named_in pick (client_of h.holder) rest)
      (sym (ap (λ o. lines (head_pairs m o ++ (seat_pairs m rows.seats ++ entry_pairs m 1 rows.entries))) is ∙ seats-none m rows.seats (entry_pairs m 1 rows.entries))))))

  -- Where a matter begins, all its rows follow, and then those of greater ones.
  begun : (t : ℕ → Bool) → Rises t → (m : ℕ) (r : Row) (zs : List (ℕ × Row)) → t m ≡ true → passing t firm.rows ≡ (m, r) ∷ zs
      → passing t firm.rows ≡ pairs m (of m firm) ++ greater m
  begun t rises m r zs at is =
      let parted : passing t firm.rows ≡ passing t (passing (λ x. nat_lt x m) firm.rows) ++ (passing t (pairs m (of m firm)) ++ passing t (greater m)) =
      ap (passing t) (sym (sound.in_order.rows m)) ∙ passing-put t m (of m firm) firm.rows in
      let low : passing t (passing (λ x. nat_lt x m) firm.rows) ≡ passing (λ x. nat_lt x m) (passing t firm.rows) = passing_swap t (λ x. nat_lt x m) firm.rows in
      let none : passing t (passing (λ x. nat_lt x m) firm.rows) ≡ [] =
      none-lesser m r _ _ zs (subst (AllByRecursion (λ q. nat_lt q.0 m ≡ true)) (sym low) (passes (λ x. nat_lt x m) (passing t firm.rows))) (sym parted ∙ is) in
      let own : passing t (pairs m (of m firm)) ≡ pairs m (of m firm) = pairs_pass t m (of m firm) at in
      let high : passing t (greater m) ≡ greater m = passing_swap t (nat_lt m) firm.rows ∙ passing_twice (nat_lt m) t firm.rows (λ x is. rises m x at (lesser-than m x is)) in
      parted ∙ (λ i. none i ++ (own i ++ high i))

  -- it has a head
  headed : (m : ℕ) (r : Row) (zs : List (ℕ × Row)) → pairs m (of m firm) ++ greater m ≡ (m, r) ∷ zs
      → (o : Option Head) → (of m firm).head ≡ o → (h : Head) × ((of m firm).head ≡ Some h)
  headed m r zs is (Some h) head = (h, head)
  headed m r zs is None head =
      let bare : IsHeaded None (of m firm).seats (of m firm).entries = subst (λ o. IsHeaded o (of m firm).seats (of m firm).entries) head (sound.matters m).headed in
      let none : pairs m (of m firm) ≡ [] = (λ i. head_pairs m (head i) ++ (seat_pairs m (bare.0 i) ++ entry_pairs m 1 (bare.1 i))) in
      not-greater m r (greater m) zs (passes (nat_lt m) firm.rows) (ap (λ xs. xs ++ greater m) (sym none) ∙ is)

  shorter : (m : ℕ) (h : Head) (xs : List (ℕ × Row)) (n : ℕ) → (of m firm).head ≡ Some h → xs ≡ pairs m (of m firm) ++ greater m → length xs ≤ suc n → length (greater m) ≤ n
  shorter m h xs n head is le =
      let rows = of m firm in
      let with_head : pairs m rows ≡ (m, HeadRow h) ∷ (seat_pairs m rows.seats ++ entry_pairs m 1 rows.entries) = ap (λ o. head_pairs m o ++ (seat_pairs m rows.seats ++ entry_pairs m 1 rows.entries)) head in
      let sizes = ap length (is ∙ ap (λ ys. ys ++ greater m) with_head) in
      let parts = sizes-add (seat_pairs m rows.seats ++ entry_pairs m 1 rows.entries) (greater m) in
      omega (arith, le, sizes, parts)

  walk : (n : ℕ) (t : ℕ → Bool) → Rises t → (c : Option (List ℕ)) (xs : List (ℕ × Row)) → passing t firm.rows ≡ xs → length xs ≤ n → named_in pick c xs ≡ lines xs
  walk n t rises c [] is le = refl
  walk zero t rises c (q ∷ zs) is le = absurd (omega (arith, le))
  walk (suc n) t rises c ((m, r) ∷ zs) is le =
      let all = subst (AllByRecursion (λ q. t q.0 ≡ true)) is (passes t firm.rows) in
      let parts = begun t rises m r zs all.0 is in
      let whole : (m, r) ∷ zs ≡ pairs m (of m firm) ++ greater m = sym is ∙ parts in
      let head = headed m r zs (sym whole) (of m firm).head refl in
      let rest = walk n (nat_lt m) (greater-rises m) (client_of head.0.holder) (greater m) refl (shorter m head.0 ((m, r) ∷ zs) n head.1 whole le) in
      ap (named_in pick c) whole
      ∙ (pairs-named c m head.0 (greater m) head.1
      ∙ (ap (λ vs. lines (pairs m (of m firm)) ++ vs) rest
      ∙ (sym (flat_map-append (row_named pick firm) (pairs m (of m firm)) (greater m)) ∙ ap lines (sym whole))))

all-pass : (xs : List (ℕ × Row)) → passing (λ x. true) xs ≡ xs
all-pass [] = refl
all-pass (x ∷ xs) = ap (λ ys. x ∷ ys) (all-pass xs)

pub names-own : NamesAreOfTheirMatter
names-own pick firm sound =
    walk pick firm sound (length firm.rows) (λ x. true) (λ x y is le. refl) None firm.rows (all-pass firm.rows) (omega arith)
