-- The joined rows: what a filter by the matter keeps, and what is put there.
use Rattle.firm_rows.proofs.Names.{◌≡◌, ◌≢◌, ℕ, ◌+◌, ◌<◌, ◌≤◌, Bool, true, false, List, [], ◌∷◌, ◌++◌, Option, Some, None, map, refl, ap, ◌∙◌, arith, append-nil, ◌⊎◌, inl, inr, nat_lt, ◌==◌, cases_lt, nat_tests, filter-append, Rows, Entry, Row, pairs, head_pairs, seat_pairs, entry_pairs, put, rows_of, among, AllByRecursion}
use Rattle.std.specs.Prelude.{filter}
use Rattle.firm_rows.proofs.Ordered.{all-append, all-map, filter-all, filter-none}
use Rattle.trust_matter.specs.head.Head.{Head}
use Rattle.trust_matter.specs.seat.Seat.{Seat}

-- the pairs of one matter pass a test on the matter together
abbrev pub passing : (ℕ → Bool) → List (ℕ × Row) → List (ℕ × Row)
passing t xs = filter (λ p. t p.0) xs

-- the pairs of lesser numbers, and those of greater
abbrev pub before : ℕ → List (ℕ × Row) → List (ℕ × Row)
before m xs = passing (λ x. nat_lt x m) xs

abbrev pub behind : ℕ → List (ℕ × Row) → List (ℕ × Row)
behind m xs = passing (λ x. nat_lt m x) xs

-- each pair of a matter has its number
heads_own : (m : ℕ) (o : Option Head) → AllByRecursion (λ p. p.0 ≡ m) (head_pairs m o)
heads_own m o = grind (arith, nat_tests)

seats_own : (m : ℕ) (ss : List Seat) → AllByRecursion (λ p. p.0 ≡ m) (seat_pairs m ss)
seats_own m [] = tt
seats_own m (s ∷ ss) = (refl, seats_own m ss)

entries_own : (m n : ℕ) (es : List Entry) → AllByRecursion (λ p. p.0 ≡ m) (entry_pairs m n es)
entries_own m n [] = tt
entries_own m n (e ∷ es) = (refl, entries_own m (n + 1) es)

pairs_own : (m : ℕ) (rows : Rows) → AllByRecursion (λ p. p.0 ≡ m) (pairs m rows)
pairs_own m rows = all-append _ _ _ (heads_own m rows.head) (all-append _ _ _ (seats_own m rows.seats) (entries_own m 1 rows.entries))

pub passing-append : (t : ℕ → Bool) (xs ys : List (ℕ × Row)) → passing t (xs ++ ys) ≡ passing t xs ++ passing t ys
passing-append t xs ys = filter-append (λ p. t p.0) xs ys

pub pairs_pass : (t : ℕ → Bool) (m : ℕ) (rows : Rows) → t m ≡ true → passing t (pairs m rows) ≡ pairs m rows
pairs_pass t m rows h = filter-all _ _ (all-map _ _ _ (λ p is. ap t is ∙ h) (pairs_own m rows))

pub pairs_fail : (t : ℕ → Bool) (m : ℕ) (rows : Rows) → t m ≡ false → passing t (pairs m rows) ≡ []
pairs_fail t m rows h = filter-none _ _ (all-map _ _ _ (λ p is. ap t is ∙ h) (pairs_own m rows))

-- what passes one test and then another
pub passing_twice : (t s : ℕ → Bool) (xs : List (ℕ × Row)) → ((x : ℕ) → t x ≡ true → s x ≡ true) → passing t (passing s xs) ≡ passing t xs
passing_twice t s [] h = refl
passing_twice t s (x ∷ xs) h = grind (arith, passing_twice t s xs h, h x.0)

pub passing_never : (t s : ℕ → Bool) (xs : List (ℕ × Row)) → ((x : ℕ) → s x ≡ true → t x ≡ false) → passing t (passing s xs) ≡ []
passing_never t s [] h = refl
passing_never t s (x ∷ xs) h = grind (arith, passing_never t s xs h, h x.0)

-- two tests in either order
pub passing_swap : (t s : ℕ → Bool) (xs : List (ℕ × Row)) → passing t (passing s xs) ≡ passing s (passing t xs)
passing_swap t s [] = refl
passing_swap t s (x ∷ xs) = grind (arith, passing_swap t s xs)

-- a matter's own rows come back
entries_back : (m n : ℕ) (es : List Entry) → among (map (λ p. p.1) (entry_pairs m n es)) ≡ record { head = None; seats = []; entries = es }
entries_back m n [] = refl
entries_back m n (e ∷ es) = let again = entries_back m (n + 1) es in λ i. record { head = (again i).head; seats = (again i).seats; entries = e ∷ (again i).entries }

seats_back : (m : ℕ) (ss : List Seat) (es : List Entry) → among (map (λ p. p.1) (seat_pairs m ss ++ entry_pairs m 1 es)) ≡ record { head = None; seats = ss; entries = es }
seats_back m [] es = entries_back m 1 es
seats_back m (s ∷ ss) es = let again = seats_back m ss es in λ i. record { head = (again i).head; seats = s ∷ (again i).seats; entries = (again i).entries }

back : (m : ℕ) (o : Option Head) (ss : List Seat) (es : List Entry) → among (map (λ p. p.1) (head_pairs m o ++ (seat_pairs m ss ++ entry_pairs m 1 es))) ≡ record { head = o; seats = ss; entries = es }
back m None ss es = seats_back m ss es
back m (Some head) ss es = let again = seats_back m ss es in λ i. record { head = Some head; seats = (again i).seats; entries = (again i).entries }

pub among_own : (m : ℕ) (rows : Rows) → among (rows_of m (pairs m rows)) ≡ rows
among_own m rows = ap (λ ps. among (map (λ p. p.1) ps)) (pairs_pass (λ x. x == m) m rows (grind (arith, nat_tests))) ∙ back m rows.head rows.seats rows.entries

-- what is put there, and what a test says of it
pub passing-put : (t : ℕ → Bool) (m : ℕ) (rows : Rows) (xs : List (ℕ × Row))
    → passing t (put m rows xs) ≡ passing t (before m xs) ++ (passing t (pairs m rows) ++ passing t (behind m xs))
passing-put t m rows xs = grind (arith, nat_tests, passing-append)

-- the pairs that are put there are those of the matter
pub own-put : (m : ℕ) (rows : Rows) (xs : List (ℕ × Row)) → passing (λ x. x == m) (put m rows xs) ≡ pairs m rows
own-put m rows xs = grind (arith, nat_tests, passing-put, passing_never, nat_lt, pairs_pass, append-nil)

-- and are found there
pub rows_of-put_same : (m : ℕ) (rows : Rows) (xs : List (ℕ × Row)) → among (rows_of m (put m rows xs)) ≡ rows
rows_of-put_same m rows xs = grind (arith, nat_tests, (own-put m rows xs), (back m rows.head rows.seats rows.entries))

-- and nothing else is changed
pub rows_of-put_other : (n m : ℕ) (rows : Rows) (xs : List (ℕ × Row)) → n ≢ m → rows_of n (put m rows xs) ≡ rows_of n xs
rows_of-put_other n m rows xs apart = ap (λ ps. map (λ p. p.1) ps) (parts (cases_lt n m))
  where
    parts : (n < m) ⊎ (m ≤ n) → passing (λ x. x == n) (put m rows xs) ≡ passing (λ x. x == n) xs
    parts (inl lt) = passing-put (λ x. x == n) m rows xs ∙ ((λ i. passing_twice (λ x. x == n) (λ x. nat_lt x m) xs (λ x h. grind (arith, nat_tests)) i ++ (pairs_fail (λ x. x == n) m rows (grind (arith, nat_tests)) i ++ passing_never (λ x. x == n) (λ x. nat_lt m x) xs (λ x h. grind (arith, nat_tests)) i)) ∙ append-nil _)
    parts (inr le) = passing-put (λ x. x == n) m rows xs ∙ (λ i. passing_never (λ x. x == n) (λ x. nat_lt x m) xs (λ x h. grind (arith, nat_tests)) i ++ (pairs_fail (λ x. x == n) m rows (grind (arith, nat_tests)) i ++ passing_twice (λ x. x == n) (λ x. nat_lt m x) xs (λ x h. grind (arith, nat_tests)) i))
