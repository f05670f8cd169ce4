-- Routes whose texts begin with the same bytes are those of paths that begin so.
use Rattle.portal_requests.proofs.Names.{◌≡◌, ◌≤◌, ℕ, suc, zero, Bool, true, false, cond, List, [], ◌∷◌, ◌++◌, Option, Some, refl, sym, ap, subst, arith, length, ◌==◌, ◌-◌, ltb, unwrap_or, ⊤, IsText, RowsOf, catch_all_token, comes_before, param_token, first, has_slash, longest_suffix, or_else, own, param_step, same_text, seek, segment, step, with_suffix, ints}
use Rattle.std.proofs.lemmas.Bool.Decides.{nat_tests}
use Rattle.matchit.specs.Order.{placed}

some-same : {K : Type 0} (a b : K) → Some a ≡ Some b → a ≡ b
some-same a b e = ap (λ o. unwrap_or o a) e

either : {K : Type 0} (T : Type 0) (a b : Option K) (key : K) → (a ≡ Some key → T) → (b ≡ Some key → T) → or_else a b ≡ Some key → T
either x0 a b key left right e = grind (arith, ints, nat_tests)

-- the bytes begin so, and what is behind that is such a rest
abbrev pub Starts : (List ℕ → Type 0) → List ℕ → List ℕ → Type 0
Starts Rest [] t = Rest t
Starts Rest (c ∷ front) [] = ⊥
Starts Rest (c ∷ front) (b ∷ t) = (b ≡ c) × Starts Rest front t

-- any rest, and none
abbrev pub Any : List ℕ → Type 0
Any t = ⊤

abbrev pub Nothing : List ℕ → Type 0
Nothing t = t ≡ []

-- where anything may be behind it, the bytes are the front and what is behind it
pub starts-front : (front t : List ℕ) → Starts Any front t → (rest : List ℕ) × (t ≡ front ++ rest)
starts-front [] t is = (t, refl)
starts-front (c ∷ front) [] is = absurd is
starts-front (c ∷ front) (b ∷ t) is = let more = starts-front front t is.1 in (more.0, λ i. is.0 i ∷ more.1 i)

-- where nothing is behind it, the bytes are the front
pub starts-whole : (front t : List ℕ) → Starts Nothing front t → t ≡ front
starts-whole [] t is = is
starts-whole (c ∷ front) [] is = absurd is
starts-whole (c ∷ front) (b ∷ t) is = λ i. is.0 i ∷ starts-whole front t is.1 i

-- Of keys of a kind.
module _ {K : Type 0} (IsOf : K → Type 0) where
  -- each row with such a key has such a pattern
  abbrev pub AllRows : (List ℕ → Type 0) → RowsOf K → Type 0
  AllRows Is [] = ⊤
  AllRows Is ((t, key) ∷ rest) = (IsOf key → Is t) × AllRows Is rest

  rows-then : (Is Then : List ℕ → Type 0) → ((t : List ℕ) → Is t → Then t) → (rs : RowsOf K) → AllRows Is rs → AllRows Then rs
  rows-then Is Then so [] all = tt
  rows-then Is Then so ((t, key) ∷ rest) all = ((λ kind. so t (all.0 kind)), rows-then Is Then so rest all.1)

  rows-step : (Is : List ℕ → Type 0) (b : ℕ) (rs : RowsOf K) → AllRows Is rs → AllRows (λ t. Is (b ∷ t)) (step b rs)
  rows-step Is b [] all = tt
  rows-step Is b (([], key) ∷ rest) all = rows-step Is b rest all.1
  rows-step Is b ((x ∷ t, key) ∷ rest) all = grind (arith, ints, nat_tests, step, (rows-step Is b rest all.1))

  rows-suffix : (Is : List ℕ → Type 0) (suffix : List ℕ) (rs : RowsOf K) → AllRows Is rs → AllRows Is (with_suffix suffix rs)
  rows-suffix Is suffix [] all = tt
  rows-suffix Is suffix ((t, key) ∷ rest) all =
      grind (arith, ints, nat_tests, same_text, segment, with_suffix, (rows-suffix Is suffix rest all.1))

  rows-param : (Is : List ℕ → Type 0) (rs : RowsOf K) (path : List ℕ) → AllRows Is rs → AllRows Is (param_step rs path).1
  unfolding param_step
  rows-param Is rs path all = cases (ltb 0 (length suffix)) (has_slash path)
    where
      suffix : List ℕ
      suffix = longest_suffix (segment path) rs

      cases : (c d : Bool) → AllRows Is (cond {A = ℕ × RowsOf K} c (length (segment path) - length suffix, with_suffix suffix rs) (cond d (0, []) (length path, rs))).1
      cases true d = rows-suffix Is suffix rs all
      cases false true = tt
      cases false false = all

  own-is : (Is : List ℕ → Type 0) (rs : RowsOf K) (key : K) → AllRows Is rs → own rs ≡ Some key → IsOf key → Is []
  own-is Is [] key all e kind = absurd (cc)
  own-is Is (([], k) ∷ rest) key all e kind = all.0 (subst IsOf (sym (some-same k key e)) kind)
  own-is Is ((x ∷ t, k) ∷ rest) key all e kind = own-is Is rest key all.1 e kind

  -- no row has such a key
  abbrev NoRow : RowsOf K → Type 0
  NoRow rs = AllRows (λ t. ⊥) rs

  seek-none : (skip : ℕ) (rs : RowsOf K) (path : List ℕ) (key : K) → NoRow rs → seek skip rs path ≡ Some key → IsOf key → ⊥
  unfolding seek
  seek-none zero rs [] key none e kind = own-is (λ t. ⊥) rs key none e kind
  seek-none (suc skip) rs [] key none e kind = own-is (λ t. ⊥) rs key none e kind
  seek-none (suc skip) rs (b ∷ path) key none e kind = seek-none skip rs path key none e kind
  seek-none zero rs (b ∷ path) key none e kind =
      either ⊥ (seek 0 (step b rs) path) _ key (λ there. seek-none 0 (step b rs) path key (rows-step (λ t. ⊥) b rs none) there kind)
      (either ⊥ _ (own (step catch_all_token rs)) key
      (λ there. seek-none _ _ path key (rows-param (λ t. ⊥) (step param_token rs) (b ∷ path) (rows-step (λ t. ⊥) param_token rs none)) there kind)
      (λ there. own-is (λ t. ⊥) (step catch_all_token rs) key (rows-step (λ t. ⊥) catch_all_token rs none) there kind)) e

  -- rows lead to such a key only by such a path
  abbrev pub LeadsBy : (List ℕ → Type 0) → Type 0
  LeadsBy Is = (rs : RowsOf K) (path : List ℕ) (key : K) → AllRows Is rs → first rs path ≡ Some key → IsOf key → Is path

  pub by-any : LeadsBy Any
  by-any rs path key all e kind = tt

  -- a pattern of which nothing is left leads from nothing else
  pub by-nothing : LeadsBy Nothing
  unfolding seek
  by-nothing rs [] key all e kind = refl
  by-nothing rs (b ∷ path) key all e kind =
      let no = λ (token : ℕ). rows-then (λ t. Nothing (token ∷ t)) (λ t. ⊥) (λ t is. absurd (cc)) (step token rs) (rows-step Nothing token rs all) in
      absurd (either ⊥ (seek 0 (step b rs) path) _ key (λ there. seek-none 0 (step b rs) path key (no b) there kind)
      (either ⊥ _ (own (step catch_all_token rs)) key
      (λ there. seek-none _ _ path key (rows-param (λ t. ⊥) (step param_token rs) (b ∷ path) (no param_token)) there kind)
      (λ there. own-is (λ t. ⊥) (step catch_all_token rs) key (no catch_all_token) there kind)) e)

  -- behind a byte: it is the first of the front, since some row goes on with it
  byte-starts : (Rest : List ℕ → Type 0) (c b : ℕ) (front : List ℕ) (rs : RowsOf K) (path : List ℕ) (key : K) → AllRows (λ t. Starts Rest (c ∷ front) (b ∷ t)) rs → first rs path ≡ Some key → IsOf key → (AllRows (Starts Rest front) rs → Starts Rest front path)
      → Starts Rest (c ∷ front) (b ∷ path)
  byte-starts Rest c b front rs path key all there kind more = cases (b == c) refl
    where
      cases : (d : Bool) → (b == c) ≡ d → Starts Rest (c ∷ front) (b ∷ path)
      cases true is = (grind (arith, nat_tests), more (rows-then (λ t. Starts Rest (c ∷ front) (b ∷ t)) (Starts Rest front) (λ t both. both.1) rs all))
      cases false is = absurd (seek-none 0 rs path key (rows-then (λ t. Starts Rest (c ∷ front) (b ∷ t)) (λ t. ⊥) (λ t both. let same = both.0 in absurd (grind (arith, nat_tests))) rs all) there kind)

  -- a path that leads to such a key begins with the bytes with which all patterns of such keys begin, and goes on as
  -- they do
  pub first-starts : (Rest : List ℕ → Type 0) → LeadsBy Rest → (front : List ℕ) → IsText front → LeadsBy (Starts Rest front)
  unfolding seek
  first-starts Rest more [] plain rs path key all e kind = more rs path key all e kind
  first-starts Rest more (c ∷ front) plain rs [] key all e kind = own-is (Starts Rest (c ∷ front)) rs key all e kind
  first-starts Rest more (c ∷ front) plain rs (b ∷ path) key all e kind =
      let no = λ (token : ℕ) (wide : 256 ≤ token). rows-then (λ t. Starts Rest (c ∷ front) (token ∷ t)) (λ t. ⊥) (λ t is. let byte = plain.0 in let same = is.0 in absurd (omega arith)) (step token rs) (rows-step (Starts Rest (c ∷ front)) token rs all) in
      either (Starts Rest (c ∷ front) (b ∷ path)) (seek 0 (step b rs) path) _ key
      (λ there. byte-starts Rest c b front (step b rs) path key (rows-step (Starts Rest (c ∷ front)) b rs all) there kind (λ left. first-starts Rest more front plain.1 (step b rs) path key left there kind))
      (either (Starts Rest (c ∷ front) (b ∷ path)) _ (own (step catch_all_token rs)) key
      (λ there. absurd (seek-none _ _ path key (rows-param (λ t. ⊥) (step param_token rs) (b ∷ path) (no param_token (omega arith))) there kind))
      (λ there. absurd (own-is (λ t. ⊥) (step catch_all_token rs) key (no catch_all_token (omega arith)) there kind))) e

  pub placed-rows : (Is : List ℕ → Type 0) (t : List ℕ) (key : K) (rs : RowsOf K) → (IsOf key → Is t) → AllRows Is rs → AllRows Is (placed (t, key) rs)
  placed-rows Is t key [] is all = (is, tt)
  placed-rows Is t key ((u, k) ∷ rest) is all =
      grind (arith, ints, nat_tests, comes_before, placed, (placed-rows Is t key rest is all.1))
