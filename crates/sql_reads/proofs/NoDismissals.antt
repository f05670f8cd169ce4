-- Rows of the trail that are of no matter, read one by one.
use Rattle.sql_reads.proofs.Names.{◌≡◌, inl, inr, ℕ, pos, ◌+◌, ◌<◌, ◌≤◌, List, [], ◌∷◌, ◌++◌, map, length, get_or, take, refl, sym, ap, subst, ◌∙◌, arith, take_all, AllByRecursion, Row, Int, Null, act_values}
use Rattle.std.specs.Prelude.{◌≢◌}
use Rattle.std.proofs.lemmas.List.{length-take-le, take_more}
use Rattle.sql_tables.specs.Rows as table
use Rattle.sql_rows.specs.Dismissals.{dismissal_row}
use Rattle.sql_rows.specs.Meaning.{IsWrittenDismissal}
use Rattle.sql_reads.specs.Unread.{AreNoDismissals, IsLikeDismissal, StandsForNoDismissal}

-- One row.

pub like_one : (columns : table.Act) (r : Row)
    → ((day : ℕ) → pos day ≡ columns.day → columns ≡ dismissal_row day columns.text)
    → columns ≡ table.act_in (Int (pos 0) ∷ Null ∷ r) → IsLikeDismissal r
like_one columns r like given =
    subst (λ (c : table.Act). (day : ℕ) → pos day ≡ c.day → c ≡ dismissal_row day c.text) given like

pub like_none : (columns : table.Act) (r : Row)
    → ((day : ℕ) (text : List ℕ) → dismissal_row day text ≢ columns)
    → columns ≡ table.act_in (Int (pos 0) ∷ Null ∷ r) → StandsForNoDismissal r
like_none columns r never given x written shows =
    never _ _ (sym written ∙ ap (λ s. table.act_in (Int (pos 0) ∷ Null ∷ s)) (sym shows) ∙ sym given)

-- One row more.

passed_behind : (n : ℕ) (rows : List Row) (numbers : List ℕ) (r : Row) → AreNoDismissals n rows numbers
    → IsLikeDismissal r → AreNoDismissals n (rows ++ r ∷ []) numbers
passed_behind n [] numbers r h is = inl (is, h)
passed_behind n (x ∷ rows) numbers r h is = elim h [
  | inl k ↦ inl (k.0, passed_behind (n + 1) rows numbers r k.1 is)
  | inr k ↦ inr (k.0, k.1, k.2, passed_behind (n + 1) rows k.0 r k.3 is)
]

told_behind : (n : ℕ) (rows : List Row) (numbers : List ℕ) (r : Row) → AreNoDismissals n rows numbers → (m : ℕ)
    → m ≡ n + length rows → StandsForNoDismissal r → AreNoDismissals n (rows ++ r ∷ []) (numbers ++ m ∷ [])
told_behind n [] numbers r h m is none =
    let here : m ≡ n = omega (arith, is) in
    inr ([], ap (λ l. l ++ m ∷ []) h ∙ ap (λ k. k ∷ []) here, none, refl)
told_behind n (x ∷ rows) numbers r h m is none =
    let later : m ≡ n + 1 + length rows = omega (arith, is) in elim h [
      | inl k ↦ inl (k.0, told_behind (n + 1) rows numbers r k.1 m later none)
      | inr k ↦
          inr (
            k.0 ++ m ∷ [],
            ap (λ l. l ++ m ∷ []) k.1,
            k.2,
            told_behind (n + 1) rows k.0 r k.3 m later none,
          )
    ]

-- the rows so far were read
abbrev pub ToldTo : List Row → ℕ → List ℕ → Type 0
ToldTo rows i numbers = AreNoDismissals 1 (take i rows) numbers

module _ (rows : List Row) (i : ℕ) (r : Row) (within : i < length rows) (at : r ≡ get_or rows i r) (numbers : List ℕ)
    (so_far : ToldTo rows i numbers) where
  more : take (i + 1) rows ≡ take i rows ++ r ∷ []
  more = take_more rows i r within ∙ ap (λ x. take i rows ++ x ∷ []) (sym at)

  pub next_passed : IsLikeDismissal r → ToldTo rows (i + 1) numbers
  next_passed is =
      subst (λ l. AreNoDismissals 1 l numbers) (sym more) (passed_behind 1 (take i rows) numbers r so_far is)

  pub next_told : (with : List ℕ) → StandsForNoDismissal r → with ≡ numbers ++ (i + 1) ∷ [] → ToldTo rows (i + 1) with
  next_told with none is =
      let count : length (take i rows) ≡ i = length-take-le i rows (omega (arith, within)) in
      subst (λ l. AreNoDismissals 1 l with) (sym more)
      (subst (λ l. AreNoDismissals 1 (take i rows ++ r ∷ []) l) (sym is)
      (told_behind 1 (take i rows) numbers r so_far (i + 1) (omega (arith, count)) none))

pub all_told : (rows : List Row) (i : ℕ) (numbers : List ℕ) → length rows ≤ i → ToldTo rows i numbers
    → AreNoDismissals 1 rows numbers
all_told rows i numbers past so_far = subst (λ l. AreNoDismissals 1 l numbers) (take_all i rows past) so_far

-- Rows that all stand for dismissals: then none is told.

all_dismissals : (n : ℕ) (xs : List table.Act) (numbers : List ℕ) → AllByRecursion IsWrittenDismissal xs
    → AreNoDismissals n (map act_values xs) numbers → numbers ≡ []
all_dismissals n [] numbers all h = h
all_dismissals n (x ∷ xs) numbers all h = elim h [
  | inl k ↦ all_dismissals (n + 1) xs numbers all.1 k.1
  | inr k ↦ absurd (k.2 x all.0 refl)
]

pub none_told : (rows : List Row) (xs : List table.Act) → rows ≡ map act_values xs
    → AllByRecursion IsWrittenDismissal xs → (numbers : List ℕ) → AreNoDismissals 1 rows numbers → numbers ≡ []
none_told rows xs is_rows all numbers h =
    all_dismissals 1 xs numbers all (subst (λ l. AreNoDismissals 1 l numbers) is_rows h)
