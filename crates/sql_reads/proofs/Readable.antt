-- Rows of the trail that are read one by one.
use Rattle.sql_reads.proofs.Names.{◌≡◌, inl, inr, zero, suc, ℕ, ◌+◌, ◌<◌, ◌≤◌, List, [], ◌∷◌, ◌++◌, map, fold, length, get_or, take, Result, Ok, IsErr, refl, sym, ap, subst, ◌∙◌, arith, append-nil, length-map, take_all, AllByRecursion, Row, MatterAct, AreHanded, MOST_ROWS, act_values, act_at}
use Rattle.std.proofs.Common.{drop}
use Rattle.std.proofs.lemmas.List.{length-take-le, map-append, take-append-drop, take-map, take_more}
use Rattle.firm_rows.specs.Countable.{IsActInRange}
use Rattle.trust_store.specs.declared.unread_act.UnreadAct.{UnreadAct}
use Rattle.sql_tables.specs.Rows as table
use Rattle.sql_rows.specs.Meaning.{IsWrittenAct, act_from}
use Rattle.sql_reads.specs.Unread.{AreRead, IsTold}
use Rattle.sql_reads.proofs.Fed.{of_err}

module _ {K : Type 0} (step : K → MatterAct → K) where
  -- One row more.

  read_behind : (n : ℕ) (rows : List Row) (unread : List UnreadAct) (old now next : K) (r : Row)
      → AreRead step n rows unread old now → next ≡ step now (act_at r)
      → AreRead step n (rows ++ r ∷ []) unread old next
  read_behind n [] unread old now next r h is = inl (h.0, is ∙ ap (λ k. step k (act_at r)) h.1)
  read_behind n (x ∷ rows) unread old now next r h is = elim h [
    | inl k ↦ inl (read_behind (n + 1) rows unread (step old (act_at x)) now next r k is)
    | inr k ↦ inr (k.0, k.1, k.2, k.3, read_behind (n + 1) rows k.1 old now next r k.4 is)
  ]

  told_behind : (n : ℕ) (rows : List Row) (unread : List UnreadAct) (old now : K) (r : Row) (told : UnreadAct)
      → AreRead step n rows unread old now → (m : ℕ) → m ≡ n + length rows → IsTold m r told
      → AreRead step n (rows ++ r ∷ []) (unread ++ told ∷ []) old now
  told_behind n [] unread old now r told h m is tells =
      let here : m ≡ n = omega (arith, is) in
      inr (told, [], ap (λ l. l ++ told ∷ []) h.0, subst (λ k. IsTold k r told) here tells, (refl, h.1))
  told_behind n (x ∷ rows) unread old now r told h m is tells =
      let later : m ≡ n + 1 + length rows = omega (arith, is) in elim h [
        | inl k ↦ inl (told_behind (n + 1) rows unread (step old (act_at x)) now r told k m later tells)
        | inr k ↦
            inr (
              k.0,
              k.1 ++ told ∷ [],
              ap (λ l. l ++ told ∷ []) k.2,
              k.3,
              told_behind (n + 1) rows k.1 old now r told k.4 m later tells,
            )
      ]

  -- the rows so far were read
  abbrev pub ReadTo : List Row → ℕ → List UnreadAct → K → K → Type 0
  ReadTo rows i unread old now = AreRead step 1 (take i rows) unread old now

  module _ (rows : List Row) (i : ℕ) (r : Row) (within : i < length rows) (at : r ≡ get_or rows i r)
      (unread : List UnreadAct) (old now : K) (so_far : ReadTo rows i unread old now) where
    more : take (i + 1) rows ≡ take i rows ++ r ∷ []
    more = take_more rows i r within ∙ ap (λ x. take i rows ++ x ∷ []) (sym at)

    pub next_read : (next : K) → next ≡ step now (act_at r) → ReadTo rows (i + 1) unread old next
    next_read next is =
        subst (λ l. AreRead step 1 l unread old next) (sym more)
        (read_behind 1 (take i rows) unread old now next r so_far is)

    pub next_told : (told : UnreadAct) (with : List UnreadAct) → IsTold (i + 1) r told → with ≡ unread ++ told ∷ []
        → ReadTo rows (i + 1) with old now
    next_told told with tells is =
        let count : length (take i rows) ≡ i = length-take-le i rows (omega (arith, within)) in
        subst (λ l. AreRead step 1 l with old now) (sym more)
        (subst (λ l. AreRead step 1 (take i rows ++ r ∷ []) l old now) (sym is)
        (told_behind 1 (take i rows) unread old now r told so_far (i + 1) (omega (arith, count)) tells))

  pub all_rows : (rows : List Row) (i : ℕ) (unread : List UnreadAct) (old now : K) → length rows ≤ i
      → ReadTo rows i unread old now → AreRead step 1 rows unread old now
  all_rows rows i unread old now past so_far =
      subst (λ l. AreRead step 1 l unread old now) (take_all i rows past) so_far

  -- Rows that all stand for acts.

  -- then none is told, and the sink took all acts
  all_acts : (n : ℕ) (xs : List table.Act) (unread : List UnreadAct) (old now : K) → AllByRecursion IsWrittenAct xs
      → AreRead step n (map act_values xs) unread old now
      → (unread ≡ []) × (now ≡ fold step old (map act_from xs))
  all_acts n [] unread old now all h = h
  all_acts n (x ∷ xs) unread old now all h = elim h [
    | inl k ↦ all_acts (n + 1) xs unread (step old (act_from x)) now all.1 k
    | inr k ↦ absurd (k.3.none x all.0 refl)
  ]

  all_ranged : (acts : List MatterAct) → AllByRecursion IsActInRange acts
  all_ranged [] = tt
  all_ranged (a ∷ acts) = (tt, all_ranged acts)

  first_written : (i : ℕ) (xs : List table.Act) → AllByRecursion IsWrittenAct xs
      → AllByRecursion IsWrittenAct (take i xs)
  first_written zero xs all = tt
  first_written (suc i) [] all = tt
  first_written (suc i) (x ∷ xs) all = (all.0, first_written i xs all.1)

  module _ (rows : List Row) (xs : List table.Act) (is_rows : rows ≡ map act_values xs)
      (all : AllByRecursion IsWrittenAct xs) (unread : List UnreadAct) (old now : K) where
    pub none_told : AreRead step 1 rows unread old now → unread ≡ []
    none_told h = (all_acts 1 xs unread old now all (subst (λ l. AreRead step 1 l unread old now) is_rows h)).0

    pub every_handed : {T E : Type 0} (done : T) → length rows ≤ MOST_ROWS → AreRead step 1 rows unread old now
        → AreHanded {T = T} {E = E} step IsActInRange (map act_from xs) (Ok done) old now
    every_handed done few h =
        let taken = (all_acts 1 xs unread old now all (subst (λ l. AreRead step 1 l unread old now) is_rows h)).1 in record {
          all = taken;
          some = ([], record { front = map act_from xs; parts = append-nil (map act_from xs); folded = taken });
          countable = record {
            few = omega (arith, few, ap length is_rows, length-map xs act_values, length-map xs act_from);
            ranged = all_ranged (map act_from xs);
          };
        }

    pub some_handed : {T E : Type 0} (i : ℕ) → ReadTo rows i unread old now → (last : K) → last ≡ now
        → (r : Result T E) → IsErr r → AreHanded step IsActInRange (map act_from xs) r old last
    some_handed i so_far last same r is =
        let first : take i rows ≡ map act_values (take i xs) = ap (take i) is_rows ∙ take-map act_values i xs in
        let taken = (all_acts 1 (take i xs) unread old now (first_written i xs all)
        (subst (λ l. AreRead step 1 l unread old now) first so_far)).1 in
        of_err (λ q. AreHanded step IsActInRange (map act_from xs) q old last)
        (λ e. record {
          all = tt;
          some = (
            map act_from (drop i xs),
            record {
              front = map act_from (take i xs);
              parts = sym (map-append act_from (take i xs) (drop i xs)) ∙ ap (map act_from) (take-append-drop i xs);
              folded = same ∙ taken;
            },
          );
          countable = tt;
        }) r is

  -- at an error before the first row
  pub none_handed : {T E : Type 0} (acts : List MatterAct) (old : K) (r : Result T E) → IsErr r
      → AreHanded step IsActInRange acts r old old
  none_handed acts old r is =
      of_err (λ q. AreHanded step IsActInRange acts q old old)
      (λ e. record {
        all = tt;
        some = (acts, record { front = []; parts = refl; folded = refl });
        countable = tt;
      }) r is
