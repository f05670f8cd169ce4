-- Rows of a query that a sink took, as what they stand for.
use Rattle.sql_reads.proofs.Names.{◌≡◌, inl, inr, ℕ, List, [], ◌∷◌, ◌∙◌, ap, map, map-append, fold, append-nil, Result, Ok, Err, sym, subst, AllByRecursion, length-map, Row, Query, IsAnswer, overlay, Schema, State, AreCountable, AreHanded, HandedOver, begun, LeavesAll, IsQuery, answers, leaves_on, IsFed, arith, ints, nat_tests}
use Rattle.std.specs.Result.{result_and}
use Rattle.sql_reads.specs.Fed.{AreAnswered}
use Rattle.sql_reads.proofs.Answer.{begins_known}
use Rattle.sql_reads.proofs.Fed.{fold_mapped}

module _ {A B : Type 0} (f : B → A) (IsInRange : A → Type 0) where
  all_mapped : (xs : List B) → AllByRecursion (λ x. IsInRange (f x)) xs → AllByRecursion IsInRange (map f xs)
  all_mapped [] all = tt
  all_mapped (x ∷ xs) all = (all.0, all_mapped xs all.1)

  countable_mapped : (xs : List B) → AreCountable (λ x. IsInRange (f x)) xs → AreCountable IsInRange (map f xs)
  countable_mapped xs h = grind (arith, ints, nat_tests, length-map, all_mapped)

-- a query whose answer is known, by what its rows show
module _ {schema : Schema} {sql : List ℕ} {q : Query} {names : List (List ℕ)} (it : IsQuery schema sql q names)
    (params : Row) (old new : State) (has : old.now.schema ≡ schema) (rows : List Row)
    (known : (found : List Row) → IsAnswer q (overlay old.now.trees []) params found → found ≡ rows)
    {A : Type 0} (f : Row → A) (values : List A) (shown : map f rows ≡ values) where
  pub answered : AreAnswered f sql params old new values
  answered = record {
    all = λ found is. ap (map f) (known found (answers it params old new has found is)) ∙ shown;
    some = λ found is.
        let rest = begins_known it params old new has rows known found is in
        (map f rest.0, sym (map-append f found rest.0) ∙ (ap (map f) rest.1 ∙ shown));
  }

module _ {sql : List ℕ} {params : Row} {old new : State} {K A : Type 0} (step : K → A → K) (f : Row → A)
    (IsInRange : A → Type 0) (values : List A) (are : AreAnswered f sql params old new values) where
  abbrev Fed : {E : Type 0} → Result ℕ E → K → K → Type 0
  Fed r a b = IsFed (λ s x. step s (f x)) (λ x. IsInRange (f x)) sql params old new r a b

  -- the values were handed over, all of them or up to an error
  pub handed : {E : Type 0} (r : Result ℕ E) (a b : K) → Fed r a b
      → AreHanded {T = Unit {0}} {E = E} step IsInRange values (result_and r (Ok tt)) a b
  handed {E} (Ok n) a b fed =
      let rows = fed.all.0 in
      let is = are.all rows fed.all.1 in
      let same = fed.all.2 ∙ (fold_mapped step f a rows ∙ ap (fold step a) is) in
      record {
        all = same;
        some = ([], record { front = values; parts = append-nil values; folded = same });
        countable = subst (AreCountable IsInRange) is (countable_mapped f IsInRange rows fed.all.4);
      }
  handed {E} (Err e) a b fed = elim fed.some [
    | inl none ↦
        record { all = tt; some = (values, subst (HandedOver step a values values) (sym none) (begun step a values)); countable = tt }
    | inr some ↦
        let rest = are.some some.0 some.1 in
        let front : HandedOver step a values rest.0 b =
        record { front = map f some.0; parts = rest.1; folded = some.2 ∙ fold_mapped step f a some.0 } in
        record { all = tt; some = (rest.0, front); countable = tt }
  ]

-- either way what the call leaves is what the query left
module _ {E : Type 0} (old new : State) where
  left_by : (r : Result ℕ E) → LeavesAll r old new → LeavesAll {T = Unit {0}} {E = E} (result_and r (Ok tt)) old new
  left_by r left = grind (arith, ints, nat_tests, leaves_on)

  pub all_left : (r : Result ℕ E) → LeavesAll r old new → (o : Result (Unit {0}) E) → o ≡ result_and r (Ok tt)
      → LeavesAll o old new
  all_left r left o is = subst (λ x. LeavesAll x old new) (sym is) (left_by r left)
