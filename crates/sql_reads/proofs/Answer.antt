-- A query whose answer is known, and what a sink was handed of it.
use Rattle.sql_reads.proofs.Names.{◌≡◌, inl, inr, ℕ, List, [], ◌++◌, fold, length, Result, Ok, Err, append-nil, sym, subst, Null, Row, Query, IsAnswer, overlay, Schema, State, Begins, begins_as, HandedOver, begun, IsQuery, answers, AreCounted, IsFed, arith, ints, nat_tests}

module _ {schema : Schema} {sql : List ℕ} {q : Query} {names : List (List ℕ)} (it : IsQuery schema sql q names)
    (params : Row) (old new : State) (has : old.now.schema ≡ schema) (rows : List Row)
    (known : (found : List Row) → IsAnswer q (overlay old.now.trees []) params found → found ≡ rows) where
  -- rows with which an answer begins are a front of it
  pub begins_known : (found : List Row) → Begins sql params old found → (rest : List Row) × (found ++ rest ≡ rows)
  begins_known found h =
      let first = begins_as sql params old new schema has _ it.is it.plain it.unlisted found h in
      (first.1.0, known (found ++ first.1.0) (first.1.1 Null))

  module _ {K : Type 0} (step : K → Row → K) (Fits : Row → Type 0) where
    pub fed_counted : {E : Type 0} (r : Result ℕ E) (a b : K) → IsFed step Fits sql params old new r a b
        → AreCounted step rows r a b
    fed_counted (Ok n) a b fed =
        let same = known fed.all.0 (answers it params old new has fed.all.0 fed.all.1) in
        grind (arith, ints, nat_tests, fold, append-nil, length)
    fed_counted (Err e) a b fed = elim fed.some [
      | inl none ↦
          let front = subst (HandedOver step a rows rows) (sym none) (begun step a rows) in
          record { all = tt; some = (rows, front); count = tt }
      | inr some ↦
          let front = begins_known some.0 some.1 in
          record { all = tt; some = (front.0, record { front = some.0; parts = front.1; folded = some.2 }); count = tt }
    ]
