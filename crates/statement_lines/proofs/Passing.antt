-- What is met of the lines of a statement while its records are passed.
use Rattle.statement_lines.proofs.Names.{◌≡◌, ◌∙◌, sym, ap, ℕ, zero, suc, ◌+◌, ◌<◌, ◌≤◌, ◌==◌, true, false, List, [], ◌∷◌, ◌++◌, drop, map, append-nil, append_assoc, Bor, Option, Some, None, option_copied, refl, arith, add-one, cases_Bool, nat_tests, Line, items_from, Rows, line_at, lines_from, numbers_from, outcome_if, row_as, rows_by, LineOutcome}
use Rattle.std.specs.List.{slice_get}
use Rattle.std.specs.Option.{is_some}

-- Places of a list.

get-drop : {X : Type 0} (xs : List X) (i : ℕ) → slice_get xs i ≡ slice_get (drop i xs) 0
get-drop [] zero = refl
get-drop [] (suc i) = refl
get-drop (x ∷ xs) zero = refl
get-drop (x ∷ xs) (suc i) = get-drop xs i

drop-next : {X : Type 0} (xs : List X) (i : ℕ) (x : X) (rest : List X) → drop i xs ≡ x ∷ rest → drop (suc i) xs ≡ rest
drop-next [] zero x rest e = cc
drop-next [] (suc i) x rest e = cc
drop-next (y ∷ xs) zero x rest e = cc
drop-next (y ∷ xs) (suc i) x rest e = drop-next xs i x rest e

-- Numbers of lines.

-- no line among records has a number below that of the first
later : (number k : ℕ) (rows : Rows) → k < number → slice_get (numbers_from number rows) 0 ≡ Some k → ⊥
unfolding numbers_from
later number k [] less e = cc
later number k (fields ∷ rest) less e = grind (arith, nat_tests, line_at, (later (number + 1) k rest))

-- behind so many records, the next lines are those of the records that are left, and so much is written
pub record IsMet (outcome_of : Line → LineOutcome) (numbers : List ℕ) (outcomes : List LineOutcome) (all : Rows)
    (number place : ℕ) (left done : Rows) : Type 0 where
  pub ahead : drop place numbers ≡ numbers_from (number + 1) left
  pub next : drop place outcomes ≡ map outcome_of (lines_from (number + 1) left)
  pub parts : rows_by outcome_of 1 all ≡ done ++ rows_by outcome_of (number + 1) left

-- the place of the next line behind a record
abbrev pub place_behind : ℕ → Option LineOutcome → ℕ
place_behind place None = place
place_behind place (Some o) = place + 1

pub met-start : (outcome_of : Line → LineOutcome) (numbers : List ℕ) (outcomes : List LineOutcome) (all : Rows)
    → numbers ≡ numbers_from 1 all → outcomes ≡ map outcome_of (lines_from 1 all)
    → IsMet outcome_of numbers outcomes all 0 0 all []
met-start outcome_of numbers outcomes all n o = record { ahead = n; next = o; parts = refl }

not-here : (known : Option ℕ) (number : ℕ) (next : Option LineOutcome) → (known ≡ Some number → ⊥)
    → outcome_if known number next ≡ None
not-here known number next never = grind (arith, nat_tests, cases_Bool)

here : (number : ℕ) (next : Option LineOutcome) → outcome_if (Some number) number next ≡ next
here number next = let same : (number == number) ≡ true = grind (arith, nat_tests) in rw same refl

-- a record was passed
pub met-more : (outcome_of : Line → LineOutcome) (numbers : List ℕ) (outcomes : List LineOutcome) (all : Rows)
    (number place : ℕ) (fields : List (List ℕ)) (rest done : Rows) (found : Option LineOutcome)
    → IsMet outcome_of numbers outcomes all number place (fields ∷ rest) done
    → found ≡ outcome_if (slice_get numbers place) (number + 1) (slice_get outcomes place)
    → IsMet outcome_of numbers outcomes all (number + 1) (place_behind place found) rest (done ++ row_as fields found)
unfolding numbers_from rows_by items_from
met-more outcome_of numbers outcomes all number place fields rest done found met is =
    by (line_at (number + 1) fields) refl
  where
    by : (line : Option Line) → line_at (number + 1) fields ≡ line
        → IsMet outcome_of numbers outcomes all (number + 1) (place_behind place found) rest (done ++ row_as fields found)
    by None is_none =
        let ahead : drop place numbers ≡ numbers_from (number + 1 + 1) rest = rw is_none at met.ahead in
        let next : drop place outcomes ≡ map outcome_of (lines_from (number + 1 + 1) rest) = rw is_none at met.next in
        let parts : rows_by outcome_of 1 all ≡ done ++ (fields ∷ rows_by outcome_of (number + 1 + 1) rest) = rw is_none at met.parts in
        let never : slice_get numbers place ≡ Some (number + 1) → ⊥ =
        λ e. later (number + 1 + 1) (number + 1) rest (omega arith) (rw (get-drop numbers place, ahead) at e) in
        let none : found ≡ None = is ∙ not-here (slice_get numbers place) (number + 1) (slice_get outcomes place) never in
        rw none (record {
          ahead = ahead;
          next = next;
          parts = parts ∙ sym (append_assoc done (fields ∷ []) (rows_by outcome_of (number + 1 + 1) rest));
        })
    by (Some line) is_line =
        let ahead : drop place numbers ≡ (number + 1) ∷ numbers_from (number + 1 + 1) rest = rw is_line at met.ahead in
        let next : drop place outcomes ≡ outcome_of line ∷ map outcome_of (lines_from (number + 1 + 1) rest) = rw is_line at met.next in
        let parts : rows_by outcome_of 1 all ≡ done ++ (row_as fields (Some (outcome_of line)) ++ rows_by outcome_of (number + 1 + 1) rest) = rw is_line at met.parts in
        let at_number : slice_get numbers place ≡ Some (number + 1) = get-drop numbers place ∙ ap (λ xs. slice_get xs 0) ahead in
        let at_outcome : slice_get outcomes place ≡ Some (outcome_of line) = get-drop outcomes place ∙ ap (λ xs. slice_get xs 0) next in
        let some : found ≡ Some (outcome_of line) =
        is ∙ rw (at_number, at_outcome) (here (number + 1) (Some (outcome_of line))) in
        rw (some, add-one place) (record {
          ahead = drop-next numbers place _ _ ahead;
          next = drop-next outcomes place _ _ next;
          parts = parts ∙ sym (append_assoc done (row_as fields (Some (outcome_of line))) (rows_by outcome_of (number + 1 + 1) rest));
        })

-- all records were passed
pub met-all : (outcome_of : Line → LineOutcome) (numbers : List ℕ) (outcomes : List LineOutcome) (all : Rows)
    (number place : ℕ) (left done : Rows)
    → IsMet outcome_of numbers outcomes all number place left done → left ≡ [] → rows_by outcome_of 1 all ≡ done
unfolding rows_by
met-all outcome_of numbers outcomes all number place left done met none = grind (arith, nat_tests, append-nil)

-- The place behind a record, by whether that was a line.

pub place-some : (found : Option (Bor LineOutcome)) (place : ℕ) → is_some found ≡ true
    → place + 1 ≡ place_behind place (option_copied found)
place-some found place e = grind (arith, nat_tests)

pub place-none : (found : Option (Bor LineOutcome)) (place : ℕ) → is_some found ≡ false
    → place ≡ place_behind place (option_copied found)
place-none found place e = grind (arith, nat_tests)

pub place-within : (place number : ℕ) (found : Option LineOutcome) → place ≤ number
    → place_behind place found ≤ number + 1
place-within place number found le = grind (arith, nat_tests)
