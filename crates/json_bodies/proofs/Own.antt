-- What a person is listed depends on the person's own matters alone.
use Rattle.std.proofs.Common.{Bool, List, [], ap, arith, cond, false, map, refl, sym, true, ℕ, ◌++◌, ◌<◌, ◌∙◌, ◌∷◌, ◌≡◌}
use Rattle.std.proofs.lemmas.Bool.Decides.{nat_tests}
use Rattle.std.proofs.lemmas.List.Elements.{filter_passes, recursion_from_All}
use Rattle.std.specs.List.{AllByRecursion, filter, flat_map}
use Rattle.std.specs.Prelude.{codes, is_some, ◌&&◌, ◌==◌, ◌||◌}
use Rattle.serde_json.specs.Written.{compact_text}
use Rattle.matter_rows.specs.Rows.{Rows}
use Rattle.matter_rows.specs.declared.act.Caller.{Caller}
use Rattle.matter_rows.specs.declared.act.Caller.TheVariants.{Person}
use Rattle.json_bodies.specs.Json.{array_of, object_of}
use Rattle.firm_rows.proofs.Ordered.{all-map}
use Rattle.firm_rows.specs.Firm.{Row, HeadRow, SeatRow, EntryRow, Firm, head_among, headed, of, rows_of}
use Rattle.firm_rows.specs.FirmSound.{IsInOrder}
use Rattle.firm_figures.proofs.Tidy.{After, Tidy, ordered-tidy}
use Rattle.json_bodies.specs.Listed.{listed_object, waiting_in}
use Rattle.json_bodies.specs.Lists.{is_shown, listed_for}
unfoldable use Rattle.json_bodies.specs.Lists.{matters_body, waiting_body}
use Rattle.json_bodies.specs.ListLaws.{AgreeFor, ListedIsShown, PersonsListsAreOwn, has_seat, is_listed}

-- A head is among the rows exactly if its matter is listed there.

has-head : (m : ℕ) (rows : List (ℕ × Row)) → is_listed m (headed rows) ≡ is_some (head_among (rows_of m rows))
has-head m [] = refl
has-head m ((k, HeadRow head) ∷ rows) = grind (arith, nat_tests, (has-head m rows))
has-head m ((k, SeatRow seat) ∷ rows) = grind (arith, nat_tests, (has-head m rows))
has-head m ((k, EntryRow number entry) ∷ rows) = grind (arith, nat_tests, (has-head m rows))

-- Lists that rise.

abbrev Rises : List ℕ → Type 0
Rises [] = Unit {0}
Rises (m ∷ ms) = AllByRecursion (λ k. m < k) ms × Rises ms

pub headed-after : (m : ℕ) (rows : List (ℕ × Row)) → AllByRecursion (After m) rows → AllByRecursion (λ k. m < k) (headed rows)
headed-after m [] all = tt
headed-after m ((k, HeadRow head) ∷ rows) all = (all.0.1 refl, headed-after m rows all.1)
headed-after m ((k, SeatRow seat) ∷ rows) all = headed-after m rows all.1
headed-after m ((k, EntryRow number entry) ∷ rows) all = headed-after m rows all.1

headed-rises : (rows : List (ℕ × Row)) → Tidy rows → Rises (headed rows)
headed-rises [] tidy = tt
headed-rises ((k, HeadRow head) ∷ rows) tidy = (headed-after k rows tidy.0, headed-rises rows tidy.1)
headed-rises ((k, SeatRow seat) ∷ rows) tidy = headed-rises rows tidy.1
headed-rises ((k, EntryRow number entry) ∷ rows) tidy = headed-rises rows tidy.1

-- a filter of such a list
filter-after : (m : ℕ) (t : ℕ → Bool) (ms : List ℕ) → AllByRecursion (λ k. m < k) ms → AllByRecursion (λ k. m < k) (filter t ms)
filter-after m t [] all = tt
filter-after m t (k ∷ ms) all = cases (t k) (filter-after m t ms all.1)
  where
    cases : (b : Bool) → AllByRecursion (λ k. m < k) (filter t ms) → AllByRecursion (λ k. m < k) (cond b (k ∷ filter t ms) (filter t ms))
    cases true rest = (all.0, rest)
    cases false rest = rest

filter-rises : (t : ℕ → Bool) (ms : List ℕ) → Rises ms → Rises (filter t ms)
filter-rises t [] rises = tt
filter-rises t (k ∷ ms) rises = cases (t k) (filter-rises t ms rises.1)
  where
    cases : (b : Bool) → Rises (filter t ms) → Rises (cond b (k ∷ filter t ms) (filter t ms))
    cases true rest = (filter-after k t ms rises.0, rest)
    cases false rest = rest

filter-listed : (m : ℕ) (t : ℕ → Bool) (ms : List ℕ) → is_listed m (filter t ms) ≡ (is_listed m ms && t m)
filter-listed m t [] = refl
filter-listed m t (k ∷ ms) = cases (k == m) refl (t k) refl (filter-listed m t ms)
  where
    cases : (c : Bool) → (k == m) ≡ c → (b : Bool) → t k ≡ b → is_listed m (filter t ms) ≡ (is_listed m ms && t m) → is_listed m (cond (t k) (k ∷ filter t ms) (filter t ms)) ≡ ((k == m || is_listed m ms) && t m)
    cases c is b at rest = grind (arith, nat_tests)

none-before : (m : ℕ) (ms : List ℕ) → AllByRecursion (λ k. m < k) ms → is_listed m ms ≡ false
none-before m [] all = refl
none-before m (k ∷ ms) all = grind (arith, nat_tests, (none-before m ms all.1))

all-later : (m n : ℕ) (ms : List ℕ) → m < n → AllByRecursion (λ k. n < k) ms → AllByRecursion (λ k. m < k) ms
all-later m n [] lt all = tt
all-later m n (k ∷ ms) lt all = (omega (arith, lt, all.0), all-later m n ms lt all.1)

-- two lists that rise and have the same numbers are the same
same-list : (xs ys : List ℕ) → Rises xs → Rises ys → ((m : ℕ) → is_listed m xs ≡ is_listed m ys) → xs ≡ ys
same-list [] [] here there same = refl
same-list [] (y ∷ ys) here there same = absurd (let is = same y in grind (arith, nat_tests))
same-list (x ∷ xs) [] here there same = absurd (let is = same x in grind (arith, nat_tests))
same-list (x ∷ xs) (y ∷ ys) here there same = λ i. first i ∷ same-list xs ys here.1 there.1 rest i
  where
    first : x ≡ y
    first = let a = same x in let b = same y in grind (arith, nat_tests, (none-before x xs here.0), (none-before y ys there.0), (λ (lt : x < y). none-before x ys (all-later x y ys lt there.0)), (λ (lt : y < x). none-before y xs (all-later y x xs lt here.0)))

    rest : (m : ℕ) → is_listed m xs ≡ is_listed m ys
    rest m = let is = same m in grind (arith, nat_tests, first, (none-before x xs here.0), (none-before y ys there.0))

-- A matter is listed where the caller's look is answered.

pub listed-shown : ListedIsShown
listed-shown m caller firm =
    filter-listed m (λ k. is_shown caller (of k firm)) (headed firm.rows) ∙ ap (λ b. b && is_shown caller (of m firm)) (has-head m firm.rows)

listed-rises : (caller : Caller) (firm : Firm) → IsInOrder firm → Rises (listed_for caller firm)
listed-rises caller firm order = filter-rises (λ k. is_shown caller (of k firm)) (headed firm.rows) (headed-rises firm.rows (ordered-tidy firm order))

-- A person is shown no matter without a seat.

unseated : (person : List ℕ) (rows : Rows) → has_seat person rows ≡ false → is_shown (Person person) rows ≡ false
unseated person rows none = grind (arith, nat_tests)

seated : (person : List ℕ) (rows : Rows) → is_shown (Person person) rows ≡ true → has_seat person rows ≡ true
seated person rows is = cases (has_seat person rows) refl
  where
    cases : (b : Bool) → has_seat person rows ≡ b → has_seat person rows ≡ true
    cases true e = e
    cases false e = absurd (let no = unseated person rows e in (cc))

pub and-none : (b c : Bool) → c ≡ false → (b && c) ≡ false
and-none b c is = grind arith

pub or-first : (b c : Bool) → (b || c) ≡ false → b ≡ false
or-first b c is = grind arith

pub or-second : (b c : Bool) → (b || c) ≡ false → c ≡ false
or-second b c is = grind arith

or-true : (b c : Bool) → b ≡ true → (b || c) ≡ true
or-true b c is = grind arith

-- Two firms that agree on the person's matters.

module _ (person : List ℕ) (f g : Firm) (agree : AgreeFor person f g) where
  same-member : (m : ℕ) → is_listed m (listed_for (Person person) f) ≡ is_listed m (listed_for (Person person) g)
  same-member m = cases (has_seat person (of m f) || has_seat person (of m g)) refl
    where
      cases : (b : Bool) → (has_seat person (of m f) || has_seat person (of m g)) ≡ b → is_listed m (listed_for (Person person) f) ≡ is_listed m (listed_for (Person person) g)
      cases true is =
          listed-shown m (Person person) f
          ∙ (ap (λ rows. is_some rows.head && is_shown (Person person) rows) (agree m is) ∙ sym (listed-shown m (Person person) g))
      cases false is =
          listed-shown m (Person person) f
          ∙ (and-none _ _ (unseated person (of m f) (or-first _ _ is))
          ∙ sym (listed-shown m (Person person) g ∙ and-none _ _ (unseated person (of m g) (or-second _ _ is))))

  same-listed : IsInOrder f → IsInOrder g → listed_for (Person person) f ≡ listed_for (Person person) g
  same-listed here there = same-list _ _ (listed-rises (Person person) f here) (listed-rises (Person person) g there) same-member

  same-rows : AllByRecursion (λ m. of m f ≡ of m g) (listed_for (Person person) f)
  same-rows =
      all-map (λ m. is_shown (Person person) (of m f) ≡ true) (λ m. of m f ≡ of m g) (listed_for (Person person) f)
      (λ m is. agree m (or-true _ _ (seated person (of m f) is)))
      (recursion_from_All _ _ (filter_passes (λ m. is_shown (Person person) (of m f)) (headed f.rows)))

map-same : {B : Type 0} (k l : ℕ → B) (ms : List ℕ) → AllByRecursion (λ m. k m ≡ l m) ms → map k ms ≡ map l ms
map-same k l [] all = refl
map-same k l (m ∷ ms) all = λ i. all.0 i ∷ map-same k l ms all.1 i

flat-same : {B : Type 0} (k l : ℕ → List B) (ms : List ℕ) → AllByRecursion (λ m. k m ≡ l m) ms → flat_map k ms ≡ flat_map l ms
flat-same k l [] all = refl
flat-same k l (m ∷ ms) all = λ i. all.0 i ++ flat-same k l ms all.1 i

pub persons-own : PersonsListsAreOwn
unfolding matters_body waiting_body
persons-own person f g here there agree =
    let listed = same-listed person f g agree here there in
    let rows = same-rows person f g agree in
    let shown : map (λ m. listed_object (Person person) m (of m f)) (listed_for (Person person) f) ≡ map (λ m. listed_object (Person person) m (of m g)) (listed_for (Person person) g) =
    map-same (λ m. listed_object (Person person) m (of m f)) (λ m. listed_object (Person person) m (of m g)) (listed_for (Person person) f) (all-map (λ m. of m f ≡ of m g) (λ m. listed_object (Person person) m (of m f) ≡ listed_object (Person person) m (of m g)) (listed_for (Person person) f) (λ m is. ap (listed_object (Person person) m) is) rows)
    ∙ ap (map (λ m. listed_object (Person person) m (of m g))) listed in
    let waiting : flat_map (λ m. waiting_in m (of m f)) (listed_for (Person person) f) ≡ flat_map (λ m. waiting_in m (of m g)) (listed_for (Person person) g) =
    flat-same (λ m. waiting_in m (of m f)) (λ m. waiting_in m (of m g)) (listed_for (Person person) f) (all-map (λ m. of m f ≡ of m g) (λ m. waiting_in m (of m f) ≡ waiting_in m (of m g)) (listed_for (Person person) f) (λ m is. ap (waiting_in m) is) rows)
    ∙ ap (flat_map (λ m. waiting_in m (of m g))) listed in
    record {
      listed = listed;
      matters = ap (λ ds. compact_text (object_of ((codes "matters", array_of ds) ∷ []))) shown;
      waiting = ap (λ ds. compact_text (object_of ((codes "waiting", array_of ds) ∷ []))) waiting;
    }

pub ruleset list_laws = (listed-shown, persons-own)
