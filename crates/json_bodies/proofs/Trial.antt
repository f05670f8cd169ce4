-- The open matters that the cashier is listed are those of the trial balance.
use Rattle.std.proofs.Common.{Bool, List, [], ap, arith, cond, false, map, refl, sym, true, ℕ, ◌<◌, ◌∙◌, ◌∷◌, ◌≡◌}
use Rattle.std.proofs.lemmas.Bool.Decides.{nat_tests}
use Rattle.std.specs.List.{AllByRecursion, filter}
use Rattle.std.specs.Prelude.{◌&&◌, ◌==◌}
use Rattle.matter_rows.specs.Rows.{Rows, is_purged}
use Rattle.matter_rows.specs.Sound.{Sound}
use Rattle.matter_rows.specs.declared.act.Caller.{Caller}
use Rattle.matter_rows.specs.declared.act.Caller.TheVariants.{Cashier, Person}
use Rattle.firm_rows.specs.Firm.{Row, HeadRow, SeatRow, EntryRow, head_among, headed, of, rows_of}
use Rattle.firm_figures.specs.Lists.{is_open, open_matters}
use Rattle.firm_figures.proofs.Tidy.{Tidy, ordered-tidy}
use Rattle.json_bodies.specs.Lists.{is_shown}
use Rattle.json_bodies.specs.ListLaws.{CashiersListIsTrial, NothingPurged, ledger_line}
use Rattle.json_bodies.proofs.Own.{headed-after, listed-shown}

filter-same : (t u : ℕ → Bool) (ms : List ℕ) → AllByRecursion (λ k. t k ≡ u k) ms → filter t ms ≡ filter u ms
filter-same t u [] all = refl
filter-same t u (m ∷ ms) all = λ i. cond (all.0 i) (m ∷ filter-same t u ms all.1 i) (filter-same t u ms all.1 i)

filter-twice : (t u : ℕ → Bool) (ms : List ℕ) → ((k : ℕ) → t k ≡ true → u k ≡ true) → filter t (filter u ms) ≡ filter t ms
filter-twice t u [] h = refl
filter-twice t u (m ∷ ms) h = grind (arith, filter-twice t u ms h, h m)

all-of : (P : ℕ → Type 0) (ms : List ℕ) → ((k : ℕ) → P k) → AllByRecursion P ms
all-of P [] f = tt
all-of P (m ∷ ms) f = (f m, all-of P ms f)

all-in : (P Q : ℕ → Type 0) (ms : List ℕ) → ((k : ℕ) → P k → Q k) → AllByRecursion P ms → AllByRecursion Q ms
all-in P Q [] f all = tt
all-in P Q (m ∷ ms) f all = (f m all.0, all-in P Q ms f all.1)

-- the head of matter k among joined rows
abbrev head_in : ℕ → List (ℕ × Row) → Bool
head_in k rows = is_open (head_among (rows_of k rows))

head-past : (k m : ℕ) (row : Row) (rows : List (ℕ × Row)) → m < k → head_in k ((m, row) ∷ rows) ≡ head_in k rows
head-past k m row rows lt = let apart : (m == k) ≡ false = grind (arith, nat_tests) in rw apart refl

seat-past : (k m : ℕ) (b : Bool) (seat : _) (rest : List Row) → is_open (head_among (cond b (SeatRow seat ∷ rest) rest)) ≡ is_open (head_among rest)
seat-past k m true seat rest = refl
seat-past k m false seat rest = refl

open-headed : (rows : List (ℕ × Row)) → Tidy rows → open_matters rows ≡ filter (λ k. head_in k rows) (headed rows)
open-headed [] tidy = refl
open-headed ((m, HeadRow h) ∷ rows) tidy = grind (arith, nat_tests, open-headed rows tidy.1, rest)
  where
    rest : filter (λ k. head_in k rows) (headed rows) ≡ filter (λ k. head_in k ((m, HeadRow h) ∷ rows)) (headed rows)
    rest = filter-same _ _ (headed rows) (all-in (λ k. m < k) (λ k. head_in k rows ≡ head_in k ((m, HeadRow h) ∷ rows)) (headed rows) (λ k lt. sym (head-past k m (HeadRow h) rows lt)) (headed-after m rows tidy.0))
open-headed ((m, SeatRow seat) ∷ rows) tidy =
    open-headed rows tidy.1
    ∙ filter-same (λ k. head_in k rows) (λ k. head_in k ((m, SeatRow seat) ∷ rows)) (headed rows) (all-of _ (headed rows) (λ k. grind (arith, nat_tests)))
open-headed ((m, EntryRow n e) ∷ rows) tidy =
    open-headed rows tidy.1
    ∙ filter-same (λ k. head_in k rows) (λ k. head_in k ((m, EntryRow n e) ∷ rows)) (headed rows) (all-of _ (headed rows) (λ k. grind (arith, nat_tests)))

-- an open matter is shown to the cashier
open-shown : (rows : Rows) → Sound rows → is_open rows.head ≡ true → is_shown Cashier rows ≡ true
open-shown rows sound is = let bare = sound.bare in grind (arith, nat_tests)

pub cashiers-trial : CashiersListIsTrial
cashiers-trial firm sound =
    ap (map (ledger_line firm))
    (filter-twice (λ m. is_open (of m firm).head) (λ m. is_shown Cashier (of m firm)) (headed firm.rows) (λ k is. open-shown (of k firm) (sound.matters k) is)
    ∙ sym (open-headed firm.rows (ordered-tidy firm sound.in_order)))

-- A purged matter is shown to nobody.
purged-hidden : (caller : Caller) (rows : Rows) → is_purged rows.head ≡ true → is_shown caller rows ≡ false
purged-hidden Cashier rows is = grind (arith, nat_tests)
purged-hidden (Person p) rows is = grind (arith, nat_tests)

none-after : (b c : Bool) → c ≡ false → (b && c) ≡ false
none-after b c is = grind arith

pub purged-none : NothingPurged
purged-none m caller firm is = listed-shown m caller firm ∙ none-after _ _ (purged-hidden caller (of m firm) is)
