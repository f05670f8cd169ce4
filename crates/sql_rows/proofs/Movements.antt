-- The firm's movements, after one was added and after those of a matter are gone.
use Rattle.sql_rows.proofs.Names.{◌≡◌, ℕ, ℤ, pos, ◌≤◌, List, [], ◌∷◌, ◌++◌, map, Option, Some, None, sym, ap, ◌∙◌, arith, append-nil, int_eq, ◌==◌, AllByRecursion, map-append, nat_tests, delete_where, all-append, EntryMovement, Movement, is_of_matter, moved_without, joined_movement, is_movement_of, Lists, movement_columns, matter_column, entry_column, movement_from, IsWrittenMovement, AreMade, movement_steps, all_weaker, ints}
use Rattle.std.specs.Prelude.{nat_abs, cond}
use Rattle.firm_rows.specs.declared.movement.Owner.{Owner}
use Rattle.firm_rows.specs.declared.movement.Owner.TheVariants as owner
use Rattle.sql_tables.specs.Rows as table
use Rattle.sql_rows.proofs.KeyedRows.{int_eq-nat, not_zero}
use Rattle.sql_rows.proofs.RowOrder.{read-filter_agrees}

-- matter 0 is the firm
abbrev IsOwnerNumbered : Owner → Type 0
IsOwnerNumbered (owner.Matter m n) = 1 ≤ m
IsOwnerNumbered owner.Firm = Unit {0}

owner_back : (o : Owner) → IsOwnerNumbered o
    → cond (nat_abs (matter_column o) == 0) owner.Firm
    (owner.Matter (nat_abs (matter_column o)) (nat_abs (entry_column o))) ≡ o
owner_back o one = grind (arith, ints, nat_tests, not_zero)

-- the columns of a movement give it back, whatever its number
movement_back : (v : Movement) (seq : ℤ) → IsOwnerNumbered v.owner
    → movement_from (record (movement_columns v) { seq = seq }) ≡ v
movement_back v seq one = λ i. record { owner = owner_back v.owner one i; day = v.day; amount = v.amount }

-- One that is added.

movements_added : (v : Movement) (seq : ℤ) (ms : List table.Movement) → IsOwnerNumbered v.owner
    → map movement_from (ms ++ record (movement_columns v) { seq = seq } ∷ []) ≡ map movement_from ms ++ v ∷ []
movements_added v seq ms one = map-append movement_from ms (record (movement_columns v) { seq = seq } ∷ [])
    ∙ ap (λ x. map movement_from ms ++ x ∷ []) (movement_back v seq one)

written_movement_added : (v : Movement) (seq : ℤ) (ms : List table.Movement) → IsOwnerNumbered v.owner
    → AllByRecursion IsWrittenMovement ms
    → AllByRecursion IsWrittenMovement (ms ++ record (movement_columns v) { seq = seq } ∷ [])
written_movement_added v seq ms one all =
    all-append IsWrittenMovement ms _ all (sym (ap movement_columns (movement_back v seq one)), tt)

-- the rows stand for these movements, and are what would be written for them
pub record AreMovements (old : List table.Movement) (moved : List Movement) (ms : List table.Movement) : Type 0 where
  pub shown : map movement_from ms ≡ map movement_from old ++ moved
  pub written : AllByRecursion IsWrittenMovement old → AllByRecursion IsWrittenMovement ms

-- what an entry of a matter moves is added, and no other table changes
pub movement_made : (m : ℕ) (o : Option EntryMovement) (a b : Lists) → 1 ≤ m → AreMade (movement_steps m o) a b
    → (ms : List table.Movement) × (b ≡ record a { movements = ms }) × AreMovements a.movements (joined_movement m o) ms
movement_made m None a b one made =
    (a.movements, made, record { shown = sym (append-nil (map movement_from a.movements)); written = λ all. all })
movement_made m (Some v) a b one made =
    let x : Movement = record { owner = owner.Matter m v.entry; day = v.day; amount = v.amount } in
    let seq : ℤ = made.1.0 in (
      a.movements ++ record (movement_columns x) { seq = seq } ∷ [],
      made.2 ∙ made.1.1,
      record { shown = movements_added x seq a.movements one; written = written_movement_added x seq a.movements one },
    )

-- Those of a matter that are gone.

-- a row is of the matter where its movement is
same_matter : (m : ℕ) (o : Owner) (z : ℤ) → 1 ≤ m → z ≡ matter_column o → int_eq z (pos m) ≡ is_of_matter m o
same_matter m o z one is = grind (arith, ints, nat_tests, int_eq-nat)

-- those that are left stand for the movements without those of the matter
pub movements_gone : (m : ℕ) (ms : List table.Movement) → 1 ≤ m → AllByRecursion IsWrittenMovement ms
    → map movement_from (delete_where (is_movement_of (pos m)) ms) ≡ moved_without m (map movement_from ms)
movements_gone m ms one all = grind (arith, ints, nat_tests, read-filter_agrees, all_weaker, same_matter)
