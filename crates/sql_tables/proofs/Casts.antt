-- Values that a statement gives are stored as they are, and rowids go up.
use Rattle.sql_tables.proofs.Names.{◌≡◌, ℤ, pos, ◌+ℤ◌, ◌<ℤ◌, Bool, true, false, cond, ◌&&◌, List, [], ◌∷◌, ◌++◌, map, fold, refl, ap, ap₂, subst, ◌∙◌, AllByRecursion, Null, Int, Text, Row, rowid, Table, cast, cast_all, cast_row, id_in, IsKeyedBy, next_key, insert_by, above_all, Less-from_lt, IsKeyedBy-insert_by, arith, ints, nat_tests}
use Rattle.sqlite_value.specs.declared.value.Value.{Value}
use Rattle.sqlite_sql.specs.Ops.{unary}
use Rattle.sqlite_schema.specs.declared.schema.Kind.{Kind}
use Rattle.sqlite_schema.specs.declared.schema.Kind.TheVariants as kind
use Rattle.sqlite_schema.specs.declared.schema.Column.{Column}
use Rattle.sqlite_keyed.proofs.RuleLemmas.{first_of_both, second_of_both}

either : (b : Bool) (x : Value) → cond b x x ≡ x
either b x = grind (arith, ints, nat_tests)

pub cast_int : (n : ℤ) → cast kind.Integer (Int n) ≡ Int n
unfolding unary
cast_int n = either _ (Int n)

pub cast_null : cast kind.Integer Null ≡ Null
unfolding unary
cast_null = either _ Null

abbrev pub is_fit : Kind → Value → Bool
is_fit kind.Integer Null = true
is_fit kind.Integer (Int n) = true
is_fit kind.Text (Text t) = true
is_fit _ _ = false

-- each value is of its column's kind
abbrev pub are_fit : List Column → Row → Bool
are_fit [] [] = true
are_fit [] (v ∷ vs) = false
are_fit (c ∷ cs) [] = false
are_fit (c ∷ cs) (v ∷ vs) = is_fit c.kind v && are_fit cs vs

cast_fit : (k : Kind) (v : Value) → is_fit k v ≡ true → cast k v ≡ v
cast_fit kind.Integer Null h = cast_null
cast_fit kind.Integer (Int n) h = cast_int n
cast_fit kind.Text (Text t) h = refl
cast_fit _ _ h = absurd (let e = h in cc)

pub cast_kept : (cs : List Column) (vs : Row) → are_fit cs vs ≡ true → cast_all cs vs ≡ vs
cast_kept [] vs h = refl
cast_kept (c ∷ cs) [] h = refl
cast_kept (c ∷ cs) (v ∷ vs) h = ap₂ ◌∷◌ (cast_fit c.kind v (first_of_both _ _ h)) (cast_kept cs vs (second_of_both _ _ h))

-- so is a row: its rowid, and the values behind it
pub row_kept : (t : Table) (v : Value) (vs : Row) → is_fit kind.Integer v ≡ true → are_fit t.columns vs ≡ true → cast_row t (v ∷ vs) ≡ v ∷ vs
row_kept t v vs first others = ap₂ ◌∷◌ (cast_fit kind.Integer v first) (cast_kept t.columns vs others)

pub next_is : {X : Type 0} (key : X → ℤ) (to_row : X → Row) → ((x : X) → rowid (to_row x) ≡ Int (key x)) → (xs : List X) (a : ℤ)
    → fold (λ _ r. id_in (rowid r) +ℤ pos 1) a (map to_row xs) ≡ fold (λ _ x. key x +ℤ pos 1) a xs
next_is key to_row keyed [] a = refl
next_is key to_row keyed (x ∷ xs) a = ap (λ n. fold (λ _ r. id_in (rowid r) +ℤ pos 1) n (map to_row xs)) (ap (λ v. id_in v +ℤ pos 1) (keyed x)) ∙ next_is key to_row keyed xs (key x +ℤ pos 1)

pub below_next : {X : Type 0} (key : X → ℤ) (xs : List X) → IsKeyedBy key xs → AllByRecursion (λ x. key x <ℤ next_key key xs) xs
below_next key [] up = tt
below_next key (x ∷ xs) up = above_all key xs x up

-- a key above all goes to the end
pub goes_last : {X : Type 0} (key : X → ℤ) (xs : List X) (new : X) → AllByRecursion (λ x. key x <ℤ key new) xs → insert_by key xs new ≡ xs ++ new ∷ []
goes_last key [] new low = refl
goes_last key (x ∷ xs) new low = rw (Less-from_lt (key x) (key new) low.0) (ap (λ l. x ∷ l) (goes_last key xs new low.1))

pub rise_last : {X : Type 0} (key : X → ℤ) (xs : List X) (new : X) → IsKeyedBy key xs → AllByRecursion (λ x. key x <ℤ key new) xs → IsKeyedBy key (xs ++ new ∷ [])
rise_last key xs new up low = subst (IsKeyedBy key) (goes_last key xs new low) (IsKeyedBy-insert_by key xs new up)
