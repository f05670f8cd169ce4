-- The head of a matter after a change of it, which the steps of the change put in first.
use Rattle.sql_rows.proofs.Names.{◌≡◌, ℕ, pos, find, Option, Some, None, option_map, refl, sym, ap, subst, ◌∙◌, AllByRecursion, IsSome, false≢true, IsKeyedBy, Head, Purged, Rows, closed_on, Edit, MatterChange, IsChange, IsPlace, head_after, rows_in, Lists, HasHead, head_columns, totals_columns, AreMeant, IsWrittenHead, head_from, matters_from, IsTypedEdit, AreMade, head_at, head_steps, totals_steps, edit_steps, row_steps, changed_by, Sound, arith, ints, nat_tests}
use Rattle.matter_parts.specs.declared.edit.Edit.TheVariants as edit
use Rattle.sql_tables.specs.declared.columns.TotalsColumns.{TotalsColumns}
use Rattle.sql_tables.specs.Rows as table
use Rattle.sql_rows.proofs.HeadOrder.{key}
use Rattle.sql_rows.proofs.HeadSet.{changed_is_put, changed_twice}
use Rattle.sql_rows.proofs.Heads.{head_found, found_number, HasDays, days_read, seated_held}
use Rattle.sql_rows.proofs.RowOrder.{all-find}
use Rattle.sql_rows.proofs.Steps.{made-append}

-- the head after the edit is put in, in the place of the one before, and has its days
record IsHeadPut (m : ℕ) (c : MatterChange) (e : Edit) (a mid : Lists) : Type 0 where
  h : Head
  is : head_after (head_at m a) e c.last ≡ Some h
  days : HasDays h
  put : mid ≡ record a { heads = table.put_head (head_columns m h c.moves.figures) a.heads }

-- a matter with a head has its row
row_there : (o : Option table.Head) → IsSome (option_map head_from o) → (x : table.Head) × (o ≡ Some x)
row_there None some = absurd (false≢true some)
row_there (Some x) some = (x, refl)

was_there : (o : Option Head) → IsSome (closed_on o) → IsSome o
was_there None some = some
was_there (Some h) some = refl

module _ (m : ℕ) (c : MatterChange) (a mid : Lists) (up : IsKeyedBy key a.heads)
    (written : AllByRecursion IsWrittenHead a.heads) where
  abbrev totals : TotalsColumns
  totals = totals_columns m c.last c.moves.figures

  -- a row of the matter with what its head has is all columns of the head, once the last day and the totals are set
  columns_set : (y : table.Head) (k : Head) → y.no ≡ pos m → HasHead k y
      → table.with_totals totals y ≡ head_columns m (record k { last = c.last }) c.moves.figures
  columns_set y k own has = grind (arith, ints, nat_tests, totals)

  -- so it is as if that head were put in, whatever `g` changes in the row and `f` in its head
  row_set : (e : Edit) (g : table.Head → table.Head) (f : Head → Head) → ((y : table.Head) → (g y).no ≡ y.no)
      → ((x : table.Head) → HasHead (head_from x) x → HasHead (f (head_from x)) (g x))
      → ((h : Head) → head_after (Some h) e c.last ≡ Some (record (f h) { last = c.last }))
      → ((h : Head) → HasDays h → HasDays (f h)) → IsSome (head_at m a)
      → mid ≡ record a { heads = table.change_head (pos m) (λ y. table.with_totals totals (g y)) a.heads }
      → IsHeadPut m c e a mid
  row_set e g f same has after days some made =
      let row = row_there (find (table.is_head (pos m)) a.heads) some in
      let x : table.Head = row.0 in
      let own : x.no ≡ pos m = found_number a m x row.1 in
      let is : IsWrittenHead x = all-find IsWrittenHead (table.is_head (pos m)) a.heads x written row.1 in
      let dated : HasDays (f (head_from x)) = days (head_from x) (days_read x) in
      record {
        h = record (f (head_from x)) { last = c.last };
        is = ap (λ o. head_after (option_map head_from o) e c.last) row.1 ∙ after (head_from x);
        days = record { holder = dated.holder; closed = dated.closed };
        put = made ∙ ap (λ hs. record a { heads = hs })
            (changed_is_put (pos m) (λ y. table.with_totals totals (g y)) same x a.heads up row.1
            ∙ ap (λ y. table.put_head y a.heads) (columns_set (g x) (f (head_from x)) (same x ∙ own) (has x is.1)));
      }

  -- behind another change of the row
  both_set : (k : Lists) (f : table.Head → table.Head) → ((y : table.Head) → (f y).no ≡ y.no)
      → k ≡ record a { heads = table.change_head (pos m) f a.heads } → AreMade (totals_steps m c) k mid
      → mid ≡ record a { heads = table.change_head (pos m) (λ y. table.with_totals totals (f y)) a.heads }
  both_set k f same first made = grind (arith, ints, nat_tests, totals, changed_twice)

  -- the steps of each change that is something put its head in
  head_put : (rows : Rows) (e : Edit) → head_at m a ≡ rows.head → (e ≡ edit.Nothing → ⊥) → IsTypedEdit e
      → IsPlace rows e → Sound (changed_by e c.last rows) → AreMade (head_steps m c e) a mid → IsHeadPut m c e a mid
  head_put rows edit.Nothing own some typed place sound made = absurd (some refl)
  head_put rows (edit.Open o) own some typed place sound made = grind (arith, ints, nat_tests, seated_held)
  head_put rows (edit.Close day) own some typed place sound made =
      row_set _ (table.with_closing (pos day)) (λ h. record h { closed = Some day }) (λ y. refl)
      (λ x has. (has.0, has.1, refl, has.3, has.4)) (λ h. refl)
      (λ h days. record { holder = days.holder; closed = typed }) (subst IsSome (sym own) place.0)
      (both_set made.0 (table.with_closing (pos day)) (λ y. refl) made.1 made.2)
  head_put rows (edit.Purge day) own some typed place sound made =
      row_set _ (table.with_purge (pos day)) (λ h. record h { holder = Purged day }) (λ y. refl)
      (λ x has. (refl, has.1, has.2, has.3, refl)) (λ h. refl)
      (λ h days. record { holder = typed; closed = days.closed })
      (subst IsSome (sym own) (was_there rows.head place.0))
      (both_set made.0 (table.with_purge (pos day)) (λ y. refl) made.1 made.2)
  head_put rows _ own some typed place sound made =
      row_set _ (λ y. y) (λ h. h) (λ y. refl) (λ x has. has) (λ h. refl) (λ h days. days)
      (subst IsSome (sym own) place.0) (made.2 ∙ made.1)

-- the head that is put in first, and the steps behind it
pub record HeadFirst (m : ℕ) (c : MatterChange) (a b : Lists) : Type 0 where
  pub h : Head
  pub is : head_after (head_at m a) c.edit c.last ≡ Some h
  pub days : HasDays h
  pub rest : AreMade (edit_steps m c c.edit)
      (record a { heads = table.put_head (head_columns m h c.moves.figures) a.heads }) b

-- the steps of a change that is something put it in first
pub head_first : (m : ℕ) (c : MatterChange) (a b : Lists) → IsKeyedBy key a.heads → AreMeant a
    → IsChange (rows_in m (matters_from a)) c → (c.edit ≡ edit.Nothing → ⊥) → IsTypedEdit c.edit
    → AreMade (row_steps m c c.edit) a b → HeadFirst m c a b
head_first m c a b up meant here some typed made =
    let parts = made-append (head_steps m c c.edit) (edit_steps m c c.edit) a b made in
    let put = head_put m c a parts.0 up meant.written.heads (rows_in m (matters_from a)) c.edit
    (head_found a m up meant.written.heads) some typed here.place here.sound parts.1 in
    grind (arith, ints, nat_tests, put, edit_steps)
