-- What each statement that copies or empties makes of its table.
use Rattle.sql_making.proofs.Names.{Int, ◌≡◌, ℕ, pos, true, List, [], ◌∷◌, map, Ok, refl, sym, ap, ◌∙◌, map-id, Null, Row, value_cmp-Int, Trees, IsAnswer, overlay, IsKeyedBy, at_end, last_table, answer_by_keys, State, ExecutesIn, Moved, book_schema, matter_place, matter_table, seat_place, seat_table, entry_place, entry_table, old_matter_table, old_seat_table, old_entry_table, Head, head_row, head_shown, Seat, seat_row, seat_values, Entry, entry_row, entry_values, no_lets, all_kept, heads_copied_part, seats_copied_part, entries_copied_part, heads_emptied_part, seats_emptied_part, entries_emptied_part, old_head_row}
use Rattle.sqlite_typed.proofs.TestLemmas.{last_key}
use Rattle.sql_tables.proofs.Casts.{row_kept}
use Rattle.sql_making.proofs.Means.{heads_copied_query, heads_copied_means, seats_copied_query, seats_copied_means, entries_copied_query, entries_copied_means, heads_emptied_means, seats_emptied_means, entries_emptied_means}
use Rattle.sql_making.proofs.Changes.{IsElsewhere, Fills, Clears, fills, clears}

-- a head with the column that was added
abbrev pub new_head_row : Head → Row
new_head_row h = head_row (record h { purged = pos 0 })

heads_shown : (db : Trees) (xs : List Head) → db 1 ≡ map old_head_row xs → IsKeyedBy (λ (x : Head). x.no) xs → (rows : List Row) → IsAnswer heads_copied_query (overlay db []) [] rows → rows ≡ map new_head_row xs
heads_shown db xs stored rise rows answer =
    let source = last_table (overlay db []) 1 old_head_row (λ (x : Head). x.no) xs (no_lets db 1 ∙ stored) rise (at_end (overlay db [])) in
    sym (map-id rows) ∙ answer_by_keys heads_copied_query (overlay db []) [] source (λ _. true) (λ x. refl) (λ (r : Row). r) new_head_row (λ x. refl) refl refl (λ a b. last_key (value_cmp-Int a.no b.no)) rows answer
    ∙ ap (map new_head_row) (all_kept xs)

seats_shown : (db : Trees) (xs : List Seat) → db 2 ≡ map seat_row xs → IsKeyedBy (λ (x : Seat). x.id) xs → (rows : List Row) → IsAnswer seats_copied_query (overlay db []) [] rows → rows ≡ map seat_row xs
seats_shown db xs stored rise rows answer =
    let source = last_table (overlay db []) 2 seat_row (λ (x : Seat). x.id) xs (no_lets db 2 ∙ stored) rise (at_end (overlay db [])) in
    sym (map-id rows) ∙ answer_by_keys seats_copied_query (overlay db []) [] source (λ _. true) (λ x. refl) (λ (r : Row). r) seat_row (λ x. refl) refl refl (λ a b. last_key (value_cmp-Int a.id b.id)) rows answer
    ∙ ap (map seat_row) (all_kept xs)

entries_shown : (db : Trees) (xs : List Entry) → db 4 ≡ map entry_row xs → IsKeyedBy (λ (x : Entry). x.id) xs → (rows : List Row) → IsAnswer entries_copied_query (overlay db []) [] rows → rows ≡ map entry_row xs
entries_shown db xs stored rise rows answer =
    let source = last_table (overlay db []) 4 entry_row (λ (x : Entry). x.id) xs (no_lets db 4 ∙ stored) rise (at_end (overlay db [])) in
    sym (map-id rows) ∙ answer_by_keys entries_copied_query (overlay db []) [] source (λ _. true) (λ x. refl) (λ (r : Row). r) entry_row (λ x. refl) refl refl (λ a b. last_key (value_cmp-Int a.id b.id)) rows answer
    ∙ ap (map entry_row) (all_kept xs)

module _ (old new : State) (count : ℕ) (has : old.now.schema ≡ book_schema Moved) where
  pub copies_heads : ExecutesIn true heads_copied_part [] old new (Ok count)
      → IsElsewhere 13 old.now new.now × Fills (λ (x : Head). x.no) old_head_row new_head_row 1 13 old.now.trees new.now.trees
  copies_heads h =
      fills (matter_place Moved) (matter_table Moved) refl refl refl heads_copied_query heads_copied_part heads_copied_means
      old new count has h (λ (x : Head). x.no) old_head_row new_head_row 1 (λ _. refl)
      (λ h. row_kept (matter_table Moved) (Int h.no) (Null ∷ head_shown (record h { purged = pos 0 })) refl refl)
      (heads_shown old.now.trees)

  pub copies_seats : ExecutesIn true seats_copied_part [] old new (Ok count)
      → IsElsewhere 14 old.now new.now × Fills (λ (x : Seat). x.id) seat_row seat_row 2 14 old.now.trees new.now.trees
  copies_seats h =
      fills (seat_place Moved) (seat_table Moved) refl refl refl seats_copied_query seats_copied_part seats_copied_means
      old new count has h (λ (x : Seat). x.id) seat_row seat_row 2 (λ _. refl)
      (λ x. row_kept (seat_table Moved) (Int x.id) (seat_values x) refl refl) (seats_shown old.now.trees)

  pub copies_entries : ExecutesIn true entries_copied_part [] old new (Ok count)
      → IsElsewhere 16 old.now new.now × Fills (λ (x : Entry). x.id) entry_row entry_row 4 16 old.now.trees new.now.trees
  copies_entries h =
      fills (entry_place Moved) (entry_table Moved) refl refl refl entries_copied_query entries_copied_part entries_copied_means
      old new count has h (λ (x : Entry). x.id) entry_row entry_row 4 (λ _. refl)
      (λ x. row_kept (entry_table Moved) (Int x.id) (entry_values x) refl refl) (entries_shown old.now.trees)

  pub empties_entries : ExecutesIn true entries_emptied_part [] old new (Ok count)
      → IsElsewhere 4 old.now new.now × Clears (λ (x : Entry). x.id) entry_row 4 old.now.trees new.now.trees
  empties_entries h =
      clears 3 old_entry_table refl refl refl entries_emptied_part entries_emptied_means old new count has h
      (λ (x : Entry). x.id) entry_row (λ _. refl)

  pub empties_seats : ExecutesIn true seats_emptied_part [] old new (Ok count)
      → IsElsewhere 2 old.now new.now × Clears (λ (x : Seat). x.id) seat_row 2 old.now.trees new.now.trees
  empties_seats h =
      clears 2 old_seat_table refl refl refl seats_emptied_part seats_emptied_means old new count has h
      (λ (x : Seat). x.id) seat_row (λ _. refl)

  pub empties_heads : ExecutesIn true heads_emptied_part [] old new (Ok count)
      → IsElsewhere 1 old.now new.now × Clears (λ (x : Head). x.no) old_head_row 1 old.now.trees new.now.trees
  empties_heads h =
      clears 1 old_matter_table refl refl refl heads_emptied_part heads_emptied_means old new count has h
      (λ (x : Head). x.no) old_head_row (λ _. refl)
