-- What each statement makes of the lists that the tables hold.
use Rattle.sql_tables.proofs.Names.{all_of, all_weaker, ◌≡◌, ◌≢◌, ℤ, ◌<ℤ◌, false, ◌∷◌, slice_get, None, Some, inl, inr, refl, ap, arith, int_eq, ints, Null, Eq, cast_row, with_rowid, Chosen, conflicts, Has, next_key, at_ints, at_texts, then_term, last_term, sequence, State, Layout, Stands, book_schema, matter_tree, matter_place, matter_table, seat_place, seat_table, entry_place, entry_table, journal_place, journal_table, firm_line_place, firm_line_table, exception_place, exception_table, balance_place, balance_table, sequence_table, Head, head_row, heads_in, is_head, with_totals, with_closing, with_purge, is_seat_of, is_seat, Entry, entry_values, entry_row, entries_in, is_entry_of, is_entry_at, is_entry, with_left, is_movement_of, Exception, exception_row, exceptions_in, is_exception, IsDatabase, Database, Does, Int, balance_values, exception_values, firm_line_values, head_shown, movement_values, seat_values, nat_tests}
use Rattle.std.proofs.Math.Bool.{and-true, or-false}
use Rattle.sqlite_value.specs.Keys.{first_key}
use Rattle.sqlite_schema.specs.Names.{same_name}
use Rattle.sql_tables.specs.declared.statements.SqlStatement.{SqlStatement}
use Rattle.sql_tables.specs.declared.statements.SqlStatement.TheVariants as statement
use Rattle.sql_tables.specs.Given.{head_given, seat_given, entry_given, movement_given, firm_line_given, exception_given, balance_given, act_given}
use Rattle.sql_schema.specs.Schema.{act_place, act_table, act_tree, sequence_tree}
use Rattle.sql_tables.specs.Rows.{act_values, is_act_of}
use Rattle.sql_tables.specs.Lists.{lists_in, IsStep}
use Rattle.sql_schema.specs.declared.layout.Layout.TheVariants.{Made, Moved}
use Rattle.sql_tables.proofs.Casts.{row_kept, below_next}
pub use Rattle.sql_tables.proofs.KindLemmas.{idle}
use Rattle.sql_tables.proofs.KindLemmas.{Ran, set, deleted, replaces, last_row, adds, adds_or_not, counts}
use Rattle.sql_tables.proofs.Means.{means}
use Rattle.sql_tables.proofs.Others.{heads_did, seats_did, entries_did, movements_did, firm_lines_did, exceptions_did, balances_did, acts_did}

-- ---- where each table stands

matter_at : (l : Layout) → slice_get (book_schema l).tables (matter_place l) ≡ Some (matter_table l)
matter_at = elim [ Made ↦ refl | Moved ↦ refl ]

seat_at : (l : Layout) → slice_get (book_schema l).tables (seat_place l) ≡ Some (seat_table l)
seat_at = elim [ Made ↦ refl | Moved ↦ refl ]

entry_at : (l : Layout) → slice_get (book_schema l).tables (entry_place l) ≡ Some (entry_table l)
entry_at = elim [ Made ↦ refl | Moved ↦ refl ]

journal_at : (l : Layout) → slice_get (book_schema l).tables (journal_place l) ≡ Some (journal_table l)
journal_at = elim [ Made ↦ refl | Moved ↦ refl ]

firm_line_at : (l : Layout) → slice_get (book_schema l).tables (firm_line_place l) ≡ Some (firm_line_table l)
firm_line_at = elim [ Made ↦ refl | Moved ↦ refl ]

exception_at : (l : Layout) → slice_get (book_schema l).tables (exception_place l) ≡ Some (exception_table l)
exception_at = elim [ Made ↦ refl | Moved ↦ refl ]

balance_at : (l : Layout) → slice_get (book_schema l).tables (balance_place l) ≡ Some (balance_table l)
balance_at = elim [ Made ↦ refl | Moved ↦ refl ]

act_at : (l : Layout) → slice_get (book_schema l).tables (act_place l) ≡ Some (act_table l)
act_at = elim [ Made ↦ refl | Moved ↦ refl ]

listed : (l : Layout) → sequence (book_schema l) ≡ Some (sequence_table l)
unfolding same_name
listed = elim [ Made ↦ refl | Moved ↦ refl ]

has_journal : (l : Layout) → Has (book_schema l).tables (journal_table l)
has_journal = elim [ Made ↦ inr (inr (inr (inr (inl refl)))) | Moved ↦ inr (inr (inr (inr (inl refl)))) ]

has_firm_line : (l : Layout) → Has (book_schema l).tables (firm_line_table l)
has_firm_line = elim [ Made ↦ inr (inr (inr (inr (inr (inr (inl refl)))))) | Moved ↦ inr (inr (inr (inr (inr (inr (inl refl)))))) ]

has_act : (l : Layout) → Has (book_schema l).tables (act_table l)
has_act = elim [ Made ↦ inr (inr (inr (inr (inr (inr (inr (inr (inr (inl refl))))))))) | Moved ↦ inr (inr (inr (inr (inr (inr (inr (inr (inr (inr (inr (inr (inl refl)))))))))))) ]

not_sequence : (l : Layout) → act_tree l ≢ sequence_tree l
not_sequence Made e = omega (arith, e)
not_sequence Moved e = omega (arith, e)

-- ---- the rows that a new one meets

-- those of the same number
head_meets : (l : Layout) (n x : Head) → conflicts None (book_schema l).indexes (matter_table l) (head_row n) (head_row x) ≡ is_head n.no x
unfolding first_key
head_meets l n x = grind (arith, ints, nat_tests, at_ints, and-true, or-false)

other_id : (a b : ℤ) → a <ℤ b → int_eq a b ≡ false
other_id a b h = grind (arith, ints)

-- those of the same matter and number
entry_meets : (l : Layout) (n x : Entry) → x.id <ℤ n.id → conflicts None (book_schema l).indexes (entry_table l) (entry_row n) (entry_row x) ≡ is_entry n x
unfolding first_key
entry_meets l n x low = grind (arith, ints, nat_tests, at_ints, other_id, conflicts, and-true, or-false)

-- the same lines
exception_meets : (l : Layout) (n x : Exception) → x.id <ℤ n.id → conflicts None (book_schema l).indexes (exception_table l) (exception_row n) (exception_row x) ≡ is_exception n x
unfolding first_key
exception_meets l n x low = grind (arith, ints, nat_tests, at_ints, other_id, at_texts, conflicts, and-true, or-false)

-- ---- the statements

head_kept : (l : Layout) (h : Head) → cast_row (matter_table l) (head_row h) ≡ head_row h
head_kept l h = row_kept (matter_table l) (Int h.no) (Null ∷ head_shown h) refl refl

entry_kept : (l : Layout) (e : Entry) → cast_row (entry_table l) (entry_row e) ≡ entry_row e
entry_kept l e = row_kept (entry_table l) (Int e.id) (entry_values e) refl refl

-- a statement made its change, the tables stand, and the database lists what it holds
abbrev pub Did : Layout → SqlStatement → Database → Database → Type 0
Did l s db next = Does l s db next × Stands l next × IsStep s (lists_in l db.trees) (lists_in l next.trees) × IsDatabase next

pub did : (l : Layout) (old new : State) → Stands l old.now → (s : SqlStatement) → Ran l s old new → Did l s old.now new.now
did l old new st (statement.Head h) r =
    let n = head_given h in
    heads_did l st (replaces r (matter_place l) (matter_at l) st.heads (λ _. refl) refl refl _ _ (means l (statement.Head h)) refl
    (head_row n) refl n (ap (with_rowid Chosen (old.now.trees (matter_tree l))) (head_kept l n)) (head_kept l n)
    (is_head n.no) (all_of _ (λ x. head_meets l n x) (heads_in l old.now.trees)))
did l old new st (statement.Totals t) r =
    heads_did l st (set r (matter_place l) (matter_at l) st.heads (λ _. refl) refl refl _ _ (means l (statement.Totals t))
    (is_head t.no) (λ x. last_term (at_ints false Eq x.no t.no)) (with_totals t) (λ _. refl) (λ _. refl) (head_kept l))
did l old new st (statement.Closed c) r =
    heads_did l st (set r (matter_place l) (matter_at l) st.heads (λ _. refl) refl refl _ _ (means l (statement.Closed c))
    (is_head c.matter) (λ x. last_term (at_ints false Eq x.no c.matter)) (with_closing c.day) (λ _. refl) (λ _. refl) (head_kept l))
did l old new st (statement.Purged c) r =
    heads_did l st (set r (matter_place l) (matter_at l) st.heads (λ _. refl) refl refl _ _ (means l (statement.Purged c))
    (is_head c.matter) (λ x. last_term (at_ints false Eq x.no c.matter)) (with_purge c.day) (λ _. refl) (λ _. refl) (head_kept l))
did l old new st (statement.Seat s) r =
    seats_did l st (adds r (seat_place l) (seat_at l) st.seats (λ _. refl) refl refl (λ k. record (seat_given s) { id = k })
    (seat_values (seat_given s)) (λ _. refl) (λ _. refl) refl _ _ (means l (statement.Seat s)) refl refl)
did l old new st (statement.SeatGone s) r =
    seats_did l st (deleted r (seat_place l) (seat_at l) st.seats (λ _. refl) refl refl _ (means l (statement.SeatGone s))
    (is_seat s.matter s.person.now)
    (λ x. then_term (at_ints false Eq x.matter s.matter) (last_term (at_texts false Eq x.person s.person.now))))
did l old new st (statement.Entry e) r =
    let key = λ (x : Entry). x.id in
    let xs = entries_in l old.now.trees in
    let n : Entry = record (entry_given e) { id = next_key key xs } in
    let new_row = last_row r (entry_place l) (entry_at l) st.entries (λ _. refl) refl refl (λ k. record (entry_given e) { id = k })
    (entry_values (entry_given e)) (λ _. refl) (λ _. refl) refl in
    entries_did l st (replaces r (entry_place l) (entry_at l) st.entries (λ _. refl) refl refl _ _ (means l (statement.Entry e)) refl
    (Null ∷ entry_values n) refl n new_row (entry_kept l n) (is_entry n)
    (all_weaker (λ x. x.id <ℤ n.id) (λ x. conflicts None (book_schema l).indexes (entry_table l) (entry_row n) (entry_row x) ≡ is_entry n x)
    (λ x low. entry_meets l n x low) xs (below_next key xs st.entries.rise)))
did l old new st (statement.Left e) r =
    entries_did l st (set r (entry_place l) (entry_at l) st.entries (λ _. refl) refl refl _ _ (means l (statement.Left e)) (is_entry_at e.matter e.no)
    (λ x. then_term (at_ints false Eq x.matter e.matter) (last_term (at_ints false Eq x.no e.no)))
    (with_left e.left_now) (λ _. refl) (λ _. refl) (entry_kept l))
did l old new st (statement.Movement m) r =
    let it = counts r (journal_place l) (journal_at l) st.movements (λ _. refl) refl refl (λ k. record (movement_given m) { seq = k })
    (Null ∷ movement_values (movement_given m)) (λ _. refl) (λ _. refl) refl _ _ (means l (statement.Movement m)) refl (listed l) refl (has_journal l) (λ e. omega (arith, e)) in
    grind (arith, ints, nat_tests, movements_did)
did l old new st (statement.FirmLine f) r =
    let it = counts r (firm_line_place l) (firm_line_at l) st.firm_lines (λ _. refl) refl refl (λ k. record (firm_line_given f) { seq = k })
    (Null ∷ firm_line_values (firm_line_given f)) (λ _. refl) (λ _. refl) refl _ _ (means l (statement.FirmLine f)) refl (listed l) refl (has_firm_line l) (λ e. omega (arith, e)) in
    grind (arith, ints, nat_tests, firm_lines_did)
did l old new st (statement.Exception e) r =
    let key = λ (x : Exception). x.id in
    let xs = exceptions_in l old.now.trees in
    let n : Exception = record (exception_given e) { id = next_key key xs } in
    exceptions_did l st (adds_or_not r (exception_place l) (exception_at l) st.exceptions (λ _. refl) refl refl (λ k. record (exception_given e) { id = k })
    (exception_values (exception_given e)) (λ _. refl) (λ _. refl) refl _ _ (means l (statement.Exception e)) refl refl refl refl (row_kept (exception_table l) (Int n.id) (exception_values n) refl refl)
    (is_exception n) (all_weaker (λ x. x.id <ℤ n.id) (λ x. conflicts None (book_schema l).indexes (exception_table l) (exception_row n) (exception_row x) ≡ is_exception n x)
    (λ x low. exception_meets l n x low) xs (below_next key xs st.exceptions.rise)))
did l old new st (statement.ExceptionGone e) r =
    let n = exception_given e in
    exceptions_did l st (deleted r (exception_place l) (exception_at l) st.exceptions (λ _. refl) refl refl _ (means l (statement.ExceptionGone e))
    (is_exception n) (λ x. then_term (at_ints false Eq x.day n.day) (then_term (at_texts false Eq x.reference n.reference)
    (then_term (at_texts false Eq x.bank_ref n.bank_ref) (then_term (at_ints false Eq x.amount n.amount) (last_term (at_texts false Eq x.text n.text)))))))
did l old new st (statement.Balance b) r =
    balances_did l st (adds r (balance_place l) (balance_at l) st.balances (λ _. refl) refl refl (λ k. record (balance_given b) { id = k })
    (balance_values (balance_given b)) (λ _. refl) (λ _. refl) refl _ _ (means l (statement.Balance b)) refl refl)
did l old new st (statement.SeatsGone m) r =
    seats_did l st (deleted r (seat_place l) (seat_at l) st.seats (λ _. refl) refl refl _ (means l (statement.SeatsGone m))
    (is_seat_of m) (λ x. last_term (at_ints false Eq x.matter m)))
did l old new st (statement.EntriesGone m) r =
    entries_did l st (deleted r (entry_place l) (entry_at l) st.entries (λ _. refl) refl refl _ (means l (statement.EntriesGone m))
    (is_entry_of m) (λ x. last_term (at_ints false Eq x.matter m)))
did l old new st (statement.MovementsGone m) r =
    movements_did l st (deleted r (journal_place l) (journal_at l) st.movements (λ _. refl) refl refl _ (means l (statement.MovementsGone m))
    (is_movement_of m) (λ x. last_term (at_ints false Eq x.matter m)))
did l old new st (statement.Act a) r =
    let it = counts r (act_place l) (act_at l) st.acts (λ _. refl) refl refl (λ k. record (act_given a) { seq = k })
    (Null ∷ act_values (act_given a)) (λ _. refl) (λ _. refl) refl _ _ (means l (statement.Act a)) refl (listed l) refl (has_act l) (not_sequence l) in
    grind (arith, ints, nat_tests, acts_did)
did l old new st (statement.ActsGone m) r =
    acts_did l st (deleted r (act_place l) (act_at l) st.acts (λ _. refl) refl refl _ (means l (statement.ActsGone m))
    (is_act_of m) (λ x. last_term (at_ints false Eq x.matter m)))
