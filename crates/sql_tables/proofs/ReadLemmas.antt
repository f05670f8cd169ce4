-- What the queries mean over the lists.
use Rattle.sql_tables.proofs.Names.{◌≡◌, ℤ, true, false, List, [], ◌∷◌, map, filter, take, map-id, refl, sym, ap, ◌∙◌, on, int_cmp, Int, Row, value_cmp-Int, value_cmp-Text, Eq, Gt, IsAnswer, overlay, sort_by, at_end, last_table, answer_by_keys, answer_sorted, no_tie, no_tie_after, at_ints, then_term, last_term, then_key, last_key, Database, Layout, matter_tree, seat_tree, entry_tree, journal_tree, firm_line_tree, exception_tree, balance_tree, head_read_query, next_head_query, head_scan_query, seats_read_query, entry_read_query, entries_read_query, balance_read_query, journal_scan_query, firm_scan_query, exception_scan_query, balance_scan_query, text_cmp, Head, head_row, head_shown, next_shown, no_shown, heads_in, is_head, is_past, Seat, seat_row, seat_cmp, seat_shown, seats_in, seats_of, is_seat_of, Entry, entry_row, entry_cmp, numbered_shown, entries_in, entries_of, is_entry_of, is_entry_at, Movement, movement_row, movement_values, movements_in, FirmLine, firm_line_row, firm_line_values, firm_lines_in, Exception, exception_row, exception_cmp, exception_values, exceptions_in, Balance, balance_row, balance_cmp, balance_shown, balance_values, balances_in, is_balance_at, Stands}
use Rattle.std.specs.Prelude.{not, pos}
use Rattle.sqlite_sql.specs.declared.ops.CompareOp.TheVariants.{Ne}
use Rattle.sql_schema.specs.Schema.{act_tree}
use Rattle.sql_tables.specs.Rows.{Act, act_row, act_values, acts_among, acts_in, dismissals_among, is_act_of}
use Rattle.sql_tables.specs.Texts.{act_scan_query, acts_read_query, dismissal_scan_query}
use Rattle.sql_tables.proofs.Calls.{no_lets}
use Rattle.sql_tables.proofs.Kept.{all_kept}

pub head_read_answer : (l : Layout) (now : Database) (n : ℤ) → Stands l now → (rows : List Row) → IsAnswer (head_read_query l) (overlay now.trees []) (Int n ∷ []) rows → rows ≡ map head_shown (filter (is_head n) (heads_in l now.trees))
head_read_answer l now n s rows answer =
    let source = last_table (overlay now.trees []) (matter_tree l) head_row (λ (x : Head). x.no) (heads_in l now.trees) (no_lets now.trees _ ∙ s.heads.stored) s.heads.rise (at_end (overlay now.trees [])) in
    sym (map-id rows) ∙ answer_by_keys (head_read_query l) (overlay now.trees []) (Int n ∷ []) source (is_head n) (λ x. last_term (at_ints false Eq x.no n)) (λ (r : Row). r) head_shown (λ x. refl) refl refl (λ a b. last_key (value_cmp-Int a.no b.no)) rows answer

pub next_head_answer : (l : Layout) (now : Database) (n : ℤ) → Stands l now → (rows : List Row) → IsAnswer (next_head_query l) (overlay now.trees []) (Int n ∷ []) rows → rows ≡ take 1 (map next_shown (filter (is_past n) (heads_in l now.trees)))
next_head_answer l now n s rows answer =
    let source = last_table (overlay now.trees []) (matter_tree l) head_row (λ (x : Head). x.no) (heads_in l now.trees) (no_lets now.trees _ ∙ s.heads.stored) s.heads.rise (at_end (overlay now.trees [])) in
    sym (map-id rows) ∙ answer_by_keys (next_head_query l) (overlay now.trees []) (Int n ∷ []) source (is_past n) (λ x. last_term (at_ints false Gt x.no n)) (λ (r : Row). r) next_shown (λ x. refl) refl refl (λ a b. last_key (value_cmp-Int a.no b.no)) rows answer

pub entry_read_answer : (l : Layout) (now : Database) (m : ℤ) (n : ℤ) → Stands l now → (rows : List Row) → IsAnswer (entry_read_query l) (overlay now.trees []) (Int m ∷ Int n ∷ []) rows → rows ≡ map numbered_shown (filter (is_entry_at m n) (entries_in l now.trees))
entry_read_answer l now m n s rows answer =
    let source = last_table (overlay now.trees []) (entry_tree l) entry_row (λ (x : Entry). x.id) (entries_in l now.trees) (no_lets now.trees _ ∙ s.entries.stored) s.entries.rise (at_end (overlay now.trees [])) in
    sym (map-id rows) ∙ answer_by_keys (entry_read_query l) (overlay now.trees []) (Int m ∷ Int n ∷ []) source (is_entry_at m n) (λ x. then_term (at_ints false Eq x.matter m) (last_term (at_ints false Eq x.no n))) (λ (r : Row). r) numbered_shown (λ x. refl) refl refl (λ a b. last_key (value_cmp-Int a.id b.id)) rows answer

pub balance_read_answer : (l : Layout) (now : Database) (k : ℤ) (d : ℤ) → Stands l now → (rows : List Row) → IsAnswer (balance_read_query l) (overlay now.trees []) (Int k ∷ Int d ∷ []) rows → rows ≡ map balance_shown (filter (is_balance_at k d) (balances_in l now.trees))
balance_read_answer l now k d s rows answer =
    let source = last_table (overlay now.trees []) (balance_tree l) balance_row (λ (x : Balance). x.id) (balances_in l now.trees) (no_lets now.trees _ ∙ s.balances.stored) s.balances.rise (at_end (overlay now.trees [])) in
    sym (map-id rows) ∙ answer_by_keys (balance_read_query l) (overlay now.trees []) (Int k ∷ Int d ∷ []) source (is_balance_at k d) (λ x. then_term (at_ints false Eq x.kind k) (last_term (at_ints false Eq x.day d))) (λ (r : Row). r) balance_shown (λ x. refl) refl refl (λ a b. last_key (value_cmp-Int a.id b.id)) rows answer

pub seats_read_answer : (l : Layout) (now : Database) (m : ℤ) → Stands l now → (rows : List Row) → IsAnswer (seats_read_query l) (overlay now.trees []) (Int m ∷ []) rows → rows ≡ map seat_shown (seats_of m (seats_in l now.trees))
seats_read_answer l now m s rows answer =
    let source = last_table (overlay now.trees []) (seat_tree l) seat_row (λ (x : Seat). x.id) (seats_in l now.trees) (no_lets now.trees _ ∙ s.seats.stored) s.seats.rise (at_end (overlay now.trees [])) in
    sym (map-id rows) ∙ answer_sorted (seats_read_query l) (overlay now.trees []) (Int m ∷ []) source (is_seat_of m) (λ x. last_term (at_ints false Eq x.matter m)) (λ (r : Row). r) seat_shown (λ x. refl) refl refl seat_cmp
    (λ a b h. no_tie_after _ (no_tie h)) (λ a b. then_key (value_cmp-Text a.person b.person) (last_key (value_cmp-Int a.id b.id))) rows answer

pub entries_read_answer : (l : Layout) (now : Database) (m : ℤ) → Stands l now → (rows : List Row) → IsAnswer (entries_read_query l) (overlay now.trees []) (Int m ∷ []) rows → rows ≡ map numbered_shown (entries_of m (entries_in l now.trees))
entries_read_answer l now m s rows answer =
    let source = last_table (overlay now.trees []) (entry_tree l) entry_row (λ (x : Entry). x.id) (entries_in l now.trees) (no_lets now.trees _ ∙ s.entries.stored) s.entries.rise (at_end (overlay now.trees [])) in
    sym (map-id rows) ∙ answer_sorted (entries_read_query l) (overlay now.trees []) (Int m ∷ []) source (is_entry_of m) (λ x. last_term (at_ints false Eq x.matter m)) (λ (r : Row). r) numbered_shown (λ x. refl) refl refl entry_cmp
    (λ a b h. no_tie_after _ (no_tie h)) (λ a b. then_key (value_cmp-Int a.no b.no) (last_key (value_cmp-Int a.id b.id))) rows answer

pub head_scan_answer : (l : Layout) (now : Database) → Stands l now → (rows : List Row) → IsAnswer (head_scan_query l) (overlay now.trees []) [] rows → rows ≡ map no_shown (heads_in l now.trees)
head_scan_answer l now s rows answer =
    let source = last_table (overlay now.trees []) (matter_tree l) head_row (λ (x : Head). x.no) (heads_in l now.trees) (no_lets now.trees _ ∙ s.heads.stored) s.heads.rise (at_end (overlay now.trees [])) in
    sym (map-id rows) ∙ answer_by_keys (head_scan_query l) (overlay now.trees []) [] source (λ _. true) (λ x. refl) (λ (r : Row). r) no_shown (λ x. refl) refl refl (λ a b. last_key (value_cmp-Int a.no b.no)) rows answer ∙ ap (map no_shown) (all_kept (heads_in l now.trees))

pub journal_scan_answer : (l : Layout) (now : Database) → Stands l now → (rows : List Row) → IsAnswer (journal_scan_query l) (overlay now.trees []) [] rows → rows ≡ map movement_values (movements_in l now.trees)
journal_scan_answer l now s rows answer =
    let source = last_table (overlay now.trees []) (journal_tree l) movement_row (λ (x : Movement). x.seq) (movements_in l now.trees) (no_lets now.trees _ ∙ s.movements.stored) s.movements.rise (at_end (overlay now.trees [])) in
    sym (map-id rows) ∙ answer_by_keys (journal_scan_query l) (overlay now.trees []) [] source (λ _. true) (λ x. refl) (λ (r : Row). r) movement_values (λ x. refl) refl refl (λ a b. last_key (value_cmp-Int a.seq b.seq)) rows answer ∙ ap (map movement_values) (all_kept (movements_in l now.trees))

pub firm_scan_answer : (l : Layout) (now : Database) → Stands l now → (rows : List Row) → IsAnswer (firm_scan_query l) (overlay now.trees []) [] rows → rows ≡ map firm_line_values (firm_lines_in l now.trees)
firm_scan_answer l now s rows answer =
    let source = last_table (overlay now.trees []) (firm_line_tree l) firm_line_row (λ (x : FirmLine). x.seq) (firm_lines_in l now.trees) (no_lets now.trees _ ∙ s.firm_lines.stored) s.firm_lines.rise (at_end (overlay now.trees [])) in
    sym (map-id rows) ∙ answer_by_keys (firm_scan_query l) (overlay now.trees []) [] source (λ _. true) (λ x. refl) (λ (r : Row). r) firm_line_values (λ x. refl) refl refl (λ a b. last_key (value_cmp-Int a.seq b.seq)) rows answer ∙ ap (map firm_line_values) (all_kept (firm_lines_in l now.trees))

pub act_scan_answer : (l : Layout) (now : Database) → Stands l now → (rows : List Row) → IsAnswer (act_scan_query l) (overlay now.trees []) [] rows → rows ≡ map act_values (acts_among (acts_in l now.trees))
act_scan_answer l now s rows answer =
    let source = last_table (overlay now.trees []) (act_tree l) act_row (λ (x : Act). x.seq) (acts_in l now.trees) (no_lets now.trees _ ∙ s.acts.stored) s.acts.rise (at_end (overlay now.trees [])) in
    sym (map-id rows) ∙ answer_by_keys (act_scan_query l) (overlay now.trees []) [] source (λ x. not (is_act_of (pos 0) x)) (λ x. last_term (at_ints false Ne x.matter (pos 0))) (λ (r : Row). r) act_values (λ x. refl) refl refl (λ a b. last_key (value_cmp-Int a.seq b.seq)) rows answer

pub dismissal_scan_answer : (l : Layout) (now : Database) → Stands l now → (rows : List Row) → IsAnswer (dismissal_scan_query l) (overlay now.trees []) [] rows → rows ≡ map act_values (dismissals_among (acts_in l now.trees))
dismissal_scan_answer l now s rows answer =
    let source = last_table (overlay now.trees []) (act_tree l) act_row (λ (x : Act). x.seq) (acts_in l now.trees) (no_lets now.trees _ ∙ s.acts.stored) s.acts.rise (at_end (overlay now.trees [])) in
    sym (map-id rows) ∙ answer_by_keys (dismissal_scan_query l) (overlay now.trees []) [] source (is_act_of (pos 0)) (λ x. last_term (at_ints false Eq x.matter (pos 0))) (λ (r : Row). r) act_values (λ x. refl) refl refl (λ a b. last_key (value_cmp-Int a.seq b.seq)) rows answer

pub acts_read_answer : (l : Layout) (now : Database) (m : ℤ) → Stands l now → (rows : List Row) → IsAnswer (acts_read_query l) (overlay now.trees []) (Int m ∷ []) rows → rows ≡ map act_values (filter (is_act_of m) (acts_in l now.trees))
acts_read_answer l now m s rows answer =
    let source = last_table (overlay now.trees []) (act_tree l) act_row (λ (x : Act). x.seq) (acts_in l now.trees) (no_lets now.trees _ ∙ s.acts.stored) s.acts.rise (at_end (overlay now.trees [])) in
    sym (map-id rows) ∙ answer_by_keys (acts_read_query l) (overlay now.trees []) (Int m ∷ []) source (is_act_of m) (λ x. last_term (at_ints false Eq x.matter m)) (λ (r : Row). r) act_values (λ x. refl) refl refl (λ a b. last_key (value_cmp-Int a.seq b.seq)) rows answer

pub exception_scan_answer : (l : Layout) (now : Database) → Stands l now → (rows : List Row) → IsAnswer (exception_scan_query l) (overlay now.trees []) [] rows → rows ≡ map exception_values (sort_by exception_cmp (exceptions_in l now.trees))
exception_scan_answer l now s rows answer =
    let source = last_table (overlay now.trees []) (exception_tree l) exception_row (λ (x : Exception). x.id) (exceptions_in l now.trees) (no_lets now.trees _ ∙ s.exceptions.stored) s.exceptions.rise (at_end (overlay now.trees [])) in
    sym (map-id rows) ∙ answer_sorted (exception_scan_query l) (overlay now.trees []) [] source (λ _. true) (λ x. refl) (λ (r : Row). r) exception_values (λ x. refl) refl refl exception_cmp
    (λ a b h. no_tie_after (on (λ (e : Exception). e.day) int_cmp a b) (no_tie_after (on (λ (e : Exception). e.reference) text_cmp a b) (no_tie_after (on (λ (e : Exception). e.bank_ref) text_cmp a b)
    (no_tie_after (on (λ (e : Exception). e.amount) int_cmp a b) (no_tie_after (on (λ (e : Exception). e.text) text_cmp a b) (no_tie h)))))) (λ a b. then_key (value_cmp-Int a.day b.day) (then_key (value_cmp-Text a.reference b.reference) (then_key (value_cmp-Text a.bank_ref b.bank_ref) (then_key (value_cmp-Int a.amount b.amount) (then_key (value_cmp-Text a.text b.text) (last_key (value_cmp-Int a.id b.id))))))) rows answer ∙ ap (λ l. map exception_values (sort_by exception_cmp l)) (all_kept (exceptions_in l now.trees))

pub balance_scan_answer : (l : Layout) (now : Database) → Stands l now → (rows : List Row) → IsAnswer (balance_scan_query l) (overlay now.trees []) [] rows → rows ≡ map balance_values (sort_by balance_cmp (balances_in l now.trees))
balance_scan_answer l now s rows answer =
    let source = last_table (overlay now.trees []) (balance_tree l) balance_row (λ (x : Balance). x.id) (balances_in l now.trees) (no_lets now.trees _ ∙ s.balances.stored) s.balances.rise (at_end (overlay now.trees [])) in
    sym (map-id rows) ∙ answer_sorted (balance_scan_query l) (overlay now.trees []) [] source (λ _. true) (λ x. refl) (λ (r : Row). r) balance_values (λ x. refl) refl refl balance_cmp
    (λ a b h. no_tie_after _ (no_tie_after _ (no_tie h))) (λ a b. then_key (value_cmp-Int a.kind b.kind) (then_key (value_cmp-Int a.day b.day) (last_key (value_cmp-Int a.id b.id)))) rows answer ∙ ap (λ l. map balance_values (sort_by balance_cmp l)) (all_kept (balances_in l now.trees))
