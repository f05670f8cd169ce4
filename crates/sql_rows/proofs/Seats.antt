-- The seats of a matter by person, after one is added or given up, and after all are gone.
use Rattle.sql_rows.proofs.Names.{◌≡◌, ℕ, ℤ, pos, ◌<ℤ◌, false, not, List, [], ◌∷◌, ◌++◌, map, filter, find, None, refl, sym, ap, ◌∙◌, Ordering, is_eq, AllByRecursion, IsTotalOrder, int_cmp_total, nat_list_cmp_total, on_total, then_total, filter-append, IsKeyedBy, next_key, sort_by, delete_where, all_of, ascending-filter, IsPermutation-sort_by, Seat, role_in, seats_with, seats_without, seat_cmp, text_cmp, seats_of, is_seat, is_seat_of, add_seat, same_text, seat_columns, role_column, seat_from, role_from, IsWrittenSeat, HasHeadAt, arith, all-permutation}
use Rattle.std.specs.Str.{bytes_eq}
use Rattle.std.proofs.lemmas.Map.Text.{is_eq-slice_cmp}
use Rattle.matter_rows.specs.declared.seat.Role.{Role}
use Rattle.matter_rows.proofs.Seating.{no-seat}
use Rattle.sql_tables.specs.Rows as table
use Rattle.sql_rows.proofs.KeyedRows.{filter-delete_both, filter-delete_where, int_eq-itself, none_of, off_first}
use Rattle.sql_rows.proofs.Placed.{SeatsPlaced, placed_added, placed_left}
use Rattle.sql_rows.proofs.RowOrder.{read-filter, read-push}

-- the rowid
abbrev pub key : table.Seat → ℤ
key s = s.id

seat_total : IsTotalOrder seat_cmp
seat_total = then_total (on_total (λ (s : table.Seat). s.person) nat_list_cmp_total)
    (on_total (λ (s : table.Seat). s.id) int_cmp_total)

-- The columns of a seat give it back, whatever its number.

pub role_back : (r : Role) → role_from (role_column r) ≡ r
role_back r = grind arith

seat_back : (m : ℕ) (s : Seat) (id : ℤ) → seat_from (record (seat_columns m s) { id = id }) ≡ s
seat_back m s id = λ i. record { person = s.person; role = role_back s.role i }

-- The order of the rows is that of persons, and then that of the rowids.

abbrev by_person : Seat → Seat → Ordering
by_person a b = text_cmp a.person b.person

person_total : IsTotalOrder by_person
person_total = on_total (λ (s : Seat). s.person) nat_list_cmp_total

abbrev IsAny : table.Seat → Type 0
IsAny s = Unit {0}

any_seats : (seats : List table.Seat) → AllByRecursion IsAny seats
any_seats seats = all_of IsAny (λ _. tt) seats

keyed_of : (k : ℤ) (seats : List table.Seat) → IsKeyedBy key seats → IsKeyedBy key (filter (is_seat_of k) seats)
keyed_of k seats up = ascending-filter (λ (a b : table.Seat). a.id <ℤ b.id) (is_seat_of k) seats up

-- One that is added.

abbrev new_seat : ℕ → Seat → List table.Seat → table.Seat
new_seat m s seats = record (seat_columns m s) { id = next_key key seats }

-- who has no seat ties with none
untied_with : (p : List ℕ) (ys : List table.Seat) → role_in (map seat_from ys) p ≡ None
    → AllByRecursion (λ y. is_eq (text_cmp y.person p) ≡ false) ys
untied_with p [] none = tt
untied_with p (y ∷ ys) none =
    let apart = no-seat (seat_from y) (map seat_from ys) p none in
    (is_eq-slice_cmp y.person p ∙ apart.0, untied_with p ys apart.1)

-- the seats of the matter, with it in its place by person
pub seats_added : (m : ℕ) (s : Seat) (seats : List table.Seat) → IsKeyedBy key seats
    → role_in (map seat_from (seats_of (pos m) seats)) s.person ≡ None
    → map seat_from (seats_of (pos m) (add_seat (seat_columns m s) seats))
    ≡ seats_with (map seat_from (seats_of (pos m) seats)) s
seats_added m s seats up none =
    let new = new_seat m s seats in
    let xs = filter (is_seat_of (pos m)) seats in
    let own : filter (is_seat_of (pos m)) (add_seat (seat_columns m s) seats) ≡ xs ++ new ∷ [] =
    filter-append (is_seat_of (pos m)) seats (new ∷ []) ∙ ap (λ l. xs ++ l) (rw (int_eq-itself (pos m)) refl) in
    let apart = all-permutation _ _ xs (IsPermutation-sort_by seat_cmp seat_total xs)
    (untied_with s.person (seats_of (pos m) seats) none) in
    ap (λ l. map seat_from (sort_by seat_cmp l)) own
    ∙ read-push key seat_cmp seat_total by_person person_total seat_from IsAny (λ a b _ _. refl) xs new
    (keyed_of (pos m) seats up) (any_seats xs) tt apart
    ∙ ap (seats_with (map seat_from (seats_of (pos m) seats))) (seat_back m s new.id)

pub placed_seat_added : (m : ℕ) (s : Seat) (seats : List table.Seat) → AllByRecursion IsWrittenSeat seats
    → SeatsPlaced m seats (add_seat (seat_columns m s) seats)
placed_seat_added m s seats written =
    placed_added (λ (x : table.Seat). x.matter) seat_cmp IsWrittenSeat m seats written (new_seat m s seats) refl
    (sym (ap (seat_columns m) (seat_back m s (next_key key seats))))

-- One that is given up.

-- the seats of the matter, without that of the person
pub seats_left : (m : ℕ) (p : List ℕ) (seats : List table.Seat) → IsKeyedBy key seats
    → map seat_from (seats_of (pos m) (delete_where (is_seat (pos m) p) seats))
    ≡ seats_without (map seat_from (seats_of (pos m) seats)) p
seats_left m p seats up =
    let xs = filter (is_seat_of (pos m)) seats in
    ap (λ l. map seat_from (sort_by seat_cmp l))
    (filter-delete_both (is_seat_of (pos m)) (λ (s : table.Seat). same_text s.person p) seats)
    ∙ read-filter key seat_cmp seat_total by_person person_total seat_from IsAny (λ a b _ _. refl)
    (λ s. not (same_text s.person p)) (λ s. not (bytes_eq s.person p)) xs (keyed_of (pos m) seats up) (any_seats xs)
    (all_of _ (λ s. ap not (is_eq-slice_cmp s.person p)) xs)

pub placed_seat_left : (m : ℕ) (p : List ℕ) (seats : List table.Seat) → AllByRecursion IsWrittenSeat seats
    → SeatsPlaced m seats (delete_where (is_seat (pos m) p) seats)
placed_seat_left m p seats written =
    placed_left (λ (x : table.Seat). x.matter) seat_cmp IsWrittenSeat m seats written (is_seat (pos m) p)
    (λ s off. off_first _ _ off)

-- All that are gone.

-- none is left of the matter
pub seats_gone : (m : ℤ) (seats : List table.Seat) → seats_of m (delete_where (is_seat_of m) seats) ≡ []
seats_gone m seats = ap (sort_by seat_cmp) (filter-delete_where (is_seat_of m) seats)

pub placed_seats_gone : (m : ℕ) (seats : List table.Seat) → AllByRecursion IsWrittenSeat seats
    → SeatsPlaced m seats (delete_where (is_seat_of (pos m)) seats)
placed_seats_gone m seats written =
    placed_left (λ (x : table.Seat). x.matter) seat_cmp IsWrittenSeat m seats written (is_seat_of (pos m)) (λ s off. off)

-- a matter without a head has no seat
pub no_seats : (heads : List table.Head) (k : ℤ) (seats : List table.Seat) → find (table.is_head k) heads ≡ None
    → AllByRecursion (λ (s : table.Seat). HasHeadAt heads s.matter) seats → seats_of k seats ≡ []
no_seats heads k seats none all = ap (sort_by seat_cmp) (none_of (λ (s : table.Seat). s.matter) heads k seats none all)
