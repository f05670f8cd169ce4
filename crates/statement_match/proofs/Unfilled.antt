-- Lines that are not filled, and lines that are sure over another book.
use Rattle.statement_match.proofs.Names.{◌≡◌, ◌≢◌, ◌∙◌, sym, ap, ℕ, true, false, List, [], ◌∷◌, length, get_or, refl, arith, nat_lt, Contains, count_by, filter, find, list_any, int_eq, and_from, and_left, and_right, eq-eqb, false_from_ne_true, lt-leb, or_from, or_parts, get_or_default, length-filter, bytes_eq-Decides, Line, Booking, booking_of, is_beside, is_same_booking, Waiting, fits, Held, is_open, is_open_fit, is_open_like, becomes, is_beside_booked, is_doubled, is_in_book, IsSure, ints, nat_tests, ltb-false, find_among}
use Rattle.statement_lines.specs.declared.line_outcome.LineOutcome.TheVariants as outcome
use Rattle.statement_match.proofs.Filling.{filled_if_sure}
use Rattle.statement_match.proofs.Picks.{any_counted, found_passes, is_counted, one_place}

-- What another line is filled with.

-- a line that is open and not filled fits no entry with which another is filled
pub fits_none : (today : ℕ) (held : Held) (lines : List Line) (line other : Line) (w : Waiting) → Contains lines line
    → is_open line ≡ true → ((r : List ℕ) → becomes today held lines line ≢ outcome.Filled r) → Contains lines other
    → IsSure today held lines other w → fits today line w ≡ false
fits_none today held lines line other w (i, i_in, i_is) opened unfilled (k, k_in, k_is) sure =
    false_from_ne_true (fits today line w) (λ fit.
    let passes = is_open_fit today w in
    let k_at : get_or lines k line ≡ other = get_or_default lines k line other k_in ∙ k_is in
    let fit_i : passes (get_or lines i line) ≡ true =
    ap passes i_is ∙ and_from (is_open line) (fits today line w) opened fit in
    let fit_k : passes (get_or lines k line) ≡ true =
    ap passes k_at ∙ and_from (is_open other) (fits today other w) sure.nameless
    (found_passes (fits today other) held.waiting w sure.fits_it) in
    let same = one_place passes lines i k line sure.fitted_once i_in k_in fit_i fit_k in
    let one : line ≡ other = sym i_is ∙ ap (λ j. get_or lines j line) same ∙ k_at in
    unfilled w.reference (ap (becomes today held lines) one ∙ filled_if_sure today held lines other w sure))

-- Where no line of the book is beside it.

none_like : (a : Booking) (bookings : List Booking) → list_any (is_beside a) bookings ≡ false
    → list_any (is_same_booking a) bookings ≡ false
none_like a [] e = refl
none_like a (b ∷ bookings) e =
    let parts = or_parts (is_beside a b) (list_any (is_beside a) bookings) e in
    or_from (is_same_booking a b) (list_any (is_same_booking a) bookings)
    (and_left (is_beside a b) (int_eq a.amount b.amount) parts.0) (none_like a bookings parts.1)

like_itself : (line : Line) → is_open line ≡ true → is_open_like line line ≡ true
like_itself line opened = grind (arith, ints, nat_tests, eq-eqb, bytes_eq-Decides, and_from)

-- an open line of the statement is not in a book that has none beside it
not_in_book : (held : Held) (lines : List Line) (line : Line) → Contains lines line → is_open line ≡ true
    → is_beside_booked held line ≡ false → is_in_book held lines line ≡ false
unfolding is_in_book
not_in_book held lines line there opened apart =
    let like = is_open_like line in
    let same = is_same_booking (booking_of line) in
    let some = is_counted like lines line there (like_itself line opened) in
    let none = ltb-false 0 (count_by same held.bookings)
    (any_counted same held.bookings ∙ none_like (booking_of line) held.bookings apart) in
    grind (arith, ints, nat_tests, or_from, lt-leb, and_left, and_right)

not_doubled : (held new : Held) (lines : List Line) (line : Line) → is_beside_booked held line ≡ false
    → is_doubled new lines line ≡ false → is_doubled held lines line ≡ false
unfolding is_doubled
not_doubled held new lines line apart single =
    or_from _ _ (or_parts (nat_lt 1 (count_by (is_open_like line) lines)) _ single).0
    (none_like (booking_of line) held.bookings apart)

-- Another book.

-- a line that is sure of an entry over one book is so over another, where what it fits waits in the order of the one,
-- and no line of that book is beside it
pub sure_before : (today : ℕ) (held new : Held) (lines : List Line) (line : Line) (w : Waiting) → Contains lines line
    → filter (fits today line) new.waiting ≡ filter (fits today line) held.waiting
    → is_beside_booked held line ≡ false → IsSure today new lines line w → IsSure today held lines line w
sure_before today held new lines line w there same apart sure =
    let p = fits today line in
    record {
      nameless = sure.nameless;
      new = not_in_book held lines line there sure.nameless apart;
      single = not_doubled held new lines line apart sure.single;
      apart = apart;
      fits_one = sym (length-filter p held.waiting) ∙ ap length (sym same) ∙ length-filter p new.waiting
          ∙ sure.fits_one;
      fits_it = sym (find_among p p (λ w is. is) held.waiting) ∙ ap (find p) (sym same)
          ∙ find_among p p (λ w is. is) new.waiting ∙ sure.fits_it;
      fitted_once = sure.fitted_once;
      unclaimed = sure.unclaimed;
    }
