-- What becomes of a line where less is held.
use Rattle.statement_match.proofs.Names.{◌≡◌, ℕ, zero, suc, ◌≤◌, Bool, true, false, cond, List, arith, nat_lt, Contains, count_by, list_any, and_left, and_right, leb-false, lt-leb, or_from, or_parts, Line, booking_of, is_beside, is_same_booking, Waiting, fits, Held, is_claimed, is_open_like, find_has, later, is_beside_booked, is_doubled, is_in_book, HasLess, IsPart, IsSure, MoreOnlyTakesAway, NoneOf, With, Without, ints, nat_tests, sum_by-cons}
use Rattle.statement_lines.specs.declared.line_outcome.LineOutcome.TheVariants as outcome
use Rattle.statement_match.proofs.Filling.{filled_if_sure, sure_of}
use Rattle.statement_match.proofs.Picks.{found_is_there, found_passes, is_counted, is_the_one}

-- A part of a list.

part_count : {A : Type 0} (p : A → Bool) (some all : List A) → IsPart some all → count_by p some ≤ count_by p all
part_count p _ _ NoneOf = omega arith
part_count p _ _ (With x some all rest) =
    omega (
      arith,
      sum_by-cons (λ y. cond (p y) 1 0) x some,
      sum_by-cons (λ y. cond (p y) 1 0) x all,
      part_count p some all rest,
    )
part_count p _ _ (Without x some all rest) =
    omega (arith, sum_by-cons (λ y. cond (p y) 1 0) x all, part_count p some all rest)

part_any : {A : Type 0} (p : A → Bool) (some all : List A) → IsPart some all → list_any p all ≡ false
    → list_any p some ≡ false
part_any p _ _ NoneOf e = e
part_any p _ _ (With x some all rest) e =
    let parts = or_parts (p x) (list_any p all) e in
    or_from (p x) (list_any p some) parts.0 (part_any p some all rest parts.1)
part_any p _ _ (Without x some all rest) e =
    part_any p some all rest (or_parts (p x) (list_any p all) e).1

pub part_has : {A : Type 0} (some all : List A) (y : A) → IsPart some all → Contains some y → Contains all y
part_has _ _ y NoneOf there = there
part_has _ _ y (With x some all rest) (zero, lt, is) = (zero, omega arith, is)
part_has _ _ y (With x some all rest) (suc k, lt, is) =
    later x y all (part_has some all y rest (k, omega arith, is))
part_has _ _ y (Without x some all rest) there = later x y all (part_has some all y rest there)

-- The cases of a line.

less_new : (less more : Held) (lines : List Line) (line : Line) → IsPart less.bookings more.bookings
    → is_beside_booked less line ≡ false → is_in_book more lines line ≡ false → is_in_book less lines line ≡ false
unfolding is_in_book
less_new less more lines line part apart new =
    grind (arith, ints, nat_tests, or_parts, leb-false, part_count, or_from, lt-leb, and_left, and_right)

less_single : (less more : Held) (lines : List Line) (line : Line) → IsPart less.bookings more.bookings
    → is_doubled more lines line ≡ false → is_doubled less lines line ≡ false
unfolding is_doubled
less_single less more lines line part single =
    let parts = or_parts (nat_lt 1 (count_by (is_open_like line) lines)) _ single in
    or_from _ _ parts.0 (part_any (is_same_booking (booking_of line)) less.bookings more.bookings part parts.1)

-- a line that is sure of an entry is sure of it where less is held, if it fits one there
less_sure : (today : ℕ) (less more : Held) (lines : List Line) (line : Line) (w v : Waiting)
    → HasLess less more → Contains less.waiting w → fits today line w ≡ true
    → IsSure today more lines line v → IsSure today less lines line v
less_sure today less more lines line w v part there fit sure =
    let apart = part_any (is_beside (booking_of line)) less.bookings more.bookings part.bookings sure.apart in
    let few = part_count (fits today line) less.waiting more.waiting part.waiting in
    let one = sure.fits_one in
    let shown = is_counted (fits today line) less.waiting w there fit in
    let found = find_has (fits today line) less.waiting w there fit in
    let same = is_the_one (fits today line) more.waiting v found.0 sure.fits_one sure.fits_it
    (part_has less.waiting more.waiting found.0 part.waiting
    (found_is_there (fits today line) less.waiting found.0 found.1))
    (found_passes (fits today line) less.waiting found.0 found.1) in
    grind (arith, ints, nat_tests, less_new, less_single, is_claimed)

pub more_only_takes_away : MoreOnlyTakesAway
more_only_takes_away today less more lines line reference w part there fit e =
    grind (arith, ints, nat_tests, sure_of, filled_if_sure, less_sure)
