-- What is alike has one number.
use Rattle.statement_lines.proofs.Names.{◌≡◌, ℕ, ◌==◌, true, false, List, unsigned_abs, int_eq, bytes_eq, and_parts, eqb-true, eq-eqb, bytes_eq-Decides, Line, amount_key, booking_key, claim_key, line_key, text_key, waiting_key, is_named_like, is_open, is_open_fit, is_open_like, fits, Waiting, arith, refl}
use Rattle.statement_lines.specs.declared.booking.Booking.{Booking}
use Rattle.statement_lines.specs.Bookings.{booking_of, is_beside, is_same_booking}
use Rattle.statement_lines.proofs.Found.{Narrows}

beside_key : (a b : Booking) → is_beside a b ≡ true → (booking_key b == booking_key a) ≡ true
beside_key a b is = grind (arith, and_parts, eqb-true, bytes_eq-Decides, eq-eqb)

pub beside_narrows : (line : Line) → Narrows (is_beside (booking_of line)) (λ b. booking_key b == line_key line)
beside_narrows line b is = beside_key (booking_of line) b is

pub same_narrows : (line : Line) → Narrows (is_same_booking (booking_of line)) (λ b. booking_key b == line_key line)
same_narrows line b is =
    beside_key (booking_of line) b (and_parts (is_beside (booking_of line) b) (int_eq line.amount b.amount) is).0

pub line_beside_narrows : (line : Line)
    → Narrows (λ x. is_beside (booking_of line) (booking_of x)) (λ x. line_key x == line_key line)
line_beside_narrows line x is = beside_key (booking_of line) (booking_of x) is

pub open_like_narrows : (line : Line) → Narrows (is_open_like line) (λ x. line_key x == line_key line)
open_like_narrows line x is =
    same_narrows line (booking_of x) (and_parts (is_open x) (is_same_booking (booking_of line) (booking_of x)) is).1

pub named_like_narrows : (line : Line) → Narrows (is_named_like line) (λ x. line_key x == line_key line)
named_like_narrows line x is =
    let alike : is_same_booking (booking_of line) (booking_of x) ≡ true = grind (arith, is) in
    same_narrows line (booking_of x) alike

-- a line has the amount of an entry that it fits
fit_key : (today : ℕ) (line : Line) (w : Waiting) → fits today line w ≡ true → line.amount ≡ w.amount
unfolding fits
fit_key today line w is = grind (arith, int_eq)

pub fits_narrows : (today : ℕ) (line : Line) → Narrows (fits today line) (λ w. waiting_key w == amount_key line)
fits_narrows today line w is = grind (arith, eq-eqb, unsigned_abs, fit_key)

pub open_fit_narrows : (today : ℕ) (w : Waiting) → Narrows (is_open_fit today w) (λ x. amount_key x == waiting_key w)
open_fit_narrows today w x is = grind (arith, eq-eqb, unsigned_abs, fit_key, and_parts)

pub claims_narrows : (reference : List ℕ)
    → Narrows (λ x. bytes_eq x.reference reference) (λ x. claim_key x == text_key 0 reference)
claims_narrows reference x is = grind (arith, eq-eqb, bytes_eq-Decides)
