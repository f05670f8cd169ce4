-- When a line is filled.
use Rattle.statement_match.proofs.Names.{◌≡◌, ℕ, Bool, true, false, not, cond, List, Option, Some, None, arith, count_by, find, and_parts, eqb-true, Line, Waiting, fits, Held, is_claimed, is_open, is_open_fit, LineOutcome, becomes, fill, filled_with, IsSure, FillsWhatIsSure, FillsWithWaiting, TwoEntriesAreLeft, TwoLinesAreLeft, ints, nat_tests, not-false, not-true}
use Rattle.statement_lines.specs.declared.line_outcome.LineOutcome.TheVariants as outcome
use Rattle.statement_match.proofs.Picks.{found_is_there, found_passes, is_the_one}

-- A choice that gave what one side cannot.

pub second_gave : {A : Type 0} (b : Bool) (x y z : A) → (x ≡ z → ⊥) → cond b x y ≡ z → (b ≡ false) × (y ≡ z)
second_gave b x y z not e = grind (arith, ints, nat_tests)

pub first_gave : {A : Type 0} (b : Bool) (x y z : A) → (y ≡ z → ⊥) → cond b x y ≡ z → (b ≡ true) × (x ≡ z)
first_gave b x y z not e = grind (arith, ints, nat_tests)

-- What becomes of a line, by its cases.

-- an entry was found and filled
filled_entry : (today : ℕ) (held : Held) (lines : List Line) (found : Option Waiting) (reference : List ℕ)
    → filled_with today held lines found ≡ outcome.Filled reference
    → (w : Waiting) × (found ≡ Some w) × (count_by (is_open_fit today w) lines ≡ 1)
    × (is_claimed lines w.reference ≡ false) × (reference ≡ w.reference)
filled_entry today held lines None reference e = absurd (cc)
filled_entry today held lines (Some w) reference e =
    grind (arith, ints, nat_tests, first_gave, and_parts, eqb-true, not-true)

-- the entry of which a filled line is sure
pub sure_of : (today : ℕ) (held : Held) (lines : List Line) (line : Line) (reference : List ℕ)
    → becomes today held lines line ≡ outcome.Filled reference
    → (w : Waiting) × IsSure today held lines line w × (reference ≡ w.reference)
unfolding becomes fill
sure_of today held lines line reference e =
    grind (arith, ints, nat_tests, second_gave, is_open, first_gave, and_parts, filled_entry, find, not-false, not-true, eqb-true)

-- a line that is sure of an entry is filled with it
pub filled_if_sure : (today : ℕ) (held : Held) (lines : List Line) (line : Line) (w : Waiting)
    → IsSure today held lines line w → becomes today held lines line ≡ outcome.Filled w.reference
unfolding becomes fill
filled_if_sure today held lines line w sure = grind (arith, ints, nat_tests)

pub fills_what_is_sure : FillsWhatIsSure
fills_what_is_sure today held lines line reference = grind (arith, ints, nat_tests, sure_of, filled_if_sure)

pub fills_with_waiting : FillsWithWaiting
fills_with_waiting today held lines line reference e =
    grind (arith, ints, nat_tests, sure_of, found_is_there, found_passes)

pub two_entries_are_left : TwoEntriesAreLeft
two_entries_are_left today held lines line reference two e = grind (arith, ints, nat_tests, sure_of)

pub two_lines_are_left : TwoLinesAreLeft
two_lines_are_left today held lines line reference w there fit two e =
    let found = sure_of today held lines line reference e in
    let same = is_the_one (fits today line) held.waiting found.0 w found.1.fits_one found.1.fits_it there fit in
    grind (arith, ints, nat_tests, count_by, is_open_fit)
