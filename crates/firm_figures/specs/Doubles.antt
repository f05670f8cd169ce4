-- DOUBLE: payments with the same instrument as another payment.
use Rattle.std.specs.Prelude.{ℕ, Bool, not, ◌&&◌, nat_lt, cond, List, [], ◌∷◌, ◌++◌, length, Option, Some, None}
use Rattle.std.specs.List.{filter, flat_map}
use Rattle.firm_figures.specs.declared.day_lists.Issued.{Issued}
use Rattle.std.specs.declared.cmp.Ordering.{Ordering}
use Rattle.std.specs.Ordering.{is_lt, nat_cmp, ordering_then}
use Rattle.std.specs.Cmp.Lexicographic.{slice_cmp}
use Rattle.std.specs.Str.{bytes_eq}
use Rattle.matter_rows.specs.declared.entry.Entry.{Entry}
use Rattle.matter_rows.specs.declared.entry.Entry.TheVariants as entry
use Rattle.matter_rows.specs.Clearings.{cleared_amount}
use Rattle.firm_rows.specs.Firm.{Row, HeadRow, SeatRow, EntryRow, Firm}
use Rattle.firm_figures.specs.Figures.{is_by, booked_on, undone_on, is_payment}

abbrev pub instrument_of : Entry → List ℕ
instrument_of (entry.Deposit d) = []
instrument_of (entry.Payment p) = p.instrument
instrument_of (entry.Fee f) = []
instrument_of (entry.Claim c) = []

abbrev pub issued_line : ℕ → ℕ → Option ℕ → Entry → List Issued
issued_line m n None e = []
issued_line m n (Some day) e = record {
  matter = m;
  entry = n;
  day = day;
  amount = cleared_amount e;
  instrument = instrument_of e;
} ∷ []

-- a payment issued on or before day p, and not voided by then
abbrev pub is_issued_by : ℕ → Entry → Bool
is_issued_by p e = is_payment e && (is_by p (booked_on e) && not (is_by p (undone_on e)))

abbrev pub issued_in : ℕ → ℕ × Row → List Issued
issued_in p (m, HeadRow head) = []
issued_in p (m, SeatRow seat) = []
issued_in p (m, EntryRow n e) = cond (is_issued_by p e) (issued_line m n (booked_on e) e) []

-- the payments issued on or before day p, and not voided by then
abbrev pub issued_list : ℕ → Firm → List Issued
issued_list p firm = flat_map (issued_in p) firm.rows

-- by instrument, byte by byte, then matter, then entry
abbrev pub issued_cmp : Issued → Issued → Ordering
issued_cmp a b =
    ordering_then (slice_cmp nat_cmp a.instrument b.instrument)
    (ordering_then (nat_cmp a.matter b.matter) (nat_cmp a.entry b.entry))

-- one comes before another
abbrev pub is_before_issued : Issued → Issued → Bool
is_before_issued a b = is_lt (issued_cmp a b)

-- the list with one more, inserted before the first item that does not sort before it
abbrev pub put_in_order : {X : Type 0} → (X → X → Bool) → X → List X → List X
put_in_order lt x [] = x ∷ []
put_in_order lt x (y ∷ ys) = cond (lt y x) (y ∷ put_in_order lt x ys) (x ∷ y ∷ ys)

-- the list sorted; items that compare as equal keep their order
abbrev pub in_order : {X : Type 0} → (X → X → Bool) → List X → List X
in_order lt [] = []
in_order lt (x ∷ xs) = put_in_order lt x (in_order lt xs)

abbrev pub has_same_instrument : Issued → Issued → Bool
has_same_instrument x y = bytes_eq x.instrument y.instrument

-- at least one other payment in the list has the same instrument
abbrev pub is_double_in : List Issued → Issued → Bool
is_double_in all x = nat_lt 1 (length (filter (has_same_instrument x) all))

-- the payments of a list for which that is so, sorted
abbrev pub doubles_in : List Issued → List Issued
doubles_in all = filter (is_double_in all) (in_order is_before_issued all)

-- the lines of DOUBLE as of p
abbrev pub double_list : ℕ → Firm → List Issued
double_list p firm = doubles_in (issued_list p firm)

-- what the collector stores
pub record IssuedKept : Type 0 where
  pub day : ℕ
  pub issued : List Issued

abbrev pub no_issued : ℕ → IssuedKept
no_issued p = record { day = p; issued = [] }

abbrev pub with_row_issued : IssuedKept → ℕ × Row → IssuedKept
with_row_issued s row = record s { issued = s.issued ++ issued_in s.day row }
