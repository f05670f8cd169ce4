-- Relations between the entries of a book and a line.
use Rattle.std.specs.Prelude.{ℕ, neg_ℤ, Bool, ◌&&◌, not, nat_lt, List, Option, find}
use Rattle.std.specs.List.{count_by, filter, list_any}
use Rattle.std.specs.Ordering.{int_eq}
use Rattle.std.specs.Str.{bytes_eq}
use Rattle.trust_base.specs.declared.line.Line.{Line}
use Rattle.statement_lines.specs.Bookings.{booking_of, is_same_booking}
use Rattle.statement_lines.specs.Showing.{fits, is_out, shows}
use Rattle.statement_lines.specs.EntryStates.{is_cleared, is_held_on, is_waiting}
use Rattle.statement_lines.specs.Known.{Known}
use Rattle.statement_lines.specs.declared.book_entry.BookEntry.{BookEntry}
use Rattle.statement_lines.specs.declared.relation.Relation.{Relation}
use Rattle.statement_lines.specs.declared.relation.Relation.TheVariants as relation

-- the line has the amount of the line that clears the entry
abbrev pub has_its_amount : Line → BookEntry → Bool
has_its_amount line e = int_eq line.amount e.entry.amount

-- the amount of a deposit went out with the line
abbrev pub has_amount_back : Line → BookEntry → Bool
has_amount_back line e = is_out line.amount && int_eq (neg_ℤ line.amount) e.entry.amount

-- the amount of a cleared deposit went out with the line
abbrev pub may_be_returned : Line → BookEntry → Bool
may_be_returned line e = has_amount_back line e && is_cleared e.state

-- the line has the entry's reference
abbrev pub names : Line → BookEntry → Bool
names line e = bytes_eq line.reference e.entry.reference

-- the line is in the book for the entry already
abbrev pub is_booked_for : Line → BookEntry → Bool
is_booked_for line e = list_any (is_same_booking (booking_of line)) e.bookings

-- no line of this amount belongs to the entry: neither one that clears it, nor one that takes a deposit back
abbrev pub is_of_no_amount : Line → BookEntry → Bool
is_of_no_amount line e = not (has_its_amount line e) && not (has_amount_back line e)

-- the entry is in this relation to the line, on a business day
unfoldable pub stands : Relation → ℕ → Line → BookEntry → Bool
stands relation.Fitted today line e = is_waiting e.state && fits today line e.entry
stands relation.NotWaiting today line e =
    not (is_waiting e.state) && has_its_amount line e && shows line e.entry
stands relation.IssuedAfter today line e =
    is_waiting e.state && has_its_amount line e && nat_lt line.date e.entry.since && shows line e.entry
stands relation.OfAnotherAmount today line e =
    is_waiting e.state && not (has_its_amount line e) && shows line e.entry
stands relation.OfItsAmount today line e = is_waiting e.state && has_its_amount line e
stands relation.MaybeReturned today line e = may_be_returned line e
stands relation.Named today line e = names line e
stands relation.NamedAgain today line e = names line e && is_booked_for line e
stands relation.NamedOfAnotherAmount today line e = names line e && is_of_no_amount line e
stands (relation.HeldOn day) today line e = is_held_on day e

-- The entries of a book that are in this relation to a line.

abbrev pub related : Relation → ℕ → Known → Line → List BookEntry
related r today known line = filter (stands r today line) known.entries

-- there is such an entry
abbrev pub is_related : Relation → ℕ → Known → Line → Bool
is_related r today known line = list_any (stands r today line) known.entries

-- how many such entries there are
abbrev pub count_related : Relation → ℕ → Known → Line → ℕ
count_related r today known line = count_by (stands r today line) known.entries

-- the first entry that the line fits
abbrev pub fitted : ℕ → Known → Line → Option BookEntry
fitted today known line = find (stands relation.Fitted today line) known.entries
