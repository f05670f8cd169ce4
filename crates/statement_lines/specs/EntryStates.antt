-- The states of the deposits and payments of a book.
use Rattle.std.specs.Prelude.{ℕ, Bool, true, false, ◌&&◌, ◌==◌, List, codes}
use Rattle.statement_lines.specs.declared.book_entry.BookEntry.{BookEntry}
use Rattle.statement_lines.specs.declared.book_entry.EntryState.{EntryState}
use Rattle.statement_lines.specs.declared.book_entry.EntryState.TheVariants as state

abbrev pub is_held : EntryState → Bool
is_held state.Held = true
is_held other = false

-- a held deposit that was booked on the day
abbrev pub is_held_on : ℕ → BookEntry → Bool
is_held_on day e = is_held e.state && e.day == day

-- a deposit waits while it is held, and a payment while it is issued
abbrev pub is_waiting : EntryState → Bool
is_waiting state.Held = true
is_waiting state.Issued = true
is_waiting other = false

abbrev pub is_cleared : EntryState → Bool
is_cleared state.Cleared = true
is_cleared other = false

-- the word for a state
abbrev pub state_word : EntryState → List ℕ
state_word state.Held = codes "held"
state_word state.Cancelled = codes "cancelled"
state_word state.Returned = codes "returned"
state_word state.Proposed = codes "proposed"
state_word state.Declined = codes "declined"
state_word state.Issued = codes "issued"
state_word state.Voided = codes "voided"
state_word state.Cleared = codes "cleared"
