-- Why records of a statement have to be looked at.
use Rattle.std.specs.Prelude.{ℕ, Bool, true, false, ◌&&◌, not, nat_lt, List, [], ◌∷◌, Option, Some, None, is_some}
use Rattle.std.specs.Prelude.{if◌then◌else◌}
use Rattle.std.specs.List.{count_by, list_any}
use Rattle.trust_base.specs.declared.line.Line.{Line}
use Rattle.firm_rows.specs.declared.ledger.FirmLine.{FirmLine}
use Rattle.statement_csv.specs.References.{entry_named}
use Rattle.statement_lines.specs.Showing.{is_other_business}
use Rattle.statement_lines.specs.Bookings.{booking_of, is_same_booking}
use Rattle.statement_lines.specs.OpenLines.{is_claimed, is_named_like, is_open_fit, is_open_like}
use Rattle.statement_lines.specs.Records.{Records}
use Rattle.statement_lines.specs.Known.{Known}
use Rattle.statement_lines.specs.Relations.{count_related, fitted, is_related}
use Rattle.statement_lines.specs.declared.book_entry.BookEntry.{BookEntry}
use Rattle.statement_lines.specs.declared.line_outcome.LineOutcome.{LineOutcome}
use Rattle.statement_lines.specs.declared.line_outcome.LineOutcome.TheVariants as outcome
use Rattle.statement_lines.specs.declared.relation.Relation.{Relation}
use Rattle.statement_lines.specs.declared.relation.Relation.TheVariants as relation
use Rattle.statement_match.specs.Candidates.{candidates, named_exceptions, sharers}
use Rattle.statement_match.specs.Rule.{is_beside_booked}
use Rattle.statement_match.specs.DaySums.{first_day}
use Rattle.statement_match.specs.OwnLines.{is_own, own_reason}
use Rattle.statement_match.specs.declared.reason.UnmatchedReason.{UnmatchedReason}
use Rattle.statement_match.specs.declared.reason.UnmatchedReason.TheVariants as reason

-- the first of these reasons whose condition holds, or `other` if none does
abbrev pub first_of : List (Bool × UnmatchedReason) → UnmatchedReason → UnmatchedReason
first_of [] other = other
first_of (c ∷ cs) other = if c.0 then c.1 else first_of cs other

-- the first of these reasons whose condition holds, if any
abbrev pub first_if_any : List (Bool × UnmatchedReason) → Option UnmatchedReason
first_if_any [] = None
first_if_any (c ∷ cs) = if c.0 then Some c.1 else first_if_any cs

-- A line that is left.

-- it is an exception under a reference
abbrev pub is_exception : Known → Line → Bool
is_exception known line = list_any (is_named_like line) known.exceptions

-- another open line, or a line of the book, has its date, bank reference and amount
abbrev pub is_doubled_outcome : LineOutcome → Bool
is_doubled_outcome outcome.AsItIs = false
is_doubled_outcome outcome.InBook = false
is_doubled_outcome outcome.Doubled = true
is_doubled_outcome (outcome.Filled reference) = false
is_doubled_outcome outcome.Left = false

-- how many open lines, and how many lines of the book, have its date, bank reference and amount
abbrev pub doubled_reason : Known → List Line → Line → UnmatchedReason
doubled_reason known lines line =
    reason.Doubled (count_by (is_open_like line) lines)
    (count_by (is_same_booking (booking_of line)) known.held.bookings)

-- entries of the book are in this relation to it
abbrev pub related_reason : Relation → ℕ → Known → Line → UnmatchedReason
related_reason r today known line = reason.Related r (candidates r today known line)

-- if no entry of the book has its amount: the first day whose deposits add up to it, with these
abbrev pub day_reason : ℕ → Known → Line → Option ℕ → UnmatchedReason
day_reason today known line None = reason.NoneOfItsAmount
day_reason today known line (Some day) =
    reason.Together day (candidates (relation.HeldOn day) today known line)

-- the reason from its words, and from the relations of the book's entries to it
unfoldable pub entry_reason : ℕ → Known → Line → UnmatchedReason
entry_reason today known line =
    first_of
    ((is_other_business line, reason.OtherBusiness (candidates relation.MaybeReturned today known line))
    ∷ (is_related relation.NotWaiting today known line, related_reason relation.NotWaiting today known line)
    ∷ (is_related relation.IssuedAfter today known line, related_reason relation.IssuedAfter today known line)
    ∷ (is_related relation.OfAnotherAmount today known line, related_reason relation.OfAnotherAmount today known line)
    ∷ (is_related relation.OfItsAmount today known line, related_reason relation.OfItsAmount today known line)
    ∷ (is_related relation.MaybeReturned today known line, related_reason relation.MaybeReturned today known line)
    ∷ []) (day_reason today known line (first_day line.amount known.entries))

-- the reason given the entry that it fits, if it fits one: a record has the entry's reference, or several open lines
-- fit the entry
unfoldable pub fit_reason : ℕ → Known → Records → Line → Option BookEntry → UnmatchedReason
fit_reason today known records line None = entry_reason today known line
fit_reason today known records line (Some e) =
    first_of
    ((is_claimed records.lines e.entry.reference, reason.Claimed e.entry.reference)
    ∷ (
      nat_lt 1 (count_by (is_open_fit today e.entry) records.lines),
      reason.Shared (sharers today records e.entry) e.entry.reference,
    )
    ∷ []) (entry_reason today known line)

unfoldable pub left_reason : ℕ → Known → Records → Line → LineOutcome → UnmatchedReason
left_reason today known records line o =
    first_of
    ((
      is_exception known line,
      reason.IsException (named_exceptions today known line) (candidates relation.OfItsAmount today known line),
    )
    ∷ (nat_lt today line.date, reason.DatedAfter today)
    ∷ (is_doubled_outcome o, doubled_reason known records.lines line)
    ∷ (is_beside_booked known.held line, reason.BesideBooked)
    ∷ (
      nat_lt 1 (count_related relation.Fitted today known line),
      reason.FitsSeveral (candidates relation.Fitted today known line),
    )
    ∷ []) (fit_reason today known records line (fitted today known line))

-- A line with a reference, which is written unchanged.

-- the reason for a line whose reference names an entry, whatever other lines do: it cannot belong to that entry. There
-- is none for a line that the book has for that entry already, on whatever business day.
unfoldable pub named_reason : ℕ → Known → Line → Option UnmatchedReason
named_reason today known line =
    if is_some (entry_named line.reference) && not (is_related relation.NamedAgain today known line)
    then first_if_any
    ((nat_lt today line.date, reason.DatedAfter today)
    ∷ (not (is_related relation.Named today known line), reason.NamesNone)
    ∷ (
      is_related relation.NamedOfAnotherAmount today known line,
      related_reason relation.NamedOfAnotherAmount today known line,
    )
    ∷ [])
    else None

-- the reason for a line with a reference: one of the firm's own is tried on the firm's own ledger as it is then
abbrev pub kept_reason : ℕ → Known → List FirmLine → Line → Option UnmatchedReason
kept_reason today known own line =
    if is_own line then own_reason today own line else named_reason today known line

-- Why a line with this outcome has to be looked at; `own` is the firm's own ledger after an import of the lines before.

unfoldable pub reason_for : ℕ → Known → List FirmLine → Records → Line → LineOutcome → Option UnmatchedReason
reason_for today known own records line outcome.AsItIs = kept_reason today known own line
reason_for today known own records line outcome.InBook = None
reason_for today known own records line outcome.Doubled = Some (left_reason today known records line outcome.Doubled)
reason_for today known own records line (outcome.Filled reference) = None
reason_for today known own records line outcome.Left = Some (left_reason today known records line outcome.Left)
