-- Why the exceptions that are one line with some reference match nothing, as the book is now.
use Rattle.std.specs.Prelude.{ℕ, not, nat_lt, List, Option, Some, None, is_some, find, if◌then◌else◌}
use Rattle.std.specs.List.{filter}
use Rattle.trust_base.specs.declared.line.Line.{Line}
use Rattle.statement_csv.specs.References.{entry_named}
use Rattle.statement_lines.specs.EntryStates.{is_waiting}
use Rattle.statement_lines.specs.Known.{Known}
use Rattle.statement_lines.specs.OpenLines.{is_named_like}
use Rattle.statement_lines.specs.Relations.{has_its_amount, is_booked_for, may_be_returned, names}
use Rattle.statement_lines.specs.declared.book_entry.BookEntry.{BookEntry}
use Rattle.statement_match.specs.declared.misfit.Misfit.{Misfit}
use Rattle.statement_match.specs.declared.misfit.Misfit.TheVariants as misfit

-- the exceptions that are this line with a reference
abbrev pub exceptions_of : Known → Line → List Line
exceptions_of known line = filter (is_named_like line) known.exceptions

-- the deposit or payment that has an exception's reference
abbrev pub entry_of : Known → Line → Option BookEntry
entry_of known x = find (names x) known.entries

-- why an exception does not fit the deposit or payment of its reference: as an import tries it
unfoldable pub misfit_with : ℕ → Line → BookEntry → Misfit
misfit_with today x e =
    if is_booked_for x e then misfit.Again
    else if nat_lt today x.date then misfit.DatedAfter today
    else if may_be_returned x e then misfit.TakesBack
    else if not (is_waiting e.state) then misfit.NotWaiting
    else if not (has_its_amount x e) then misfit.OfAnotherAmount
    else misfit.Fits

-- why an exception matches nothing on a business day
abbrev pub misfit_of : ℕ → Line → Option BookEntry → Misfit
misfit_of today x None =
    if nat_lt today x.date then misfit.DatedAfter today
    else if is_some (entry_named x.reference) then misfit.NoEntry
    else misfit.OfNoEntry
misfit_of today x (Some e) = misfit_with today x e
