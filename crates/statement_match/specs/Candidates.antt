-- What a reason tells: entries of the book, exceptions, and records. At most five of each are listed, and all counted.
use Rattle.std.specs.Prelude.{ℕ, ◌+◌, List, [], ◌∷◌, length, map, take, slice_index, Option, option_map, if◌then◌else◌}
use Rattle.std.specs.List.{count_by}
use Rattle.trust_base.specs.declared.line.Line.{Line}
use Rattle.statement_lines.specs.Waiting.{Waiting}
use Rattle.statement_lines.specs.OpenLines.{is_named_like, is_open_fit}
use Rattle.statement_lines.specs.Records.{Records}
use Rattle.statement_lines.specs.Known.{Known}
use Rattle.statement_lines.specs.Relations.{count_related, related}
use Rattle.statement_lines.specs.declared.book_entry.BookEntry.{BookEntry}
use Rattle.statement_lines.specs.declared.relation.Relation.{Relation}
use Rattle.statement_match.specs.Misfits.{entry_of, exceptions_of, misfit_of}
use Rattle.statement_match.specs.declared.candidate.Candidate.{Candidate}
use Rattle.statement_match.specs.declared.named_exception.NamedException.{NamedException}

-- how many are listed at most
abbrev pub most_listed : ℕ
most_listed = 5

-- Entries of the book.

pub record Candidates : Type 0 where
  pub listed : List Candidate
  pub count : ℕ

abbrev pub candidate_of : BookEntry → Candidate
candidate_of e = record {
  reference = e.entry.reference;
  state = e.state;
  day = e.day;
  bank_ref = e.bank_ref;
  party = e.party;
  amount = e.entry.amount;
}

-- the entries that are in this relation to a line
abbrev pub candidates : Relation → ℕ → Known → Line → Candidates
candidates r today known line = record {
  listed = take most_listed (map candidate_of (related r today known line));
  count = count_related r today known line;
}

-- Exceptions that are a line with a reference.

pub record NamedExceptions : Type 0 where
  pub listed : List NamedException
  pub count : ℕ

-- an exception's reference, why it matches nothing now, and the entry of the reference, if the book has it
abbrev pub named_exception : ℕ → Known → Line → NamedException
named_exception today known x = record {
  reference = x.reference;
  misfit = misfit_of today x (entry_of known x);
  entry = option_map candidate_of (entry_of known x);
}

abbrev pub named_exceptions : ℕ → Known → Line → NamedExceptions
named_exceptions today known line = record {
  listed = take most_listed (map (named_exception today known) (exceptions_of known line));
  count = count_by (is_named_like line) known.exceptions;
}

-- Records whose lines fit one entry, by their numbers.

pub record Sharers : Type 0 where
  pub listed : List ℕ
  pub count : ℕ

-- the numbers of the lines that are open and fit an entry; the first line has this place
unfoldable pub fit_numbers : ℕ → Waiting → List ℕ → ℕ → List Line → List ℕ
fit_numbers today w numbers place [] = []
fit_numbers today w numbers place (line ∷ lines) =
    if is_open_fit today w line
    then slice_index numbers place ∷ fit_numbers today w numbers (place + 1) lines
    else fit_numbers today w numbers (place + 1) lines

abbrev pub all_of : List ℕ → Sharers
all_of numbers = record { listed = take most_listed numbers; count = length numbers }

abbrev pub sharers : ℕ → Records → Waiting → Sharers
sharers today records w = all_of (fit_numbers today w records.numbers 0 records.lines)
