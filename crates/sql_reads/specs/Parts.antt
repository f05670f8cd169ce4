-- What the tables hold of one matter, column by column.
use Rattle.std.specs.Prelude.{ℕ, pos, List, [], map, find, Option, Some, None, option_map}
use Rattle.matter_rows.specs.declared.seat.Seat.{Seat}
use Rattle.matter_parts.specs.declared.figures.Figures.{Figures}
use Rattle.matter_parts.specs.declared.kept.Kept.{Kept}
use Rattle.matter_rows.specs.Shares.{target_in}
use Rattle.matter_parts.specs.Parts.{Part, IsWhole, entry_in, kept_in, no_figures}
use Rattle.firm_rows.specs.Firm.{Firm, of}
use Rattle.trust_store.specs.declared.plain.KeptMatter.{KeptMatter}
use Rattle.sql_tables.specs.Lists.{Lists}
use Rattle.sql_tables.specs.Rows as table
use Rattle.sql_rows.specs.Meaning.{AreSound, figures_from, firm_from, head_from, kept_from, seat_from}
use Rattle.sql_rows.specs.Steps.{head_at}
use Rattle.sql_reads.specs.declared.matter.HeadWithTotals.{HeadWithTotals}

-- the totals of the head that was found; zero totals without one
abbrev pub figures_found : Option table.Head → Figures
figures_found None = no_figures
figures_found (Some h) = figures_from h

-- the totals that are stored with the head of a matter
abbrev pub figures_at : ℕ → Lists → Figures
figures_at m a = figures_found (find (table.is_head (pos m)) a.heads)

-- a head with its stored totals
abbrev pub with_totals_from : table.Head → HeadWithTotals
with_totals_from h = record { head = head_from h; figures = figures_from h }

-- the head of a matter with its stored totals, if it was opened
abbrev pub with_totals_at : ℕ → Lists → Option HeadWithTotals
with_totals_at m a = option_map with_totals_from (find (table.is_head (pos m)) a.heads)

-- the totals that were read with the head; zero totals without one
abbrev pub totals_of : Option HeadWithTotals → Figures
totals_of None = no_figures
totals_of (Some h) = h.figures

-- the matter that was read
abbrev pub part_of : Option HeadWithTotals → List Seat → List Kept → Part
part_of opened seats kept = record {
  head = option_map (λ (h : HeadWithTotals). h.head) opened;
  seats = seats;
  figures = totals_of opened;
  kept = kept;
}

-- the head of a matter, its seats by person, its totals, and its entries by number
abbrev pub part_at : ℕ → Lists → Part
part_at m a = record {
  head = head_at m a;
  seats = map seat_from (table.seats_of (pos m) a.seats);
  figures = figures_at m a;
  kept = map kept_from (table.entries_of (pos m) a.entries);
}

-- the same, with the number of the matter
abbrev pub numbered_at : Lists → ℕ → KeptMatter
numbered_at a m = record { number = m; matter = part_at m a }

-- the firm without the rows of its matters
abbrev pub without_matters : Firm → Firm
without_matters firm = record firm { rows = [] }

-- if the rows stand for those of a sound firm, these are all rows of the matter
abbrev pub PartsAreWhole : Type 0
PartsAreWhole = (m : ℕ) (a : Lists) → AreSound a → IsWhole (part_at m a) (of m (firm_from a))

-- the number of the entry that the named one draws on, by the entries that are kept; 0 for none
abbrev pub drawn_by : List Kept → Option ℕ → ℕ
drawn_by ks None = 0
drawn_by ks (Some n) = target_in (entry_in (kept_in ks n))
