-- Two entries, and the one that each draws on, as numbers.
use Rattle.std.specs.Prelude.{ℕ, Bool, true, false, ◌≡◌, ◌+◌, ◌<◌, ◌≤◌, ◌==◌, ◌||◌}
use Rattle.matter_rows.specs.Shares.{number_or_none}
use Rattle.matter_parts.specs.declared.named_entries.NamedEntries.{NamedEntries}
use Rattle.matter_parts.specs.Parts.{is_it}

-- the number is one of these
abbrev pub has_number : NamedEntries → ℕ → Bool
has_number w n =
    is_it w.first n || (is_it w.second n || (n == number_or_none w.under_first || n == number_or_none w.under_second))

-- the first place, from one on, whose number has a property, or the end; the number at a place is one more than it
pub record IsNextPlace (has : ℕ → Bool) (from end place : ℕ) : Type 0 where
  pub low : from ≤ place
  pub high : place ≤ end
  pub none : (n : ℕ) → from ≤ n → n < place → has (n + 1) ≡ false
  pub is : place < end → has (place + 1) ≡ true
