-- What is known about a matter and an ask or a line, from the totals and the loaded entries.
use Rattle.std.specs.Prelude.{ℕ, Bool, ◌&&◌, pos, ◌+◌}
use Rattle.matter_rows.specs.Shares.{target_in}
use Rattle.matter_parts.specs.Parts.{Part, kept_at, entry_in, is_held, is_held_or_none, left_kept, total_kept}
use Rattle.trust_matter.specs.declared.bank_line.BankLine.{BankLine}
use Rattle.trust_matter.specs.declared.ask.Ask.{Ask}
use Rattle.trust_matter.specs.Facts.{Facts, number_named, other_of}
use Rattle.trust_matter.specs.LineStep.{LineFacts}

-- what is known about a line and its entry, from the totals and the loaded entries
abbrev pub kept_line_facts : Part → BankLine → ℕ → LineFacts
kept_line_facts m l today = record {
  head = m.head;
  number = l.entry;
  entry = entry_in (kept_at m l.entry);
  available = pos m.figures.available;
  line = l.line;
  today = today;
}

-- the entry that a line names, and the fee or claim that it draws on, are loaded or do not exist
abbrev pub holds_for_line : Part → ℕ → Bool
holds_for_line m n = is_held m n && is_held_or_none m (target_in (entry_in (kept_at m n)))

-- what is known about an ask and its matter, from the totals and the loaded entries
abbrev pub kept_facts : Part → Ask → Facts
kept_facts m ask =
    let entry = entry_in (kept_at m (number_named ask)) in
    let other = other_of ask entry in
    record {
      head = m.head;
      seats = m.seats;
      count = m.figures.entries;
      available = pos m.figures.available;
      ledger = pos (total_kept m.figures + m.figures.held);
      pending = pos m.figures.pending;
      entry = entry;
      other = entry_in (kept_at m other);
      left = left_kept (kept_at m other);
    }

-- the entries that an ask names, and those that these name, are loaded or do not exist
abbrev pub holds_for : Part → Ask → Bool
holds_for m ask =
    is_held_or_none m (number_named ask) && is_held_or_none m (other_of ask (entry_in (kept_at m (number_named ask))))
