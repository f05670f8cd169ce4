-- The columns of a head.
use Rattle.std.specs.Prelude.{◌≡◌, ℕ, ℤ, pos, List, [], Option, Some, None, IfSome}
use Rattle.trust_values.specs.Limits.{IsDay}
use Rattle.trust_base.specs.Names.{IsLabel}
use Rattle.matter_rows.specs.declared.head.Head.{Head}
use Rattle.matter_rows.specs.declared.head.Holder.{Holder}
use Rattle.matter_rows.specs.declared.head.Holder.TheVariants.{Client, Purged}
use Rattle.matter_parts.specs.declared.figures.Figures.{Figures}
use Rattle.sql_tables.specs.declared.columns.TotalsColumns.{TotalsColumns}
use Rattle.sql_tables.specs.Rows as table

-- a purged matter has no client
abbrev pub client_column : Holder → List ℕ
client_column (Client name) = name
client_column (Purged day) = []

-- the day of the purge, or 0
abbrev pub purged_column : Holder → ℤ
purged_column (Client name) = pos 0
purged_column (Purged day) = pos day

-- the day of closing, or 0
abbrev pub closed_column : Option ℕ → ℤ
closed_column None = pos 0
closed_column (Some day) = pos day

-- the columns of the head of a matter with its stored totals
abbrev pub head_columns : ℕ → Head → Figures → table.Head
head_columns m h f = record {
  no = pos m;
  client = client_column h.holder;
  opened = pos h.opened;
  closed = closed_column h.closed;
  last = pos h.last;
  entries = pos f.entries;
  held = pos f.held;
  available = pos f.available;
  disputed = pos f.disputed;
  fees = pos f.fees;
  claims = pos f.claims;
  pending = pos f.pending;
  purged = purged_column h.holder;
}

-- the columns that each change of a matter sets: its last day and its totals
abbrev pub totals_columns : ℕ → ℕ → Figures → TotalsColumns
totals_columns m last f = record {
  no = pos m;
  last = pos last;
  entries = pos f.entries;
  held = pos f.held;
  available = pos f.available;
  disputed = pos f.disputed;
  fees = pos f.fees;
  claims = pos f.claims;
  pending = pos f.pending;
}

-- a row has these columns of a head, except its totals
abbrev pub HasHead : Head → table.Head → Type 0
HasHead h t =
    (client_column h.holder ≡ t.client) × (pos h.opened ≡ t.opened) × (closed_column h.closed ≡ t.closed)
    × (pos h.last ≡ t.last) × (purged_column h.holder ≡ t.purged)

-- a row has these totals
pub record HasTotals (f : Figures) (t : table.Head) : Type 0 where
  pub entries : pos f.entries ≡ t.entries
  pub pending : pos f.pending ≡ t.pending
  pub held : pos f.held ≡ t.held
  pub available : pos f.available ≡ t.available
  pub disputed : pos f.disputed ≡ t.disputed
  pub fees : pos f.fees ≡ t.fees
  pub claims : pos f.claims ≡ t.claims

-- a holder whose values have the form of their types
abbrev pub IsHolder : Holder → Type 0
IsHolder (Client name) = IsLabel name
IsHolder (Purged day) = IsDay day

-- a head whose values have the form of their types
abbrev pub IsHead : Head → Type 0
IsHead h = IsHolder h.holder × IsDay h.opened × IfSome h.closed IsDay × IsDay h.last

-- the columns are those of the head of a matter that was not purged, except its totals
pub record HasClientsHead (row : table.Head) : Type 0 where
  pub client : IsLabel row.client
  pub opened : (d : ℕ) × (IsDay d × (pos d ≡ row.opened))
  pub closed : (c : Option ℕ) × (IfSome c IsDay × (closed_column c ≡ row.closed))
  pub last : (d : ℕ) × (IsDay d × (pos d ≡ row.last))
  pub unpurged : row.purged ≡ pos 0
