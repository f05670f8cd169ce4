-- What is left of a matter's rows after a purge.
use Rattle.std.specs.Prelude.{ℕ, Option}
use Rattle.matter_rows.specs.declared.head.Head.{Head}
use Rattle.matter_rows.specs.Rows.{Rows, purged_head}
use Rattle.matter_parts.specs.declared.edit.Edit.TheVariants as edit
use Rattle.matter_parts.specs.Changes.{changed_by}

-- what is left of a head: when the matter was opened, closed and purged, and no client
abbrev pub stub_of : ℕ → Option Head → Option Head
stub_of day head = purged_head head day day

-- the rows after a purge on a day: the stub of the head, no seat and no entry
abbrev pub stub_rows : ℕ → Rows → Rows
stub_rows day rows = changed_by (edit.Purge day) day rows
