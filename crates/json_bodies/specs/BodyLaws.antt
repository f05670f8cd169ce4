-- The laws of the bodies: serde_json reads a body back as the object that it was written from.
use Rattle.std.specs.Prelude.{◌≡◌, ◌<◌, ◌^◌, ℕ, ℤ, List, length, Option, Some}
use Rattle.serde_json.specs.Read.{read}
use Rattle.matter_rows.specs.declared.act.Act.{Act}
use Rattle.matter_rows.specs.declared.entry.Entry.{Entry}
use Rattle.matter_rows.specs.Rows.{Rows}
use Rattle.json_bodies.specs.Bodies.{matter_body, matter_object, purge_body, purge_object, receipt_body, receipt_object, entry_body, entry_object, import_body, import_object}
use Rattle.json_bodies.specs.Listed.{entries_body, entries_object}
use Rattle.json_bodies.specs.Acts.{acts_body, acts_object}

abbrev pub MatterReadsBack : Type 0
MatterReadsBack =
    (m : ℕ) (rows : Rows) → length rows.entries < 2 ^ 64
    → read (matter_body m rows) ≡ Some (matter_object m rows)

abbrev pub PurgeReadsBack : Type 0
PurgeReadsBack = (m : ℕ) (rows : Rows) → read (purge_body m rows) ≡ Some (purge_object m rows)

abbrev pub ReceiptReadsBack : Type 0
ReceiptReadsBack = (m n : ℕ) (e : Entry) → read (receipt_body m n e) ≡ Some (receipt_object m n e)

abbrev pub EntryReadsBack : Type 0
EntryReadsBack = (m n : ℕ) (e : Entry) (left : ℤ) → read (entry_body m n e left) ≡ Some (entry_object m n e left)

abbrev pub EntriesReadBack : Type 0
EntriesReadBack = (m : ℕ) (rows : Rows) → read (entries_body m rows) ≡ Some (entries_object m rows)

abbrev pub ActsReadBack : Type 0
ActsReadBack = (acts : List Act) → read (acts_body acts) ≡ Some (acts_object acts)

abbrev pub ImportReadsBack : Type 0
ImportReadsBack =
    (applied exceptions repeated : ℕ) (statement : Option ℕ) (unreadable : ℕ) → applied < 2 ^ 64 → exceptions < 2 ^ 64
    → repeated < 2 ^ 64 → unreadable < 2 ^ 64
    → read (import_body applied exceptions repeated statement unreadable)
    ≡ Some (import_object applied exceptions repeated statement unreadable)
