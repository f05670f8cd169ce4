-- What the import of a bank's statement prints, and the firm that it leaves.
use Rattle.std.specs.Prelude.{◌≡◌, ◌⊎◌, ℕ, Bool, false, ⊤, List, [], Option, Some, None, option_map, nat_lt, MatchBool}
use Rattle.statement_csv.specs.Items.{items}
use Rattle.trust_base.specs.declared.limits.TheConstants.{MAX_FILE_BYTES}
use Rattle.statement_csv.specs.Limits.{IsTooLong, IsWithin}
use Rattle.statement_csv.specs.Reading.{LacksHeader}
use Rattle.trust_base.specs.declared.refusal.Field.TheVariants as field
use Rattle.trust_base.specs.declared.refusal.Refusal.TheVariants.{BadField, Memory, TooLarge}
use Rattle.firm_rows.specs.Firm.{Firm}
use Rattle.json_bodies.specs.Bodies.{import_body}
use Rattle.trust_desk.specs.Imports.{Imports, IsStop}
use Rattle.json_bodies.specs.declared.bodies.ImportReply.{ImportReply}
use Rattle.portal_http.specs.Output.{Output}
use Rattle.trust_desk.specs.declared.importing.ImportEnd.{ImportEnd}
use Rattle.trust_desk.specs.declared.importing.ImportStop.{ImportStop}
use Rattle.trust_desk.specs.declared.importing.ImportStop.TheVariants as stop
use Rattle.cashier.specs.Sent.{IsSent}
use Rattle.cashier.specs.Sheet.{line_of, refusal_line}
use Rattle.cashier.specs.Report.{refused_outcome}
use Rattle.cashier.specs.declared.outcome.Outcome.{Outcome}
use Rattle.cashier.specs.declared.outcome.Outcome.TheVariants as outcome

-- ---- what an import prints

-- the line of the counts
abbrev pub counts_line : ImportReply → List ℕ
counts_line c = line_of 200 (import_body c.applied c.exceptions c.repeated c.statement c.unreadable)

-- what is printed of an import: its counts if it is done, its refusal, or nothing if a read failed
abbrev pub stop_text : ImportReply → ImportStop → List ℕ
stop_text counts stop.Done = counts_line counts
stop_text counts (stop.Refused r) = refusal_line r
stop_text counts stop.Limit = refusal_line TooLarge
stop_text counts stop.ReadFault = []

-- the outcome of its run, if all of that was written
abbrev pub stop_outcome : ImportStop → Outcome
stop_outcome stop.Done = outcome.Done
stop_outcome (stop.Refused r) = refused_outcome r
stop_outcome stop.Limit = outcome.Refused
stop_outcome stop.ReadFault = outcome.FileFault

-- a text was written and the run ended this way, or a write failed and only a prefix of the text was written
abbrev pub Sent : List ℕ → Outcome → Output → Outcome → Type 0
Sent text told output result = IsSent text told outcome.OutputFault output.before output.after result

-- what an import prints was written; if there was no memory for its counts, that was written instead
abbrev pub Answers : ImportEnd → Output → Outcome → Type 0
Answers ran output result =
    Sent (stop_text ran.reply ran.end) (stop_outcome ran.end) output result
    ⊎ ((ran.end ≡ stop.Done) × Sent (refusal_line Memory) outcome.MemoryFault output result)

-- neither the store nor memory ended it, and its line was written
abbrev pub EndsByNoFault : Outcome → Type 0
EndsByNoFault outcome.Done = ⊤
EndsByNoFault outcome.Refused = ⊤
EndsByNoFault outcome.CommandLine = ⊥
EndsByNoFault outcome.FileFault = ⊤
EndsByNoFault outcome.OutputFault = ⊥
EndsByNoFault outcome.StoreFault = ⊥
EndsByNoFault outcome.MemoryFault = ⊥
EndsByNoFault outcome.NetworkFault = ⊥

-- ---- what an import has done

-- the first items of a statement of these bytes, if they are known, were applied and counted; and what the import's end
-- says about the bytes
pub record Imported (day : ℕ) (before : Firm) (bytes : Option (List ℕ)) (after : Firm) (ran : ImportEnd) : Type 0 where
  pub imports : Imports day before (option_map items bytes) ran after
  pub stops : IsStop ran.end
  pub header : ran.end ≡ stop.Refused (BadField field.Header) → LacksHeader (option_map items bytes)
  pub limit : ran.end ≡ stop.Limit → IsTooLong bytes
  pub within : ran.end ≡ stop.Done → IsWithin bytes

-- ---- the end of a run

-- the length is reported, and is above the limit
abbrev pub is_told_longer : Option ℕ → Bool
is_told_longer None = false
is_told_longer (Some n) = nat_lt MAX_FILE_BYTES n

-- a statement with such a length is refused, and none of its items is applied
pub record Large (output : Output) (result : Outcome) (before after : Firm) : Type 0 where
  pub firm : after ≡ before
  pub sent : Sent (refusal_line TooLarge) outcome.Refused output result

-- any other statement is imported, and the import answered
pub record Run (day : ℕ) (bytes : Option (List ℕ)) (output : Output) (result : Outcome) (before after : Firm)
    : Type 0 where
  pub ran : ImportEnd
  pub imported : Imported day before bytes after ran
  pub answers : Answers ran output result

-- how the import of a statement with this length, if it is reported, and these bytes, if they are known, ends on a day,
-- given what was written by then, and the firm before and after
abbrev pub StatementEnds : ℕ → Option ℕ → Option (List ℕ) → Output → Outcome → Firm → Firm → Type 0
StatementEnds day size bytes output result before after =
    MatchBool (is_told_longer size) (Large output result before after) (Run day bytes output result before after)
