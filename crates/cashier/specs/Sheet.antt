-- What a day sheet prints, and the firm that it leaves.
use Rattle.std.specs.Prelude.{◌≡◌, ◌<◌, ◌⊎◌, ℕ, Bool, true, false, List, [], ◌∷◌}
use Rattle.std.specs.Prelude.{◌++◌, Option, IfSome, Result, Ok, Err, length, nat_lt, take, ⊤, if◌then◌else◌, MatchBool}
use Rattle.std.specs.Fmt.{decimal}
use Rattle.std.specs.Io.KnownBytes.{Appends}
use Rattle.std.specs.List.{concat, filter}
use Rattle.csv.specs.Reading.{default_config, records, strip_bom}
use Rattle.trust_base.specs.declared.limits.TheConstants.{MAX_FILE_BYTES}
use Rattle.trust_base.specs.Refusals.{refusal_text, status_of}
use Rattle.trust_base.specs.Texts.{matter_of}
use Rattle.trust_base.specs.declared.refusal.Refusal.{Refusal}
use Rattle.trust_base.specs.declared.refusal.Refusal.TheVariants.{TooLarge, Store, Memory}
use Rattle.trust_base.specs.declared.refusal.StoreFault.TheVariants as faults
use Rattle.firm_rows.specs.Firm.{Firm, of}
use Rattle.trust_store.specs.Books.{counted_fault}
use Rattle.trust_store.specs.Crashes.{LeavesAlone}
use Rattle.trust_store.specs.Seen.{Seen}
use Rattle.trust_desk.specs.Crashes.{IsMade}
use Rattle.trust_desk.specs.FirmStep.{Stepped, Steps, firm_step}
use Rattle.trust_desk.specs.Heard.{is_the}
use Rattle.trust_desk.specs.Replies.{is_fault_reply}
use Rattle.trust_desk.specs.declared.requests.Body.{Body}
use Rattle.trust_desk.specs.declared.requests.Body.TheVariants.{Json, Refused, Text}
use Rattle.trust_desk.specs.declared.requests.Reply.{Reply}
use Rattle.day_sheet.specs.Records.{heard_of, text_at}
use Rattle.portal_http.specs.Output.{Output}
use Rattle.cashier.specs.Sent.{IsSent}
use Rattle.cashier.specs.declared.sheet.SheetEnd.{SheetEnd}
use Rattle.cashier.specs.declared.sheet.SheetEnd.TheVariants as end

-- ---- one record

-- what a record does to a firm on a day
abbrev pub record_step : ℕ → Firm → List (List ℕ) → Stepped
record_step day firm fields = firm_step day firm (heard_of fields)

-- ---- lines

-- a status, a space, a body and a line feed
unfoldable pub line_of : ℕ → List ℕ → List ℕ
line_of status body = decimal status ++ (32 ∷ (body ++ 10 ∷ []))

abbrev pub refusal_line : Refusal → List ℕ
refusal_line r = line_of (status_of r) (refusal_text r)

abbrev pub body_line : ℕ → Body → List ℕ
body_line status (Json text) = line_of status text
body_line status (Text text) = text
body_line status (Refused r) = refusal_line r

-- the line of a reply; the lines of a report are unchanged, without a status
abbrev pub reply_line : Reply → List ℕ
reply_line reply = body_line reply.status reply.body

-- ---- what replies say

abbrev pub is_accepting : Body → Bool
is_accepting (Json text) = true
is_accepting (Text text) = true
is_accepting (Refused r) = false

-- ---- all records

-- the lines of records, one each
abbrev pub lines_from : ℕ → Firm → List (List (List ℕ)) → List (List ℕ)
lines_from day firm [] = []
lines_from day firm (r ∷ rest) =
    reply_line (record_step day firm r).reply ∷ lines_from day (record_step day firm r).firm rest

-- the firm after records were run
abbrev pub firm_from : ℕ → Firm → List (List (List ℕ)) → Firm
firm_from day firm [] = firm
firm_from day firm (r ∷ rest) = firm_from day (record_step day firm r).firm rest

-- each record is accepted
abbrev pub all_accepted : ℕ → Firm → List (List (List ℕ)) → Bool
all_accepted day firm [] = true
all_accepted day firm (r ∷ rest) =
    if is_accepting (record_step day firm r).reply.body then all_accepted day (record_step day firm r).firm rest
    else false

-- how a run ends after all records were run, depending on whether one was refused
abbrev pub end_of : Bool → SheetEnd
end_of true = end.Refused
end_of false = end.Done

-- the records of a sheet as CSV, without a byte order mark
abbrev pub sheet_records : List ℕ → List (List (List ℕ))
sheet_records bytes = records default_config (strip_bom bytes)

-- ---- the end of a run

-- these records were run and no others: their lines were written, and `more` after them, and the firm is the one that
-- they leave
pub record Leaves (day : ℕ) (before : Firm) (past : List (List (List ℕ))) (more : List ℕ) (after : Firm)
    (old new : Option (List ℕ)) : Type 0 where
  pub written : Appends old new (concat (lines_from day before past) ++ more)
  pub firm : after ≡ firm_from day before past

-- the records before one, that one, and those after it
pub record Cut (all : List (List (List ℕ))) : Type 0 where
  pub past : List (List (List ℕ))
  pub here : List (List ℕ)
  pub later : List (List (List ℕ))
  pub parts : past ++ here ∷ later ≡ all

-- a record was run, and only a prefix of its line was written
pub record CutsLine (day : ℕ) (before : Firm) (past : List (List (List ℕ))) (here : List (List ℕ)) (after : Firm)
    (old new : Option (List ℕ)) : Type 0 where
  pub reply : Reply
  pub steps : Steps day (firm_from day before past) (heard_of here) reply after
  pub count : ℕ
  pub proper : count < length (reply_line reply)
  pub written : Appends old new (concat (lines_from day before past) ++ take count (reply_line reply))

-- how a run continues after the line of a refusal was written: to the next record, or to its end by a fault
abbrev pub ran_refused : Refusal → Result Bool SheetEnd
ran_refused Store = Err end.Store
ran_refused Memory = Err end.NoMemory
ran_refused _ = Ok false

-- how a run continues after the line of a record with this reply was written: whether it was accepted, or the run's end
abbrev pub ran_by : Body → Result Bool SheetEnd
ran_by (Json text) = Ok true
ran_by (Text text) = Ok true
ran_by (Refused r) = ran_refused r

-- a record was run, its line was written, and its reply decides how the run continues
pub record WritesLine (day : ℕ) (before : Firm) (here : List (List ℕ)) (after : Firm) (old new : Option (List ℕ))
    (ran : Result Bool SheetEnd) : Type 0 where
  pub reply : Reply
  pub steps : Steps day before (heard_of here) reply after
  pub written : Appends old new (reply_line reply)
  pub goes : ran ≡ ran_by reply.body

-- how the run of one record ends: its line was written, or a write failed
abbrev pub RecordEnds : ℕ → Firm → List (List ℕ) → Firm → Option (List ℕ) → Option (List ℕ) → Result Bool SheetEnd
    → Type 0
RecordEnds day before here after old new ran =
    WritesLine day before here after old new ran
    ⊎ ((ran ≡ Err end.WriteFault) × CutsLine day before [] here after old new)

-- the count of calls of the book that returned `Store`, before and after a record: one more if it ends with `Store`
abbrev pub IsCounted : Result Bool SheetEnd → ℕ → ℕ → Type 0
IsCounted (Ok accepted) before after = after ≡ before
IsCounted (Err end.Store) before after = after ≡ counted_fault faults.Store before
IsCounted (Err _) before after = ⊤

-- how a run of these records ends, given the firm before and after, and what was written by then: all lines; nothing if
-- a read failed first; a prefix of that record's line if a write failed; and if the store failed or memory ran out, the
-- lines before, and the refusal's own line if it was the reply to a record
abbrev pub RunEnds : ℕ → Firm → List (List (List ℕ)) → Firm → Option (List ℕ) → Option (List ℕ) → SheetEnd → Type 0
RunEnds day before all after old new end.Done = Leaves day before all [] after old new
    × (all_accepted day before all ≡ true)
RunEnds day before all after old new end.Refused = Leaves day before all [] after old new
    × (all_accepted day before all ≡ false)
RunEnds day before all after old new end.ReadFault = Leaves day before [] [] after old new
RunEnds day before all after old new end.WriteFault = (cut : Cut all)
    × CutsLine day before cut.past cut.here after old new
RunEnds day before all after old new end.Store = (cut : Cut all)
    × Leaves day before cut.past (refusal_line Store) after old new
RunEnds day before all after old new end.NoMemory =
    ((k : ℕ) × Leaves day before (take k all) [] after old new)
    ⊎ ((cut : Cut all) × Leaves day before cut.past (refusal_line Memory) after old new)

-- how a sheet above the limit ends: no record is run, and one line is written
abbrev pub LargeEnds : Firm → Firm → Option (List ℕ) → Option (List ℕ) → SheetEnd → Type 0
LargeEnds before after old new end.Done = ⊥
LargeEnds before after old new end.Refused = Appends old new (refusal_line TooLarge) × (after ≡ before)
LargeEnds before after old new end.ReadFault = Appends old new [] × (after ≡ before)
LargeEnds before after old new end.WriteFault = (n : ℕ) × (n < length (refusal_line TooLarge))
    × Appends old new (take n (refusal_line TooLarge)) × (after ≡ before)
LargeEnds before after old new end.Store = ⊥
LargeEnds before after old new end.NoMemory = Appends old new [] × (after ≡ before)

-- how a sheet of these bytes ends
abbrev pub Ends : ℕ → Firm → List ℕ → Firm → Option (List ℕ) → Option (List ℕ) → SheetEnd → Type 0
Ends day before bytes after old new e =
    MatchBool (nat_lt MAX_FILE_BYTES (length bytes)) (LargeEnds before after old new e)
    (RunEnds day before (sheet_records bytes) after old new e)

-- how a sheet on this input ends, if its bytes are known
abbrev pub SheetEnds : ℕ → Option (List ℕ) → Output → SheetEnd → Firm → Firm → Type 0
SheetEnds day input output e before after =
    IfSome input (λ bytes. Ends day before bytes after output.before output.after e)

-- ---- what a crash leaves of a sheet

-- the records of a sheet that are run: all, or none if it is above the limit
abbrev pub records_run : List ℕ → List (List (List ℕ))
records_run bytes = if nat_lt MAX_FILE_BYTES (length bytes) then [] else sheet_records bytes

-- a text is a proper prefix of a line, which was cut off
abbrev pub IsCutOff : List ℕ → List ℕ → Type 0
IsCutOff line text = (n : ℕ) × (n < length line) × (text ≡ take n line)

-- the line of a refusal, complete or cut off
abbrev pub IsOfRefusal : List ℕ → Type 0
IsOfRefusal text = (r : Refusal) × ((text ≡ refusal_line r) ⊎ IsCutOff (refusal_line r) text)

-- the line of the next of these records, as the firm's step answers it, cut off
abbrev pub IsCutNext : ℕ → Firm → List (List (List ℕ)) → List ℕ → Type 0
IsCutNext day firm [] text = ⊥
IsCutNext day firm (here ∷ later) text = IsCutOff (reply_line (record_step day firm here).reply) text

-- what may follow the lines of the first records: nothing, the line of a refusal, or a part of the next one's
abbrev pub IsBehindLines : ℕ → Firm → List (List (List ℕ)) → List ℕ → Type 0
IsBehindLines day firm later text = (text ≡ []) ⊎ (IsOfRefusal text ⊎ IsCutNext day firm later text)

-- a record was run: its reply is that of the firm's step, or reports a fault. Its line was written completely, and the
-- reply decides how the run continues; or a write failed
pub record TellsLine (day : ℕ) (firm : Firm) (here : List (List ℕ)) (old new : Option (List ℕ))
    (ran : Result Bool SheetEnd) : Type 0 where
  pub reply : Reply
  pub says : (is_fault_reply reply ≡ true) ⊎ (reply ≡ (record_step day firm here).reply)
  pub sent : IsSent (reply_line reply) (ran_by reply.body) (Err end.WriteFault) old new ran

-- all records were run, and each line was written
abbrev pub IsWhole : SheetEnd → Type 0
IsWhole end.Done = ⊤
IsWhole end.Refused = ⊤
IsWhole end.ReadFault = ⊥
IsWhole end.WriteFault = ⊥
IsWhole end.Store = ⊥
IsWhole end.NoMemory = ⊥

-- rows that the next of these records makes
abbrev pub IsNextMade : ℕ → Firm → List (List (List ℕ)) → Firm → Type 0
IsNextMade day firm [] found = ⊥
IsNextMade day firm (here ∷ later) found = IsMade day firm (heard_of here) found

-- a run of records ended: the lines of the first ones were written, and after them no complete line except that of a
-- refusal. If a crash could have left only the rows before, it now leaves those after these records, or those with the
-- next; and if all were run, the store is clean and none is left
pub record LinesAreKept (day : ℕ) (all : List (List (List ℕ))) (output : Output) (ended : SheetEnd) (old new : Seen)
    : Type 0 where
  pub past : List (List (List ℕ))
  pub later : List (List (List ℕ))
  pub parts : past ++ later ≡ all
  pub more : List ℕ
  pub behind : IsBehindLines day (firm_from day old.firm past) later more
  pub written : Appends output.before output.after (concat (lines_from day old.firm past) ++ more)
  pub left : LeavesAlone old.firm old.leaves → (found : Firm) → new.leaves found
      → (found ≡ firm_from day old.firm past) ⊎ IsNextMade day (firm_from day old.firm past) later found
  pub whole : IsWhole ended → (later ≡ []) × new.clean

-- so ends a sheet on this input, if its bytes are known
abbrev pub SheetIsKept : ℕ → Option (List ℕ) → Output → SheetEnd → Seen → Seen → Type 0
SheetIsKept day input output ended old new =
    IfSome input (λ bytes. LinesAreKept day (records_run bytes) output ended old new)

-- ---- the lines of one matter

-- a record names a matter: its second field is the matter's six digits, whatever the other fields are
abbrev pub names_matter : ℕ → List (List ℕ) → Bool
names_matter m fields = is_the m (matter_of (text_at fields 1))

-- the lines at the records that pass a test
abbrev pub lines_at : (List (List ℕ) → Bool) → List (List (List ℕ)) → List (List ℕ) → List (List ℕ)
lines_at test [] lines = []
lines_at test (r ∷ rest) [] = []
lines_at test (r ∷ rest) (line ∷ lines) = if test r then line ∷ lines_at test rest lines else lines_at test rest lines

-- the lines of a matter depend only on its own rows and records: two firms with the same rows of a matter, and records
-- with the same ones that name it, among any others, print the same lines for them
abbrev pub OwnRecordsAlone : Type 0
OwnRecordsAlone =
    (m day : ℕ) (f g : Firm) (a b : List (List (List ℕ))) → of m f ≡ of m g
    → filter (names_matter m) a ≡ filter (names_matter m) b
    → lines_at (names_matter m) a (lines_from day f a) ≡ lines_at (names_matter m) b (lines_from day g b)
