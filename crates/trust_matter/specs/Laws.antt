-- Laws over the definitions.
use Rattle.std.specs.Prelude.{◌≡◌, ℕ, ◌≤◌, ◌<◌, ◌⊎◌, Bool, true, false, List, [], ◌∷◌, ◌++◌, map, length, Option, Some, None, IsSome}
use Rattle.std.specs.List.{AllByRecursion}
use Rattle.trust_base.specs.declared.refusal.Refusal.{Refusal}
use Rattle.trust_base.specs.declared.refusal.Refusal.TheVariants as refusals
use Rattle.trust_base.specs.Refusals.{number_of}
pub use Rattle.matter_rows.specs.Laws.{Covered}
use Rattle.matter_rows.specs.declared.entry.Entry.{Entry}
use Rattle.matter_rows.specs.Rows.{Rows, as_made, last_of, closed_on, is_purged}
use Rattle.matter_rows.specs.Sound.{Sound}
use Rattle.matter_parts.specs.Purging.{stub_rows}
use Rattle.trust_matter.specs.declared.bank_line.BankLine.{BankLine}
use Rattle.trust_matter.specs.declared.line_verdict.Reason.{Reason}
use Rattle.trust_matter.specs.declared.line_verdict.LineEffect.TheVariants as told
use Rattle.trust_matter.specs.Facts.{Facts, Asked, facts_of}
use Rattle.trust_matter.specs.Conditions.{is_purging, is_repeat, number_made}
use Rattle.trust_matter.specs.Step.{conditions, refusal_of, refusal, rows_after, HasAmount}
use Rattle.trust_matter.specs.LineStep.{line_facts, reasons, line_on, rows_after_line, IsApplied}
use Rattle.trust_base.specs.TheConstants.{MAX_ENTRY}

-- no ask with an amount in range leaves a matter unsound
abbrev pub SoundForEver : Type 0
SoundForEver = (rows : Rows) (a : Asked) → HasAmount a.ask → Sound rows → Sound (rows_after rows a)

-- no bank line leaves a matter unsound, whatever its date and whenever it is imported
abbrev pub LinesKeepSound : Type 0
LinesKeepSound = (rows : Rows) (l : BankLine) (today : ℕ) → Sound rows → Sound (rows_after_line rows l today)

-- the refusal is in the list, and its condition holds
abbrev pub Stands : List (Bool × Refusal) → Refusal → Type 0
Stands [] r = ⊥
Stands (c ∷ cs) r = ((c.0 ≡ true) × (c.1 ≡ r)) ⊎ Stands cs r

-- the condition of the refusal holds
abbrev pub Holds : Facts → Asked → Refusal → Type 0
Holds f a r = Stands (conditions f a) r

-- the least number whose condition holds; for a repeat, at most 10
pub record IsLeast (f : Facts) (a : Asked) (r : Refusal) : Type 0 where
  pub holds : Holds f a r
  pub least : (q : Refusal) → Holds f a q → number_of r ≤ number_of q
  pub repeat : is_repeat f a ≡ true → number_of r ≤ 10

-- a refusal has the least number whose condition holds
abbrev pub LeastRefusal : Type 0
LeastRefusal = (f : Facts) (a : Asked) (r : Refusal) → refusal_of f a ≡ Some r → IsLeast f a r

-- if nothing is refused, no condition holds; for a repeat, none up to number 10
abbrev pub NoneHolds : Type 0
NoneHolds =
    (f : Facts) (a : Asked) (r : Refusal) → refusal_of f a ≡ None → Holds f a r
    → (is_repeat f a ≡ true) × (10 < number_of r)

-- none of these reasons holds
abbrev pub NoReasonHolds : List (Bool × Reason) → Type 0
NoReasonHolds cs = AllByRecursion (λ c. c.0 ≡ false) cs

-- the reason holds, and none before it in the table does
pub record IsFirstReason (cs : List (Bool × Reason)) (r : Reason) : Type 0 where
  pub before : List (Bool × Reason)
  pub behind : List (Bool × Reason)
  pub table : cs ≡ before ++ (true, r) ∷ behind
  pub none_before : NoReasonHolds before

-- the reasons against a line, each with whether it holds
abbrev pub reasons_on : Rows → BankLine → ℕ → List (Bool × Reason)
reasons_on rows l today = reasons (line_facts rows l today)

-- a line that matches no entry is given the first reason that holds
abbrev pub FirstReason : Type 0
FirstReason =
    (rows : Rows) (l : BankLine) (today : ℕ) (r : Reason) → line_on rows l today ≡ told.Unmatched r
    → IsFirstReason (reasons_on rows l today) r

-- if a line is applied, no reason against it holds
abbrev pub NoReason : Type 0
NoReason =
    (rows : Rows) (l : BankLine) (today : ℕ) → IsApplied (line_on rows l today)
    → NoReasonHolds (reasons_on rows l today)

-- the entries as they were first made, by number
abbrev pub made_in : Rows → List Entry
made_in rows = map as_made rows.entries

-- everything that was made is still there, perhaps with more after it
abbrev pub Grows : Rows → Rows → Type 0
Grows rows later = (more : List Entry) × (made_in later ≡ made_in rows ++ more)

-- no ask except a purge removes an entry, or changes its kind, its day or what was asked
abbrev pub MadeStays : Type 0
MadeStays = (rows : Rows) (a : Asked) → is_purging a.ask ≡ false → Grows rows (rows_after rows a)

-- after any ask, everything that was made is still there, or the matter is purged
abbrev pub MadeStaysOrGoes : Type 0
MadeStaysOrGoes =
    (rows : Rows) (a : Asked) → Grows rows (rows_after rows a) ⊎ (is_purged (rows_after rows a).head ≡ true)

-- no bank line removes an entry, or changes its kind, its day or what was asked
abbrev pub LinesLeaveMade : Type 0
LinesLeaveMade = (rows : Rows) (l : BankLine) (today : ℕ) → Grows rows (rows_after_line rows l today)

-- what happens to a matter: an ask, or a bank line on a business day
pub data Doing : Type 0 where
  AnAsk : (asked : Asked) → Doing
  ALine : (line : BankLine) (today : ℕ) → Doing

abbrev pub after_doing : Rows → Doing → Rows
after_doing rows (AnAsk a) = rows_after rows a
after_doing rows (ALine l today) = rows_after_line rows l today

-- the rows after a sequence of asks and lines
abbrev pub all_after : Rows → List Doing → Rows
all_after rows [] = rows
all_after rows (d ∷ more) = all_after (after_doing rows d) more

-- nothing changes a purged matter
abbrev pub PurgedStays : Type 0
PurgedStays = (rows : Rows) (d : Doing) → is_purged rows.head ≡ true → after_doing rows d ≡ rows

-- if an ask that makes an entry was accepted, asking it again changes nothing, whoever asks, on whatever day, and
-- whatever asks and bank lines came in between, even a purge
abbrev pub AskUnchanged : Type 0
AskUnchanged =
    (rows : Rows) (a again : Asked) (between : List Doing) → IsSome (number_made a.ask) → refusal rows a ≡ None
    → again.ask ≡ a.ask
    → rows_after (all_after (rows_after rows a) between) again ≡ all_after (rows_after rows a) between

-- and the second ask is a repeat, as long as the matter is not purged
abbrev pub AskRepeat : Type 0
AskRepeat =
    (rows : Rows) (a again : Asked) (between : List Doing) → IsSome (number_made a.ask) → refusal rows a ≡ None
    → again.ask ≡ a.ask
    → is_purged (all_after (rows_after rows a) between).head ≡ false
    → is_repeat (facts_of (all_after (rows_after rows a) between) again.ask) again ≡ true

-- a line for the same entry with the same date, bank reference and amount; the text may differ
pub record IsSameLine (l again : BankLine) : Type 0 where
  pub entry : again.entry ≡ l.entry
  pub date : again.line.date ≡ l.line.date
  pub bank_ref : again.line.bank_ref ≡ l.line.bank_ref
  pub amount : again.line.amount ≡ l.line.amount

-- if a line was applied, the same line changes nothing, on whatever day, and whatever asks and bank lines came in
-- between, even a purge
abbrev pub LineUnchanged : Type 0
LineUnchanged =
    (rows : Rows) (l again : BankLine) (today later : ℕ) (between : List Doing) → IsApplied (line_on rows l today)
    → IsSameLine l again
    → rows_after_line (all_after (rows_after_line rows l today) between) again later
    ≡ all_after (rows_after_line rows l today) between

-- and the second line is a repeat, as long as the matter is not purged
abbrev pub LineRepeat : Type 0
LineRepeat =
    (rows : Rows) (l again : BankLine) (today later : ℕ) (between : List Doing) → IsApplied (line_on rows l today)
    → IsSameLine l again
    → is_purged (all_after (rows_after_line rows l today) between).head ≡ false
    → line_on (all_after (rows_after_line rows l today) between) again later ≡ told.Repeat

-- the stub of a sound closed matter is sound
abbrev pub StubIsSound : Type 0
StubIsSound =
    (day : ℕ) (rows : Rows) → Sound rows → IsSome (closed_on rows.head) → last_of rows.head ≤ day
    → Sound (stub_rows day rows)

-- the ask is refused without stating a next number
abbrev pub TellsNoNumber : Option Refusal → Type 0
TellsNoNumber None = ⊥
TellsNoNumber (Some (refusals.WrongNumber next)) = next ≡ None
TellsNoNumber (Some r) = Unit {0}

-- a matter with 9,999 entries takes no more
abbrev pub FullTakesNone : Type 0
FullTakesNone =
    (rows : Rows) (a : Asked) → length rows.entries ≡ MAX_ENTRY → IsSome (number_made a.ask)
    → is_repeat (facts_of rows a.ask) a ≡ false → TellsNoNumber (refusal rows a)
