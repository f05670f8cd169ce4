-- What was asked and accepted adds at most one entry, and a line is applied at most once, however often they are sent.
-- This holds for a line that names an entry, for one of the firm's own, and for a balance.
use Rattle.std.specs.Prelude.{true, ℕ, ◌≡◌, ◌≢◌, false, List, [], ◌∷◌, IsSome, Some, None}
use Rattle.trust_base.specs.declared.line.Line.{Line}
use Rattle.trust_matter.specs.declared.bank_line.BankLine.{BankLine}
use Rattle.matter_rows.specs.Rows.{is_purged}
use Rattle.trust_matter.specs.Facts.{Asked, facts_of}
use Rattle.trust_matter.specs.Conditions.{is_repeat, number_made}
use Rattle.trust_matter.specs.Step.{refusal}
use Rattle.trust_matter.specs.Laws.{IsSameLine}
use Rattle.firm_rows.specs.declared.ledger.BalanceKind.{BalanceKind}
use Rattle.firm_rows.specs.Firm.{Firm, of, after_match, after_stray}
use Rattle.firm_rows.specs.FirmLines.{kept_balance}
use Rattle.statement_csv.specs.declared.item.Item.{Item}
use Rattle.statement_csv.specs.declared.item.Item.TheVariants as item
use Rattle.trust_desk.specs.declared.importing.Counted.TheVariants as counted
use Rattle.trust_desk.specs.declared.requests.Reply.{Reply}
use Rattle.trust_desk.specs.Heard.{Heard}
use Rattle.trust_desk.specs.ItemStep.{after_item, after_items, balance_item, counted_of}
use Rattle.trust_desk.specs.FirmStep.{after_ask, Runs}

-- what is heard on a day, and the replies
pub record DayRun : Type 0 where
  pub day : ℕ
  pub heard : List Heard
  pub replies : List Reply

-- runs on days, in sequence
abbrev pub RunsOn : Firm → List DayRun → Firm → Type 0
RunsOn firm [] new = new ≡ firm
RunsOn firm (run ∷ runs) new = (mid : Firm) × Runs run.day firm run.heard run.replies mid × RunsOn mid runs new

-- the ask changes nothing in the firm, and is a repeat as long as the matter is not purged
pub record IsAskSpent (m : ℕ) (a : Asked) (firm : Firm) : Type 0 where
  pub unchanged : after_ask m a firm ≡ firm
  pub repeat : is_purged (of m firm).head ≡ false → is_repeat (facts_of (of m firm) a.ask) a ≡ true

-- an accepted ask that makes an entry changes nothing in the firm when it comes again, whoever asks, on any day,
-- whatever was run in between, with or without faults, even a purge; and it is a repeat as long as the matter is not
-- purged
abbrev pub OnceOnly : Type 0
OnceOnly =
    (m : ℕ) (a again : Asked) (firm new : Firm) (between : List DayRun) → IsSome (number_made a.ask)
    → refusal (of m firm) a ≡ None
    → RunsOn (after_ask m a firm) between new → again.ask ≡ a.ask
    → IsAskSpent m again new

-- How an item with a line ends.

-- it is a repeat: the line is not an exception any more, and nothing else changes
pub record IsRepeated (day : ℕ) (firm : Firm) (it : Item) (line : Line) : Type 0 where
  pub repeat : counted_of day firm it ≡ counted.Repeated
  pub leaves : after_item day firm it ≡ after_match line firm

-- it matches nothing: the line is now an exception, and nothing else changes
pub record IsUnmatched (day : ℕ) (firm : Firm) (it : Item) (line : Line) : Type 0 where
  pub exception : counted_of day firm it ≡ counted.Exception
  pub leaves : after_item day firm it ≡ after_stray line firm

-- A line that names an entry.

-- the same line of the same matter, with any text
pub record ComesAgain (l again : BankLine) : Type 0 where
  pub matter : again.matter ≡ l.matter
  pub line : IsSameLine l again

-- the line changes no matter, moves nothing and is remembered by no act, and is a repeat as long as its matter is not
-- purged
pub record IsLineOver (day : ℕ) (firm : Firm) (l : BankLine) : Type 0 where
  pub rows : (after_item day firm (item.OfMatter l)).rows ≡ firm.rows
  pub movements : (after_item day firm (item.OfMatter l)).movements ≡ firm.movements
  pub acts : (after_item day firm (item.OfMatter l)).acts ≡ firm.acts
  pub repeat : is_purged (of l.matter firm).head ≡ false → IsRepeated day firm (item.OfMatter l) l.line

-- an applied line changes nothing when it comes again, and is a repeat as long as its matter is not purged: in any
-- file, after the rest of its own file and the first items of the one in which it comes again, on any day, whatever was
-- run in between, with or without faults
abbrev pub LineOnceOnly : Type 0
LineOnceOnly =
    (l again : BankLine) (day later : ℕ) (firm mid : Firm) (rest front : List Item) (between : List DayRun)
    → counted_of day firm (item.OfMatter l) ≡ counted.Applied → ComesAgain l again
    → RunsOn (after_items day firm (item.OfMatter l ∷ rest)) between mid
    → IsLineOver later (after_items later mid front) again

-- A line of the firm's own.

-- a line with the same date, bank reference and amount, and any text
pub record IsSameFirmLine (line again : Line) : Type 0 where
  pub date : again.date ≡ line.date
  pub bank_ref : again.bank_ref ≡ line.bank_ref
  pub amount : again.amount ≡ line.amount

-- a line of the firm's own that was applied or repeated is a repeat when it comes again: in any file, on any day,
-- whatever was run in between, with or without faults, even a purge
abbrev pub FirmLineOnce : Type 0
FirmLineOnce =
    (line again : Line) (day later : ℕ) (firm mid : Firm) (rest front : List Item) (between : List DayRun)
    → counted_of day firm (item.OfFirm line) ≢ counted.Exception → IsSameFirmLine line again
    → RunsOn (after_items day firm (item.OfFirm line ∷ rest)) between mid
    → IsRepeated later (after_items later mid front) (item.OfFirm again) again

-- A balance.

-- the balance is on file for its kind and day with its amount; another of the same amount is a repeat, and one of
-- another amount matches nothing
pub record IsBalanceOver (day : ℕ) (firm : Firm) (k : BalanceKind) (line again : Line) : Type 0 where
  pub kept : kept_balance k line.date firm.balances ≡ Some line.amount
  pub same : again.amount ≡ line.amount → IsRepeated day firm (balance_item k again) again
  pub other : again.amount ≢ line.amount → IsUnmatched day firm (balance_item k again) again

-- a balance that was applied or repeated stays on file, and no other of its kind and day is ever applied: in any file,
-- on any day, whatever was run in between, with or without faults, even a purge
abbrev pub BalanceOnce : Type 0
BalanceOnce =
    (k : BalanceKind) (line again : Line) (day later : ℕ) (firm mid : Firm) (rest front : List Item)
    (between : List DayRun) → counted_of day firm (balance_item k line) ≢ counted.Exception → again.date ≡ line.date
    → RunsOn (after_items day firm (balance_item k line ∷ rest)) between mid
    → IsBalanceOver later (after_items later mid front) k line again
