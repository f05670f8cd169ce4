-- What an import would do with an exception now, and why it would not apply it.
use Rattle.std.specs.Prelude.{ℕ, not, nat_le, nat_lt, List, [], ◌∷◌, ◌++◌, codes, map, ℤ, pos, ◌+ℤ◌, Option, Some, None, if◌then◌else◌}
use Rattle.std.specs.List.{list_any}
use Rattle.std.specs.Ordering.{int_eq}
use Rattle.json.specs.Token.{Token}
use Rattle.json.specs.Token as token
use Rattle.serde_json.specs.Data.{Data, string}
use Rattle.serde_json.specs.Written.{compact_text}
use Rattle.trust_base.specs.declared.line.Line.{Line}
use Rattle.matter_rows.specs.declared.entry.Entry.{Entry}
use Rattle.matter_rows.specs.declared.entry.Entry.TheVariants as entry
use Rattle.matter_rows.specs.Rows.{Rows, entry_at}
use Rattle.matter_rows.specs.Balances.{available}
use Rattle.trust_matter.specs.declared.bank_line.BankLine.{BankLine}
use Rattle.trust_matter.specs.declared.line_verdict.LineEffect.{LineEffect}
use Rattle.trust_matter.specs.declared.line_verdict.LineEffect.TheVariants as told
use Rattle.trust_matter.specs.declared.line_verdict.Reason.TheVariants as unmatched
use Rattle.trust_matter.specs.LineStep.{amount_in, line_on}
use Rattle.firm_rows.specs.declared.ledger.BalanceKind.TheVariants as kind
use Rattle.firm_rows.specs.declared.ledger.FirmLine.{FirmLine}
use Rattle.firm_rows.specs.declared.ledger.Verdict.{Verdict}
use Rattle.firm_rows.specs.declared.ledger.Verdict.TheVariants as verdict
use Rattle.firm_rows.specs.Firm.{Firm, of}
use Rattle.firm_rows.specs.FirmLines.{balance_of, is_kept_as, is_own_balance, kept_balance}
use Rattle.statement_csv.specs.declared.item.Item.{Item}
use Rattle.statement_csv.specs.declared.item.Item.TheVariants as item
use Rattle.statement_csv.specs.Items.{item_of_line}
use Rattle.json_bodies.specs.Bodies.{deposit_state_name, payment_state_name}
use Rattle.json_bodies.specs.Json.{amount_value, array_of, day_value, member_tokens, object_of, sum_value}

-- an import would apply the line, or take it as a repeat; or the first reason why it would not
pub data ExceptionReason : Type 0 where
  Applies : ExceptionReason
  Repeat : ExceptionReason
  -- its reference names nothing that the firm keeps
  Stray : ExceptionReason
  -- it is dated after the business day
  Future : ExceptionReason
  NoMatter : ExceptionReason
  NoEntry : ExceptionReason
  -- the kind of the entry, which no line clears
  WrongKind : (kind : List ℕ) → ExceptionReason
  -- the state of the entry, in which no line clears it
  WrongState : (state : List ℕ) → ExceptionReason
  -- the entry's amount, in cents
  WrongAmount : (amount : ℕ) → ExceptionReason
  -- what is available in the matter, which does not cover what the line takes back
  Uncovered : (available : ℤ) → ExceptionReason
  -- a line of the firm's own that moves nothing
  Zero : ExceptionReason
  -- what the firm's own ledger holds, which the line would leave below zero or above its bound
  Beyond : (balance : ℤ) → ExceptionReason
  -- the balance that is kept of its kind and day
  OtherBalance : (kept : ℤ) → ExceptionReason

-- A line that names an entry.

abbrev pub kind_word : Option Entry → List ℕ
kind_word None = []
kind_word (Some (entry.Deposit d)) = codes "deposit"
kind_word (Some (entry.Payment p)) = codes "payment"
kind_word (Some (entry.Fee f)) = codes "fee"
kind_word (Some (entry.Claim c)) = codes "claim"

-- the state of a deposit or a payment
abbrev pub state_word : Option Entry → List ℕ
state_word None = []
state_word (Some (entry.Deposit d)) = deposit_state_name d.state
state_word (Some (entry.Payment p)) = payment_state_name p.state
state_word (Some (entry.Fee f)) = []
state_word (Some (entry.Claim c)) = []

-- why a line has its verdict, from the entry that it names and what is available
abbrev pub effect_reason : Option Entry → ℤ → LineEffect → ExceptionReason
effect_reason e free (told.Applied d) = Applies
effect_reason e free told.Repeat = Repeat
effect_reason e free (told.Unmatched unmatched.Future) = Future
effect_reason e free (told.Unmatched unmatched.NoMatter) = NoMatter
effect_reason e free (told.Unmatched unmatched.NoEntry) = NoEntry
effect_reason e free (told.Unmatched unmatched.WrongKind) = WrongKind (kind_word e)
effect_reason e free (told.Unmatched unmatched.WrongState) = WrongState (state_word e)
effect_reason e free (told.Unmatched unmatched.WrongAmount) = WrongAmount (amount_in e)
effect_reason e free (told.Unmatched unmatched.Uncovered) = Uncovered free

abbrev pub matter_reason : Rows → BankLine → ℕ → ExceptionReason
matter_reason rows l today =
    effect_reason (entry_at rows.entries l.entry) (available rows.entries) (line_on rows l today)

-- A line of the firm's own, and a balance.

abbrev pub own_reason : List FirmLine → Line → ℕ → ExceptionReason
own_reason lines line today =
    if list_any (is_kept_as line) lines then Repeat
    else (if nat_lt today line.date then Future
    else (if int_eq line.amount (pos 0) then Zero
    else (if is_own_balance (balance_of lines +ℤ line.amount) then Applies
    else Beyond (balance_of lines))))

-- given the one that is kept of its kind and day, if any
abbrev pub balance_reason : Option ℤ → Line → ℕ → ExceptionReason
balance_reason None line today = if nat_le line.date today then Applies else Future
balance_reason (Some kept) line today =
    if int_eq kept line.amount then Repeat
    else (if nat_lt today line.date then Future else OtherBalance kept)

-- The reason of an exception.

abbrev pub item_reason : ℕ → Firm → Item → ExceptionReason
item_reason today firm (item.Opening line) =
    balance_reason (kept_balance kind.Opening line.date firm.balances) line today
item_reason today firm (item.Closing line) =
    balance_reason (kept_balance kind.Closing line.date firm.balances) line today
item_reason today firm (item.OfMatter l) = matter_reason (of l.matter firm) l today
item_reason today firm (item.OfFirm line) = own_reason firm.firm_lines line today
item_reason today firm (item.Stray line) = Stray
item_reason today firm (item.Unreadable number) = Stray

-- of a line on a business day, as if it were the first record of a statement
abbrev pub reason_of : ℕ → Firm → Line → ExceptionReason
reason_of today firm line = item_reason today firm (item_of_line 1 line)

-- what an import does with a line for this reason
abbrev pub verdict_for : ExceptionReason → Verdict
verdict_for Applies = verdict.Applied
verdict_for Repeat = verdict.Repeat
verdict_for Stray = verdict.Unmatched
verdict_for Future = verdict.Unmatched
verdict_for NoMatter = verdict.Unmatched
verdict_for NoEntry = verdict.Unmatched
verdict_for (WrongKind word) = verdict.Unmatched
verdict_for (WrongState word) = verdict.Unmatched
verdict_for (WrongAmount amount) = verdict.Unmatched
verdict_for (Uncovered free) = verdict.Unmatched
verdict_for Zero = verdict.Unmatched
verdict_for (Beyond balance) = verdict.Unmatched
verdict_for (OtherBalance kept) = verdict.Unmatched

-- As JSON: a name, and at most one more key.

abbrev pub named : List ℕ → Data
named name = object_of ((codes "name", string name) ∷ [])

-- a sum under a key that stands before `name`
abbrev pub named_sum : List ℕ → Data → List ℕ → Data
named_sum key sum name = object_of ((key, sum) ∷ (codes "name", string name) ∷ [])

abbrev pub reason_value : ExceptionReason → Data
reason_value Applies = named (codes "Applies")
reason_value Repeat = named (codes "Repeat")
reason_value Stray = named (codes "Stray")
reason_value Future = named (codes "Future")
reason_value NoMatter = named (codes "NoMatter")
reason_value NoEntry = named (codes "NoEntry")
reason_value (WrongKind word) = named_sum (codes "kind") (string word) (codes "WrongKind")
reason_value (WrongState word) =
    object_of ((codes "name", string (codes "WrongState")) ∷ (codes "state", string word) ∷ [])
reason_value (WrongAmount amount) = named_sum (codes "amount") (amount_value amount) (codes "WrongAmount")
reason_value (Uncovered free) = named_sum (codes "available") (sum_value free) (codes "Uncovered")
reason_value Zero = named (codes "Zero")
reason_value (Beyond balance) = named_sum (codes "balance") (sum_value balance) (codes "Beyond")
reason_value (OtherBalance kept) = named_sum (codes "kept") (sum_value kept) (codes "OtherBalance")

abbrev pub exception_object : ℕ → Firm → Line → Data
exception_object today firm line = object_of (
    (codes "amount", sum_value line.amount)
    ∷ (codes "bank_ref", string line.bank_ref)
    ∷ (codes "date", day_value line.date)
    ∷ (codes "reason", reason_value (reason_of today firm line))
    ∷ (codes "reference", string line.reference)
    ∷ (codes "text", string line.text)
    ∷ [])

-- the tokens of an exception's object before its reason, and behind it
abbrev pub before_reason : Line → List Token
before_reason line =
    token.begin_object
    ∷ (member_tokens (codes "amount") (sum_value line.amount)
    ++ (member_tokens (codes "bank_ref") (string line.bank_ref)
    ++ (member_tokens (codes "date") (day_value line.date) ++ token.key (codes "reason") ∷ [])))

abbrev pub after_reason : Line → List Token
after_reason line =
    member_tokens (codes "reference") (string line.reference)
    ++ (member_tokens (codes "text") (string line.text) ++ token.end_object ∷ [])

abbrev pub exceptions_object : ℕ → Firm → Data
exceptions_object today firm =
    object_of ((codes "exceptions", array_of (map (exception_object today firm) firm.exceptions)) ∷ [])

-- the body that lists the exceptions of a business day, each with its reason
unfoldable pub reasons_body : ℕ → Firm → List ℕ
reasons_body today firm = compact_text (exceptions_object today firm)
