-- Replies, computed from a matter's rows.
use Rattle.std.specs.Prelude.{ℕ, Bool, false, List, [], Option, Some, None, if◌then◌else◌, Result, Ok, Err}
use Rattle.trust_base.specs.declared.refusal.Refusal.{Refusal}
use Rattle.trust_base.specs.Refusals.{status_of, is_fault}
use Rattle.matter_rows.specs.declared.entry.Entry.{Entry}
use Rattle.trust_matter.specs.declared.ask.Ask.{Ask}
use Rattle.trust_matter.specs.declared.ask.Ask.TheVariants as ask
use Rattle.matter_rows.specs.Rows.{Rows, entry_at}
use Rattle.matter_rows.specs.Balances.{left_of}
use Rattle.trust_matter.specs.Facts.{Asked, facts_of}
use Rattle.trust_matter.specs.Conditions.{is_repeat, is_text}
use Rattle.trust_matter.specs.Step.{refusal, rows_after}
use Rattle.trust_desk.specs.declared.requests.Reply.{Reply}
use Rattle.trust_desk.specs.declared.requests.Body.{Body}
use Rattle.trust_desk.specs.declared.requests.Body.TheVariants.{Json, Refused, Text}
use Rattle.json_bodies.specs.Bodies.{matter_body, purge_body, receipt_body, entry_body}
use Rattle.json_bodies.specs.Listed.{entries_body}
use Rattle.trust_reports.specs.TextsOfAccounts.{account_text_of}
use Rattle.trust_reports.specs.TextsOfLedgers.{ledger_card_of}

-- the reply to a refused request
abbrev pub refused : Refusal → Reply
refused r = record { status = status_of r; body = Refused r }

-- the reply that was made, or the one to the refusal
abbrev pub reply_for : Result Reply Refusal → Reply
reply_for (Ok reply) = reply
reply_for (Err r) = refused r

-- the reply to a request for a text: the text, or the refusal
abbrev pub text_reply : Result (List ℕ) Refusal → Reply
text_reply (Ok text) = record { status = 200; body = Text text }
text_reply (Err r) = refused r

-- the reply to a request for an answer in JSON: the answer, or the refusal
abbrev pub json_reply : Result (List ℕ) Refusal → Reply
json_reply (Ok json) = record { status = 200; body = Json json }
json_reply (Err r) = refused r

-- Faults.

abbrev pub is_fault_body : Body → Bool
is_fault_body (Json text) = false
is_fault_body (Text text) = false
is_fault_body (Refused r) = is_fault r

-- only a failing store or lack of memory can cause this reply
abbrev pub is_fault_reply : Reply → Bool
is_fault_reply reply = is_fault_body reply.body

-- Accepted asks.

-- the entry as it was made, in JSON
abbrev pub made_text : ℕ → ℕ → Option Entry → List ℕ
made_text m n None = []
made_text m n (Some e) = receipt_body m n e

-- the entry as it is now, in JSON, with what is left of it
abbrev pub shown_text : ℕ → ℕ → List Entry → Option Entry → List ℕ
shown_text m n es None = []
shown_text m n es (Some e) = entry_body m n e (left_of es n e)

-- the body from the rows of matter m after an ask: the matter, the entry as it was made, the entry as it is now, all
-- entries, the ledger card, or the account of a period
abbrev pub body_of : ℕ → Rows → Ask → List ℕ
body_of m rows (ask.OpenMatter a) = matter_body m rows
body_of m rows (ask.AddSeat s) = matter_body m rows
body_of m rows (ask.DropSeat p) = matter_body m rows
body_of m rows (ask.Deposit a) = made_text m a.number (entry_at rows.entries a.number)
body_of m rows (ask.CancelDeposit n) = shown_text m n rows.entries (entry_at rows.entries n)
body_of m rows (ask.Propose a) = made_text m a.number (entry_at rows.entries a.number)
body_of m rows (ask.Approve n) = shown_text m n rows.entries (entry_at rows.entries n)
body_of m rows (ask.Decline n) = shown_text m n rows.entries (entry_at rows.entries n)
body_of m rows (ask.Withdraw n) = shown_text m n rows.entries (entry_at rows.entries n)
body_of m rows (ask.VoidPayment n) = shown_text m n rows.entries (entry_at rows.entries n)
body_of m rows (ask.EarnFee a) = made_text m a.number (entry_at rows.entries a.number)
body_of m rows (ask.RaiseClaim a) = made_text m a.number (entry_at rows.entries a.number)
body_of m rows (ask.Offer a) = shown_text m a.number rows.entries (entry_at rows.entries a.number)
body_of m rows (ask.Accept a) = shown_text m a.number rows.entries (entry_at rows.entries a.number)
body_of m rows (ask.Award a) = shown_text m a.number rows.entries (entry_at rows.entries a.number)
body_of m rows ask.CloseMatter = matter_body m rows
body_of m rows ask.Purge = purge_body m rows
body_of m rows ask.Show = matter_body m rows
body_of m rows (ask.ShowEntry n) = shown_text m n rows.entries (entry_at rows.entries n)
body_of m rows ask.ShowEntries = entries_body m rows
body_of m rows ask.Accounting = ledger_card_of m rows
body_of m rows (ask.Account period) = account_text_of period m rows

-- the ledger card and the account are lines of text, and everything else is JSON
abbrev pub said : Ask → List ℕ → Body
said a text = if is_text a then Text text else Json text

-- 201 if something is made, which a repeat does not do
abbrev pub success_of : Ask → Bool → ℕ
success_of (ask.OpenMatter a) again = 201
success_of (ask.Deposit a) again = if again then 200 else 201
success_of (ask.Propose a) again = if again then 200 else 201
success_of (ask.EarnFee a) again = if again then 200 else 201
success_of (ask.RaiseClaim a) again = if again then 200 else 201
success_of _ again = 200

-- the reply to an accepted ask
abbrev pub accepted : ℕ → Rows → Asked → Reply
accepted m rows a = record {
  status = success_of a.ask (is_repeat (facts_of rows a.ask) a);
  body = said a.ask (body_of m (rows_after rows a) a.ask);
}

abbrev pub replied : Option Refusal → ℕ → Rows → Asked → Reply
replied None m rows a = accepted m rows a
replied (Some r) m rows a = refused r

-- the reply that the rows of matter m alone give to an ask
abbrev pub reply_of : ℕ → Rows → Asked → Reply
reply_of m rows a = replied (refusal rows a) m rows a
