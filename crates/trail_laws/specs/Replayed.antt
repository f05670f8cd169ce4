-- Laws: a matter's acts, with what its rows say, make its rows and acts again from nothing.
use Rattle.std.specs.Prelude.{◌≡◌, ℕ, true, false, List, [], ◌∷◌, flat_map, ℤ, pos, ◌-ℤ◌, Option, Some, None}
use Rattle.std.specs.List.{AllByRecursion}
use Rattle.matter_rows.specs.declared.act.Act.{Act}
use Rattle.matter_rows.specs.declared.act.Deed.{Deed}
use Rattle.matter_rows.specs.declared.act.Deed.TheVariants as deed
use Rattle.matter_rows.specs.declared.claim.ClaimState.{ClaimState}
use Rattle.matter_rows.specs.declared.claim.ClaimState.TheVariants as claim
use Rattle.matter_rows.specs.declared.clearing.Clearing.{Clearing}
use Rattle.matter_rows.specs.declared.deposit.DepositState.{DepositState}
use Rattle.matter_rows.specs.declared.deposit.DepositState.TheVariants as deposit
use Rattle.matter_rows.specs.declared.entry.Entry.{Entry}
use Rattle.matter_rows.specs.declared.entry.Entry.TheVariants as entry
use Rattle.matter_rows.specs.declared.head.Head.{Head}
use Rattle.matter_rows.specs.declared.head.Holder.{Holder}
use Rattle.matter_rows.specs.declared.head.Holder.TheVariants as holder
use Rattle.matter_rows.specs.declared.payment.PaymentState.{PaymentState}
use Rattle.matter_rows.specs.declared.payment.PaymentState.TheVariants as payment
use Rattle.matter_rows.specs.Rows.{Rows, entry_at, is_gone}
use Rattle.matter_rows.specs.Sound.{Sound}
use Rattle.trust_matter.specs.declared.ask.Ask.{Ask}
use Rattle.trust_matter.specs.declared.ask.Ask.TheVariants as ask
use Rattle.trust_matter.specs.Laws.{Doing, AnAsk, ALine}
use Rattle.trail_laws.specs.Dossier.{Dossier, dossier_after_run, dossier_after_step, no_dossier}
use Rattle.trail_laws.specs.Signed.{HasItsAmount, begins_with_opening}

-- What was asked, as the rows still say it.

-- the client that the matter was opened for
abbrev pub held_by : Holder → List (List ℕ)
held_by (holder.Client client) = client ∷ []
held_by (holder.Purged day) = []

abbrev pub clients_in : Option Head → List (List ℕ)
clients_in None = []
clients_in (Some head) = held_by head.holder

-- the ask that made an entry, by its kind
abbrev pub making : ℕ → Entry → Ask
making n (entry.Deposit d) =
    ask.Deposit (record { number = n; amount = d.amount; source = d.source; description = d.description })
making n (entry.Payment p) =
    ask.Propose (record {
      number = n;
      amount = p.amount;
      fund = p.fund;
      payee = p.payee;
      purpose = p.purpose;
      instrument = p.instrument;
    })
making n (entry.Fee f) = ask.EarnFee (record { number = n; amount = f.amount; description = f.description })
making n (entry.Claim c) =
    ask.RaiseClaim (record { number = n; amount = c.amount; against = c.against; reason = c.reason })

-- the part with which a claim was settled
abbrev pub settled_part : ClaimState → List ℕ
settled_part claim.Open = []
settled_part (claim.Offered part) = []
settled_part (claim.Settled s) = s.part ∷ []

abbrev pub settled_parts : Entry → List ℕ
settled_parts (entry.Deposit d) = []
settled_parts (entry.Payment p) = []
settled_parts (entry.Fee f) = []
settled_parts (entry.Claim c) = settled_part c.state

-- What the bank showed, as the rows still say it: a line's day, reference and amount. Its words are kept nowhere.

pub record Showed : Type 0 where
  pub clearing : Clearing
  pub amount : ℤ

-- what cleared a deposit
abbrev pub deposit_cleared : ℕ → DepositState → List Showed
deposit_cleared amount deposit.Held = []
deposit_cleared amount (deposit.Cleared c) = record { clearing = c; amount = pos amount } ∷ []
deposit_cleared amount (deposit.Cancelled day) = []
deposit_cleared amount (deposit.Returned r) = record { clearing = r.clearing; amount = pos amount } ∷ []

-- what took it back
abbrev pub deposit_returned : ℕ → DepositState → List Showed
deposit_returned amount deposit.Held = []
deposit_returned amount (deposit.Cleared c) = []
deposit_returned amount (deposit.Cancelled day) = []
deposit_returned amount (deposit.Returned r) = record { clearing = r.returning; amount = pos 0 -ℤ pos amount } ∷ []

-- what cleared a payment
abbrev pub payment_cleared : ℕ → PaymentState → List Showed
payment_cleared amount payment.Proposed = []
payment_cleared amount payment.Declined = []
payment_cleared amount (payment.Issued day) = []
payment_cleared amount (payment.Cleared c) = record { clearing = c.clearing; amount = pos 0 -ℤ pos amount } ∷ []
payment_cleared amount (payment.Voided v) = []

abbrev pub cleared_by : Entry → List Showed
cleared_by (entry.Deposit d) = deposit_cleared d.amount d.state
cleared_by (entry.Payment p) = payment_cleared p.amount p.state
cleared_by (entry.Fee f) = []
cleared_by (entry.Claim c) = []

abbrev pub returned_by : Entry → List Showed
returned_by (entry.Deposit d) = deposit_returned d.amount d.state
returned_by (entry.Payment p) = []
returned_by (entry.Fee f) = []
returned_by (entry.Claim c) = []

-- What an act was.

-- the ask of its caller on its day
abbrev pub asked_by : Act → Ask → Doing
asked_by act q = AnAsk (record { caller = act.caller; ask = q; day = act.day })

-- the line that the cashier imported on its day
abbrev pub shown_by : ℕ → ℕ → Act → Showed → Doing
shown_by m n act s =
    ALine (record {
      matter = m;
      entry = n;
      line = record {
        date = s.clearing.bank_day;
        reference = [];
        bank_ref = s.clearing.bank_ref;
        amount = s.amount;
        text = [];
      };
    }) act.day

-- these asks or lines of an entry that is there
abbrev pub of_found : (ℕ → Entry → List Doing) → ℕ → Option Entry → List Doing
of_found made n None = []
of_found made n (Some e) = made n e

abbrev pub of_entry : (ℕ → Entry → List Doing) → Rows → Option ℕ → List Doing
of_entry made rows None = []
of_entry made rows (Some n) = of_found made n (entry_at rows.entries n)

-- what was asked, or what the bank showed, when an act was done, as the rows of the matter say it later
abbrev pub own_by_deed : ℕ → Rows → Act → Deed → List Doing
own_by_deed m rows act (deed.Opened lawyer) =
    flat_map (λ client. asked_by act (ask.OpenMatter (record { client = client; lawyer = lawyer })) ∷ [])
    (clients_in rows.head)
own_by_deed m rows act (deed.Seated seat) = asked_by act (ask.AddSeat seat) ∷ []
own_by_deed m rows act (deed.Unseated person) = asked_by act (ask.DropSeat person) ∷ []
own_by_deed m rows act deed.Closed = asked_by act ask.CloseMatter ∷ []
own_by_deed m rows act deed.Deposited = of_entry (λ n e. asked_by act (making n e) ∷ []) rows act.entry
own_by_deed m rows act deed.Cancelled = of_entry (λ n e. asked_by act (ask.CancelDeposit n) ∷ []) rows act.entry
own_by_deed m rows act deed.Cleared =
    of_entry (λ n e. flat_map (λ s. shown_by m n act s ∷ []) (cleared_by e)) rows act.entry
own_by_deed m rows act deed.Returned =
    of_entry (λ n e. flat_map (λ s. shown_by m n act s ∷ []) (returned_by e)) rows act.entry
own_by_deed m rows act deed.Proposed = of_entry (λ n e. asked_by act (making n e) ∷ []) rows act.entry
own_by_deed m rows act deed.Approved = of_entry (λ n e. asked_by act (ask.Approve n) ∷ []) rows act.entry
own_by_deed m rows act deed.Declined = of_entry (λ n e. asked_by act (ask.Decline n) ∷ []) rows act.entry
own_by_deed m rows act deed.Withdrawn = of_entry (λ n e. asked_by act (ask.Withdraw n) ∷ []) rows act.entry
own_by_deed m rows act deed.Voided = of_entry (λ n e. asked_by act (ask.VoidPayment n) ∷ []) rows act.entry
own_by_deed m rows act deed.Earned = of_entry (λ n e. asked_by act (making n e) ∷ []) rows act.entry
own_by_deed m rows act deed.Disputed = of_entry (λ n e. asked_by act (making n e) ∷ []) rows act.entry
own_by_deed m rows act deed.Claimed = of_entry (λ n e. asked_by act (making n e) ∷ []) rows act.entry
own_by_deed m rows act (deed.Offered part) =
    of_entry (λ n e. asked_by act (ask.Offer (record { number = n; to_client = part })) ∷ []) rows act.entry
own_by_deed m rows act deed.Accepted =
    of_entry
    (λ n e.
    flat_map (λ part. asked_by act (ask.Accept (record { number = n; to_client = part })) ∷ []) (settled_parts e))
    rows act.entry
own_by_deed m rows act deed.Awarded =
    of_entry
    (λ n e.
    flat_map (λ part. asked_by act (ask.Award (record { number = n; to_client = part })) ∷ []) (settled_parts e))
    rows act.entry

abbrev pub own_by : ℕ → Rows → Act → List Doing
own_by m rows act = own_by_deed m rows act act.deed

-- the rows say of the act what was asked, or what the bank showed: one ask or one line
abbrev pub IsTold : ℕ → Rows → Act → Type 0
IsTold m rows act = (doing : Doing) × (own_by m rows act ≡ doing ∷ [])

-- the rows say this of each act, and all of it, asked or shown again in order from nothing, makes the same rows and
-- acts
pub record IsReplayed (m : ℕ) (p : Dossier) : Type 0 where
  pub told : AllByRecursion (IsTold m p.rows) p.acts
  pub again : dossier_after_run no_dossier (flat_map (own_by m p.rows) p.acts) ≡ p

-- a dossier whose acts begin with the opening is replayed
abbrev pub IsReplayedIfOpened : ℕ → Dossier → Type 0
IsReplayedIfOpened m p = begins_with_opening p.acts ≡ true → IsReplayed m p

-- the acts are complete: a matter that was never opened, or was purged, has none, and those of another begin with its
-- opening
pub record AreComplete (p : Dossier) : Type 0 where
  pub gone : is_gone p.rows.head ≡ true → p.acts ≡ []
  pub there : is_gone p.rows.head ≡ false → begins_with_opening p.acts ≡ true

-- each step of sound rows keeps a dossier so
abbrev pub StepsKeepReplayed : Type 0
StepsKeepReplayed =
    (m : ℕ) (p : Dossier) (step : Doing) → Sound p.rows → IsReplayedIfOpened m p
    → IsReplayedIfOpened m (dossier_after_step p step)

-- each step of sound rows keeps acts complete
abbrev pub StepsKeepComplete : Type 0
StepsKeepComplete =
    (p : Dossier) (step : Doing) → Sound p.rows → AreComplete p → AreComplete (dossier_after_step p step)

-- after every run of sound rows that had no acts the dossier is replayed, if the acts begin with the opening
abbrev pub LaterRunsAreReplayed : Type 0
LaterRunsAreReplayed =
    (m : ℕ) (rows : Rows) (run : List Doing) → AllByRecursion HasItsAmount run → Sound rows
    → IsReplayedIfOpened m (dossier_after_run (record { rows = rows; acts = [] }) run)

-- after every run from a matter that was never opened its acts are complete, and if it is not gone, it is replayed
abbrev pub RunsAreReplayed : Type 0
RunsAreReplayed =
    (m : ℕ) (run : List Doing) → AllByRecursion HasItsAmount run
    → AreComplete (dossier_after_run no_dossier run)
    × (is_gone (dossier_after_run no_dossier run).rows.head ≡ false → IsReplayed m (dossier_after_run no_dossier run))
