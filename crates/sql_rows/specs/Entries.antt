-- The columns of an entry, by kind and state.
use Rattle.std.specs.Prelude.{◌≡◌, ◌≤◌, ℕ, ℤ, pos, List, []}
use Rattle.trust_values.specs.Limits.{IsDay, IsEntryNo, IsAmount, IsAmountOrZero}
use Rattle.trust_base.specs.BankTexts.{IsBankText}
use Rattle.trust_base.specs.Names.{IsLabel}
use Rattle.matter_rows.specs.declared.limits.TheConstants.{MAX_TOTAL}
use Rattle.matter_rows.specs.declared.clearing.Clearing.{Clearing}
use Rattle.matter_rows.specs.declared.payment.Fund.{Fund}
use Rattle.matter_rows.specs.declared.payment.Fund.TheVariants as fund
use Rattle.matter_rows.specs.declared.deposit.Deposit.{Deposit}
use Rattle.matter_rows.specs.declared.deposit.ReturnedDeposit.{ReturnedDeposit}
use Rattle.matter_rows.specs.declared.deposit.DepositState.{DepositState}
use Rattle.matter_rows.specs.declared.deposit.DepositState.TheVariants as deposit
use Rattle.matter_rows.specs.declared.payment.Payment.{Payment}
use Rattle.matter_rows.specs.declared.payment.PaymentState.{PaymentState}
use Rattle.matter_rows.specs.declared.payment.PaymentState.TheVariants as payment
use Rattle.matter_rows.specs.declared.fee.Fee.{Fee}
use Rattle.matter_rows.specs.declared.claim.Claim.{Claim}
use Rattle.matter_rows.specs.declared.claim.ClaimState.{ClaimState}
use Rattle.matter_rows.specs.declared.claim.ClaimState.TheVariants as claim
use Rattle.matter_rows.specs.declared.claim.Against.{Against}
use Rattle.matter_rows.specs.declared.claim.Against.TheVariants as against
use Rattle.matter_rows.specs.declared.entry.Entry.{Entry}
use Rattle.matter_rows.specs.declared.entry.Entry.TheVariants as entry
use Rattle.matter_parts.specs.declared.kept.Kept.{Kept}
use Rattle.sql_tables.specs.Rows as table
use Rattle.sql_rows.specs.Codes.{deposit_kind, payment_kind, fee_kind, claim_kind}
use Rattle.sql_rows.specs.Codes.{deposit_held, deposit_cleared, deposit_cancelled, deposit_returned}
use Rattle.sql_rows.specs.Codes.{payment_proposed, payment_declined, payment_issued, payment_cleared, payment_voided}
use Rattle.sql_rows.specs.Codes.{claim_open, claim_offered, claim_settled, general_fund, fee_fund, claim_fund}

-- the columns that depend on the kind and state
pub record Parts : Type 0 where
  pub kind : ℕ
  pub day : ℕ
  pub amount : ℕ
  pub state : ℕ
  pub fund : ℕ
  pub of_no : ℕ
  pub text_a : List ℕ
  pub text_b : List ℕ
  pub text_c : List ℕ
  pub day_done : ℕ
  pub day_undone : ℕ
  pub day_bank : ℕ
  pub bank_ref : List ℕ
  pub part : ℕ

-- an entry of a kind, with the columns of its state empty
abbrev pub plain_parts : ℕ → ℕ → ℕ → ℕ → ℕ → ℕ → List ℕ → List ℕ → List ℕ → Parts
plain_parts kind day amount state fund of_no a b c = record {
  kind = kind;
  day = day;
  amount = amount;
  state = state;
  fund = fund;
  of_no = of_no;
  text_a = a;
  text_b = b;
  text_c = c;
  day_done = 0;
  day_undone = 0;
  day_bank = 0;
  bank_ref = [];
  part = 0;
}

-- of a returned one `day_done` has the bank's day of the return, `text_c` its reference
abbrev pub deposit_parts : DepositState → ℕ → ℕ → List ℕ → List ℕ → Parts
deposit_parts deposit.Held day amount a b = plain_parts deposit_kind day amount deposit_held 0 0 a b []
deposit_parts (deposit.Cleared c) day amount a b =
    record (plain_parts deposit_kind day amount deposit_cleared 0 0 a b []) {
      day_bank = c.bank_day;
      bank_ref = c.bank_ref;
    }
deposit_parts (deposit.Cancelled on) day amount a b =
    record (plain_parts deposit_kind day amount deposit_cancelled 0 0 a b []) { day_undone = on }
deposit_parts (deposit.Returned r) day amount a b =
    record (plain_parts deposit_kind day amount deposit_returned 0 0 a b r.returning.bank_ref) {
      day_bank = r.clearing.bank_day;
      bank_ref = r.clearing.bank_ref;
      day_done = r.returning.bank_day;
      day_undone = r.undone;
    }

-- the code of a fund: available money, a fee or a claim
abbrev pub fund_kind : Fund → ℕ
fund_kind fund.General = general_fund
fund_kind (fund.Fee k) = fee_fund
fund_kind (fund.Claim k) = claim_fund

-- the number of the fee or claim, or 0
abbrev pub fund_of : Fund → ℕ
fund_of fund.General = 0
fund_of (fund.Fee k) = k
fund_of (fund.Claim k) = k

-- a payment, by its state
abbrev pub payment_parts : PaymentState → ℕ → ℕ → ℕ → ℕ → List ℕ → List ℕ → List ℕ → Parts
payment_parts payment.Proposed day amount fund of_no a b c =
    plain_parts payment_kind day amount payment_proposed fund of_no a b c
payment_parts payment.Declined day amount fund of_no a b c =
    plain_parts payment_kind day amount payment_declined fund of_no a b c
payment_parts (payment.Issued on) day amount fund of_no a b c =
    record (plain_parts payment_kind day amount payment_issued fund of_no a b c) { day_done = on }
payment_parts (payment.Cleared s) day amount fund of_no a b c =
    record (plain_parts payment_kind day amount payment_cleared fund of_no a b c) {
      day_done = s.issued;
      day_bank = s.clearing.bank_day;
      bank_ref = s.clearing.bank_ref;
    }
payment_parts (payment.Voided s) day amount fund of_no a b c =
    record (plain_parts payment_kind day amount payment_voided fund of_no a b c) {
      day_done = s.issued;
      day_undone = s.undone;
    }

-- a claim, by its state
abbrev pub claim_parts : ClaimState → ℕ → ℕ → ℕ → ℕ → List ℕ → List ℕ → Parts
claim_parts claim.Open day amount fund of_no a b = plain_parts claim_kind day amount claim_open fund of_no a b []
claim_parts (claim.Offered part) day amount fund of_no a b =
    record (plain_parts claim_kind day amount claim_offered fund of_no a b []) { part = part }
claim_parts (claim.Settled s) day amount fund of_no a b =
    record (plain_parts claim_kind day amount claim_settled fund of_no a b []) { day_done = s.day; part = s.part }

-- on available money, by its claimant, or on a fee
abbrev pub claim_on_parts : Against → ClaimState → ℕ → ℕ → List ℕ → Parts
claim_on_parts (against.General claimant) s day amount reason = claim_parts s day amount general_fund 0 claimant reason
claim_on_parts (against.Fee k) s day amount reason = claim_parts s day amount fee_fund k [] reason

-- an entry, by its kind
abbrev pub parts_of : Entry → Parts
parts_of (entry.Deposit d) = deposit_parts d.state d.book d.amount d.source d.description
parts_of (entry.Payment p) =
    payment_parts p.state p.book p.amount (fund_kind p.fund) (fund_of p.fund) p.payee p.purpose p.instrument
parts_of (entry.Fee f) = plain_parts fee_kind f.book f.amount 0 0 0 f.description [] []
parts_of (entry.Claim c) = claim_on_parts c.against c.state c.book c.amount c.reason

-- the columns of an entry with this matter, number and amount left, and these parts
abbrev pub as_columns : ℕ → ℕ → ℕ → Parts → table.Entry
as_columns m n left p = record {
  id = pos 0;
  matter = pos m;
  no = pos n;
  kind = pos p.kind;
  day = pos p.day;
  amount = pos p.amount;
  state = pos p.state;
  fund = pos p.fund;
  of_no = pos p.of_no;
  text_a = p.text_a;
  text_b = p.text_b;
  text_c = p.text_c;
  day_done = pos p.day_done;
  day_undone = pos p.day_undone;
  day_bank = pos p.day_bank;
  bank_ref = p.bank_ref;
  part = pos p.part;
  left_now = pos left;
}

-- the columns of an entry of a matter, its number and what is left of it
abbrev pub entry_columns : ℕ → ℕ → ℕ → Entry → table.Entry
entry_columns m n left e = as_columns m n left (parts_of e)

-- Entries whose values have the form of their types.

-- what the bank reported of it
abbrev pub IsClearing : Clearing → Type 0
IsClearing c = IsDay c.bank_day × IsBankText c.bank_ref

-- a deposit that the bank returned
abbrev pub IsReturn : ReturnedDeposit → Type 0
IsReturn r = IsClearing r.clearing × IsClearing r.returning × IsDay r.undone

-- the bank lines and the days of a deposit
abbrev pub IsDepositState : DepositState → Type 0
IsDepositState deposit.Held = Unit {0}
IsDepositState (deposit.Cleared c) = IsClearing c
IsDepositState (deposit.Cancelled on) = IsDay on
IsDepositState (deposit.Returned r) = IsReturn r

-- the number of the fee or claim that a fund names
abbrev pub IsFund : Fund → Type 0
IsFund fund.General = Unit {0}
IsFund (fund.Fee k) = IsEntryNo k
IsFund (fund.Claim k) = IsEntryNo k

-- the days of a payment and its bank line
abbrev pub IsPaymentState : PaymentState → Type 0
IsPaymentState payment.Proposed = Unit {0}
IsPaymentState payment.Declined = Unit {0}
IsPaymentState (payment.Issued on) = IsDay on
IsPaymentState (payment.Cleared s) = IsDay s.issued × IsClearing s.clearing
IsPaymentState (payment.Voided s) = IsDay s.issued × IsDay s.undone

-- the client's part, and the day
abbrev pub IsClaimState : ClaimState → Type 0
IsClaimState claim.Open = Unit {0}
IsClaimState (claim.Offered part) = IsAmountOrZero part
IsClaimState (claim.Settled s) = IsDay s.day × IsAmountOrZero s.part

-- the claimant, or the number of the fee
abbrev pub IsAgainst : Against → Type 0
IsAgainst (against.General claimant) = IsLabel claimant
IsAgainst (against.Fee k) = IsEntryNo k

-- a deposit, except its day and amount
abbrev pub IsDeposit : Deposit → Type 0
IsDeposit d = IsLabel d.source × IsLabel d.description × IsDepositState d.state

-- a payment, except its day and amount
abbrev pub IsPayment : Payment → Type 0
IsPayment p = IsLabel p.payee × IsLabel p.purpose × IsLabel p.instrument × IsFund p.fund × IsPaymentState p.state

-- a fee, except its day and amount
abbrev pub IsFee : Fee → Type 0
IsFee f = IsLabel f.description

-- a claim, except its day and amount
abbrev pub IsClaim : Claim → Type 0
IsClaim c = IsLabel c.reason × IsAgainst c.against × IsClaimState c.state

-- an entry, except its day and amount
abbrev pub HasForm : Entry → Type 0
HasForm (entry.Deposit d) = IsDeposit d
HasForm (entry.Payment p) = IsPayment p
HasForm (entry.Fee f) = IsFee f
HasForm (entry.Claim c) = IsClaim c

-- an entry with its number and what is left of it
pub record IsKept (k : Kept) : Type 0 where
  pub number : IsEntryNo k.number
  pub left : k.left ≤ MAX_TOTAL
  pub dated : IsDay (parts_of k.entry).day
  pub amounts : IsAmount (parts_of k.entry).amount
  pub form : HasForm k.entry

-- What a row says of an entry. Columns that the kind and state leave empty are not looked at.

-- a bank line, with these columns as its day and its reference
abbrev pub HasClearing : Clearing → ℤ → List ℕ → Type 0
HasClearing c day reference = (pos c.bank_day ≡ day) × (c.bank_ref ≡ reference)

-- both bank lines, and the day of the return
abbrev pub HasReturn : ReturnedDeposit → table.Entry → Type 0
HasReturn r t =
    HasClearing r.clearing t.day_bank t.bank_ref
    × HasClearing r.returning t.day_done t.text_c
    × (pos r.undone ≡ t.day_undone)

-- the state of a deposit, with its columns
abbrev pub HasDepositState : DepositState → table.Entry → Type 0
HasDepositState deposit.Held t = pos deposit_held ≡ t.state
HasDepositState (deposit.Cleared c) t = (pos deposit_cleared ≡ t.state) × HasClearing c t.day_bank t.bank_ref
HasDepositState (deposit.Cancelled on) t = (pos deposit_cancelled ≡ t.state) × (pos on ≡ t.day_undone)
HasDepositState (deposit.Returned r) t = (pos deposit_returned ≡ t.state) × HasReturn r t

-- a deposit of this day and amount
abbrev pub HasDeposit : Deposit → ℕ → ℕ → table.Entry → Type 0
HasDeposit d day amount t =
    (d.book ≡ day) × (d.amount ≡ amount) × (d.source ≡ t.text_a) × (d.description ≡ t.text_b)
    × HasDepositState d.state t

-- a fund, with these columns as its kind and its number
abbrev pub HasFund : Fund → ℤ → ℤ → Type 0
HasFund f kind of_no = (pos (fund_kind f) ≡ kind) × (pos (fund_of f) ≡ of_no)

-- the state of a payment, with its columns
abbrev pub HasPaymentState : PaymentState → table.Entry → Type 0
HasPaymentState payment.Proposed t = pos payment_proposed ≡ t.state
HasPaymentState payment.Declined t = pos payment_declined ≡ t.state
HasPaymentState (payment.Issued on) t = (pos payment_issued ≡ t.state) × (pos on ≡ t.day_done)
HasPaymentState (payment.Cleared s) t =
    (pos payment_cleared ≡ t.state) × (pos s.issued ≡ t.day_done) × HasClearing s.clearing t.day_bank t.bank_ref
HasPaymentState (payment.Voided s) t =
    (pos payment_voided ≡ t.state) × (pos s.issued ≡ t.day_done) × (pos s.undone ≡ t.day_undone)

-- a payment of this day and amount
abbrev pub HasPayment : Payment → ℕ → ℕ → table.Entry → Type 0
HasPayment p day amount t =
    (p.book ≡ day) × (p.amount ≡ amount) × HasFund p.fund t.fund t.of_no × (p.payee ≡ t.text_a)
    × (p.purpose ≡ t.text_b) × (p.instrument ≡ t.text_c) × HasPaymentState p.state t

-- a fee of this day and amount
abbrev pub HasFee : Fee → ℕ → ℕ → table.Entry → Type 0
HasFee f day amount t = (f.book ≡ day) × (f.amount ≡ amount) × (f.description ≡ t.text_a)

-- what a claim is made on
abbrev pub HasAgainst : Against → table.Entry → Type 0
HasAgainst (against.General claimant) t = (pos general_fund ≡ t.fund) × (claimant ≡ t.text_a)
HasAgainst (against.Fee k) t = (pos fee_fund ≡ t.fund) × (pos k ≡ t.of_no)

-- the state of a claim, with its columns
abbrev pub HasClaimState : ClaimState → table.Entry → Type 0
HasClaimState claim.Open t = pos claim_open ≡ t.state
HasClaimState (claim.Offered part) t = (pos claim_offered ≡ t.state) × (pos part ≡ t.part)
HasClaimState (claim.Settled s) t =
    (pos claim_settled ≡ t.state) × (pos s.day ≡ t.day_done) × (pos s.part ≡ t.part)

-- a claim of this day and amount
abbrev pub HasClaim : Claim → ℕ → ℕ → table.Entry → Type 0
HasClaim c day amount t =
    (c.book ≡ day) × (c.amount ≡ amount) × HasAgainst c.against t × (c.reason ≡ t.text_b) × HasClaimState c.state t

-- an entry of this day and amount
abbrev pub HasEntry : Entry → ℕ → ℕ → table.Entry → Type 0
HasEntry (entry.Deposit d) day amount t = (pos deposit_kind ≡ t.kind) × HasDeposit d day amount t
HasEntry (entry.Payment p) day amount t = (pos payment_kind ≡ t.kind) × HasPayment p day amount t
HasEntry (entry.Fee f) day amount t = (pos fee_kind ≡ t.kind) × HasFee f day amount t
HasEntry (entry.Claim c) day amount t = (pos claim_kind ≡ t.kind) × HasClaim c day amount t

-- the columns are of this matter, and the numbers that every entry has are in range
pub record BeginsEntry (matter : ℕ) (row : table.Entry) : Type 0 where
  pub of_matter : row.matter ≡ pos matter
  pub number : (n : ℕ) × (IsEntryNo n × (pos n ≡ row.no))
  pub left : (n : ℕ) × ((n ≤ MAX_TOTAL) × (pos n ≡ row.left_now))
  pub dated : (d : ℕ) × (IsDay d × (pos d ≡ row.day))
  pub amounts : (a : ℕ) × (IsAmount a × (pos a ≡ row.amount))

-- Comparing the columns of two rows.

-- the same matter, number, kind, state and amount left
abbrev pub HasSamePlace : table.Entry → table.Entry → Type 0
HasSamePlace a b =
    (a.matter ≡ b.matter) × (a.no ≡ b.no) × (a.kind ≡ b.kind) × (a.state ≡ b.state) × (a.left_now ≡ b.left_now)

-- the same amount, part, fund and fund number
abbrev pub HasSameMoney : table.Entry → table.Entry → Type 0
HasSameMoney a b = (a.amount ≡ b.amount) × (a.part ≡ b.part) × (a.fund ≡ b.fund) × (a.of_no ≡ b.of_no)

-- the same days
abbrev pub HasSameDays : table.Entry → table.Entry → Type 0
HasSameDays a b =
    (a.day ≡ b.day) × (a.day_done ≡ b.day_done) × (a.day_undone ≡ b.day_undone) × (a.day_bank ≡ b.day_bank)

-- the same texts
abbrev pub HasSameTexts : table.Entry → table.Entry → Type 0
HasSameTexts a b = (a.text_a ≡ b.text_a) × (a.text_b ≡ b.text_b) × (a.text_c ≡ b.text_c) × (a.bank_ref ≡ b.bank_ref)
