-- The firm whose rows the tables stand for.
use Rattle.std.specs.Prelude.{◌≡◌, ℕ, zero, suc, ℤ, pos, nat_abs, true, ◌==◌, cond, List, [], ◌∷◌, map, find, Option, Some, None, unwrap_or}
use Rattle.std.specs.List.{AllByRecursion}
use Rattle.std.specs.Ordering.{int_eq}
use Rattle.std.specs.Str.{bytes_eq}
use Rattle.sqlite_keyed.specs.Keyed.{IsKeyedBy, has_key}
use Rattle.sqlite_keyed.specs.Lists.{sort_by}
use Rattle.trust_base.specs.Names.{cashier_text}
use Rattle.trust_base.specs.Texts.{bank_amount_of, day_of}
use Rattle.trust_base.specs.declared.line.Line.{Line}
use Rattle.matter_rows.specs.declared.act.Caller.{Caller}
use Rattle.matter_rows.specs.declared.act.Caller.TheVariants.{Cashier, Person}
use Rattle.matter_rows.specs.declared.act.Deed.{Deed}
use Rattle.matter_rows.specs.declared.act.Deed.TheVariants as deed
use Rattle.matter_rows.specs.declared.clearing.Clearing.{Clearing}
use Rattle.matter_rows.specs.declared.payment.Fund.{Fund}
use Rattle.matter_rows.specs.declared.payment.Fund.TheVariants as fund
use Rattle.matter_rows.specs.declared.deposit.DepositState.{DepositState}
use Rattle.matter_rows.specs.declared.deposit.DepositState.TheVariants as deposit
use Rattle.matter_rows.specs.declared.payment.PaymentState.{PaymentState}
use Rattle.matter_rows.specs.declared.payment.PaymentState.TheVariants as payment
use Rattle.matter_rows.specs.declared.claim.ClaimState.{ClaimState}
use Rattle.matter_rows.specs.declared.claim.ClaimState.TheVariants as claim
use Rattle.matter_rows.specs.declared.claim.Against.{Against}
use Rattle.matter_rows.specs.declared.claim.Against.TheVariants as against
use Rattle.matter_rows.specs.declared.entry.Entry.{Entry}
use Rattle.matter_rows.specs.declared.entry.Entry.TheVariants as entry
use Rattle.matter_rows.specs.declared.head.Head.{Head}
use Rattle.matter_rows.specs.declared.head.Holder.{Holder}
use Rattle.matter_rows.specs.declared.head.Holder.TheVariants.{Client, Purged}
use Rattle.matter_rows.specs.declared.seat.Role.{Role}
use Rattle.matter_rows.specs.declared.seat.Role.TheVariants as role
use Rattle.matter_rows.specs.declared.seat.Seat.{Seat}
use Rattle.matter_parts.specs.declared.figures.Figures.{Figures}
use Rattle.matter_parts.specs.declared.kept.Kept.{Kept}
use Rattle.matter_parts.specs.Parts.{Part}
use Rattle.firm_rows.specs.declared.dismissal.Dismissal.{Dismissal}
use Rattle.firm_rows.specs.declared.matter_act.MatterAct.{MatterAct}
use Rattle.firm_rows.specs.declared.movement.Movement.{Movement}
use Rattle.firm_rows.specs.declared.movement.Owner.{Owner}
use Rattle.firm_rows.specs.declared.movement.Owner.TheVariants as owner
use Rattle.firm_rows.specs.declared.ledger.BalanceKind.{BalanceKind}
use Rattle.firm_rows.specs.declared.ledger.BalanceKind.TheVariants.{Opening, Closing}
use Rattle.firm_rows.specs.declared.ledger.FirmLine.{FirmLine}
use Rattle.firm_rows.specs.declared.ledger.BalanceRow.{BalanceRow}
use Rattle.firm_rows.specs.Firm.{Firm, with_trail}
use Rattle.firm_rows.specs.FirmSound.{FirmSound}
use Rattle.trust_store.specs.declared.plain.KeptMatter.{KeptMatter}
use Rattle.trust_store.specs.Kept.{AreKeptWhole, firm_of}
use Rattle.sql_tables.specs.Rows as table
use Rattle.sql_tables.specs.Lists.{Lists}
use Rattle.sql_rows.specs.Codes.{payment_kind, fee_kind, claim_kind, deposit_cleared, deposit_cancelled}
use Rattle.sql_rows.specs.Codes.{deposit_returned, payment_declined, payment_issued, payment_cleared, payment_voided}
use Rattle.sql_rows.specs.Codes.{claim_offered, claim_settled, fee_fund, claim_fund, lawyer_role, closing_balance}
use Rattle.sql_rows.specs.Acts.{IsAct, act_columns, deed_column}
use Rattle.sql_rows.specs.Columns.{balance_columns, movement_columns, firm_line_columns, exception_columns, seat_columns}
use Rattle.sql_rows.specs.Dismissals.{after_tab, before_tab, dismissal_columns}
use Rattle.sql_rows.specs.Entries.{Parts, entry_columns}
use Rattle.sql_rows.specs.Heads.{HasHead}

-- What a row stands for. An invalid code is read as some other code of its column. Such a row is not what would be
-- written for that reading, so tables that have one stand for no firm.

-- A head.

-- 0 means no day
abbrev pub day_or_none : ℕ → Option ℕ
day_or_none n = cond (n == 0) None (Some n)

-- a purged matter has the day of the purge, any other its client
abbrev pub holder_from : table.Head → Holder
holder_from h = cond (nat_abs h.purged == 0) (Client h.client) (Purged (nat_abs h.purged))

abbrev pub head_from : table.Head → Head
head_from h = record {
  holder = holder_from h;
  opened = nat_abs h.opened;
  closed = day_or_none (nat_abs h.closed);
  last = nat_abs h.last;
}

-- the totals that are stored with a head
abbrev pub figures_from : table.Head → Figures
figures_from h = record {
  entries = nat_abs h.entries;
  pending = nat_abs h.pending;
  held = nat_abs h.held;
  available = nat_abs h.available;
  disputed = nat_abs h.disputed;
  fees = nat_abs h.fees;
  claims = nat_abs h.claims;
}

-- A seat.

abbrev pub role_from : ℤ → Role
role_from code = cond (nat_abs code == lawyer_role) role.Lawyer role.Client

abbrev pub seat_from : table.Seat → Seat
seat_from s = record { person = s.person; role = role_from s.role }

-- An entry.

abbrev pub parts_from : table.Entry → Parts
parts_from e = record {
  kind = nat_abs e.kind;
  day = nat_abs e.day;
  amount = nat_abs e.amount;
  state = nat_abs e.state;
  fund = nat_abs e.fund;
  of_no = nat_abs e.of_no;
  text_a = e.text_a;
  text_b = e.text_b;
  text_c = e.text_c;
  day_done = nat_abs e.day_done;
  day_undone = nat_abs e.day_undone;
  day_bank = nat_abs e.day_bank;
  bank_ref = e.bank_ref;
  part = nat_abs e.part;
}

-- the bank line that cleared the entry
abbrev pub clearing_from : Parts → Clearing
clearing_from p = record { bank_day = p.day_bank; bank_ref = p.bank_ref }

-- the bank line that returned a deposit
abbrev pub returning_from : Parts → Clearing
returning_from p = record { bank_day = p.day_done; bank_ref = p.text_c }

abbrev pub deposit_state_from : Parts → DepositState
deposit_state_from p =
    cond (p.state == deposit_cleared) (deposit.Cleared (clearing_from p))
    (cond (p.state == deposit_cancelled) (deposit.Cancelled p.day_undone)
    (cond (p.state == deposit_returned)
    (deposit.Returned (record { clearing = clearing_from p; returning = returning_from p; undone = p.day_undone }))
    deposit.Held))

abbrev pub payment_state_from : Parts → PaymentState
payment_state_from p =
    cond (p.state == payment_declined) payment.Declined
    (cond (p.state == payment_issued) (payment.Issued p.day_done)
    (cond (p.state == payment_cleared)
    (payment.Cleared (record { issued = p.day_done; clearing = clearing_from p }))
    (cond (p.state == payment_voided) (payment.Voided (record { issued = p.day_done; undone = p.day_undone }))
    payment.Proposed)))

abbrev pub claim_state_from : Parts → ClaimState
claim_state_from p =
    cond (p.state == claim_offered) (claim.Offered p.part)
    (cond (p.state == claim_settled) (claim.Settled (record { day = p.day_done; part = p.part })) claim.Open)

abbrev pub fund_from : Parts → Fund
fund_from p =
    cond (p.fund == fee_fund) (fund.Fee p.of_no) (cond (p.fund == claim_fund) (fund.Claim p.of_no) fund.General)

abbrev pub against_from : Parts → Against
against_from p = cond (p.fund == fee_fund) (against.Fee p.of_no) (against.General p.text_a)

abbrev pub entry_from : Parts → Entry
entry_from p =
    cond (p.kind == payment_kind)
    (entry.Payment (record {
      book = p.day;
      amount = p.amount;
      fund = fund_from p;
      payee = p.text_a;
      purpose = p.text_b;
      instrument = p.text_c;
      state = payment_state_from p;
    }))
    (cond (p.kind == fee_kind) (entry.Fee (record { book = p.day; amount = p.amount; description = p.text_a }))
    (cond (p.kind == claim_kind)
    (entry.Claim (record {
      book = p.day;
      amount = p.amount;
      against = against_from p;
      reason = p.text_b;
      state = claim_state_from p;
    }))
    (entry.Deposit (record {
      book = p.day;
      amount = p.amount;
      source = p.text_a;
      description = p.text_b;
      state = deposit_state_from p;
    }))))

-- the entry with its number and the amount left of it
abbrev pub kept_from : table.Entry → Kept
kept_from e = record { number = nat_abs e.no; left = nat_abs e.left_now; entry = entry_from (parts_from e) }

-- An act.

-- 0 means no entry
abbrev pub entry_or_none : ℕ → Option ℕ
entry_or_none n = cond (n == 0) None (Some n)

-- no person is called `cashier`
abbrev pub caller_from : List ℕ → Caller
caller_from text = cond (bytes_eq text cashier_text) Cashier (Person text)

-- one deed of each kind, with this person, and this number as its role or part
abbrev pub deeds_with : List ℕ → ℤ → List Deed
deeds_with text number =
    deed.Opened text ∷ deed.Seated (record { person = text; role = role_from number }) ∷ deed.Unseated text ∷
    deed.Closed ∷ deed.Deposited ∷ deed.Cancelled ∷ deed.Cleared ∷ deed.Returned ∷ deed.Proposed ∷ deed.Approved ∷
    deed.Declined ∷ deed.Withdrawn ∷ deed.Voided ∷ deed.Earned ∷ deed.Disputed ∷ deed.Claimed ∷
    deed.Offered (nat_abs number) ∷ deed.Accepted ∷ deed.Awarded ∷ []

-- the one that has this code
unfoldable pub deed_from : ℤ → List ℕ → ℤ → Deed
deed_from code text number =
    unwrap_or (find (λ d. int_eq (deed_column d) code) (deeds_with text number)) (deed.Opened text)

abbrev pub act_from : table.Act → MatterAct
act_from a = record {
  matter = nat_abs a.matter;
  act = record {
    entry = entry_or_none (nat_abs a.entry);
    day = nat_abs a.day;
    caller = caller_from a.caller;
    deed = deed_from a.deed a.text a.number;
  };
}

-- A dismissal.

-- what is behind so many tabs
abbrev pub behind : ℕ → List ℕ → List ℕ
behind zero text = text
behind (suc k) text = behind k (after_tab text)

-- the line whose fields the text has, each up to its tab
abbrev pub line_from : List ℕ → Line
line_from text = record {
  date = unwrap_or (day_of (before_tab text)) 0;
  reference = before_tab (behind 1 text);
  bank_ref = before_tab (behind 2 text);
  amount = unwrap_or (bank_amount_of (before_tab (behind 3 text))) (pos 0);
  text = behind 4 text;
}

abbrev pub dismissal_from : table.Act → Dismissal
dismissal_from a = record { day = nat_abs a.day; line = line_from a.text }

-- The firm's own rows. Matter 0 means the firm.

abbrev pub owner_from : table.Movement → Owner
owner_from m = cond (nat_abs m.matter == 0) owner.Firm (owner.Matter (nat_abs m.matter) (nat_abs m.entry))

abbrev pub movement_from : table.Movement → Movement
movement_from m = record { owner = owner_from m; day = nat_abs m.day; amount = m.amount }

abbrev pub firm_line_from : table.FirmLine → FirmLine
firm_line_from l = record { date = nat_abs l.day; bank_ref = l.bank_ref; amount = l.amount; text = l.text }

abbrev pub exception_from : table.Exception → Line
exception_from e = record {
  date = nat_abs e.day;
  reference = e.reference;
  bank_ref = e.bank_ref;
  amount = e.amount;
  text = e.text;
}

abbrev pub balance_kind_from : ℤ → BalanceKind
balance_kind_from code = cond (nat_abs code == closing_balance) Closing Opening

abbrev pub balance_from : table.Balance → BalanceRow
balance_from b = record { kind = balance_kind_from b.kind; day = nat_abs b.day; amount = b.amount }

-- What the tables stand for.

-- a matter's seats by person, and its entries by number
abbrev pub part_from : Lists → table.Head → Part
part_from a h = record {
  head = Some (head_from h);
  seats = map seat_from (table.seats_of h.no a.seats);
  figures = figures_from h;
  kept = map kept_from (table.entries_of h.no a.entries);
}

abbrev pub matter_from : Lists → table.Head → KeptMatter
matter_from a h = record { number = nat_abs h.no; matter = part_from a h }

abbrev pub matters_from : Lists → List KeptMatter
matters_from a = map (matter_from a) a.heads

-- matters by number, movements, the firm's lines, acts and dismissals in order of acceptance, exceptions and balances
-- in their own order
abbrev pub firm_from : Lists → Firm
firm_from a =
    with_trail (map act_from (table.acts_among a.acts)) (map dismissal_from (table.dismissals_among a.acts))
    (firm_of (matters_from a) (map movement_from a.movements) (map firm_line_from a.firm_lines)
    (map exception_from (sort_by table.exception_cmp a.exceptions))
    (map balance_from (sort_by table.balance_cmp a.balances)))

-- The rows are exactly what would be written for what they stand for, except the rowids.

abbrev pub IsWrittenHead : table.Head → Type 0
IsWrittenHead h = (h.no ≡ pos (nat_abs h.no)) × HasHead (head_from h) h

abbrev pub IsWrittenSeat : table.Seat → Type 0
IsWrittenSeat s = record s { id = pos 0 } ≡ seat_columns (nat_abs s.matter) (seat_from s)

abbrev pub IsWrittenEntry : table.Entry → Type 0
IsWrittenEntry e =
    record e { id = pos 0 }
    ≡ entry_columns (nat_abs e.matter) (nat_abs e.no) (nat_abs e.left_now) (entry_from (parts_from e))

abbrev pub IsWrittenMovement : table.Movement → Type 0
IsWrittenMovement m = record m { seq = pos 0 } ≡ movement_columns (movement_from m)

abbrev pub IsWrittenFirmLine : table.FirmLine → Type 0
IsWrittenFirmLine l = record l { seq = pos 0 } ≡ firm_line_columns (firm_line_from l)

abbrev pub IsWrittenException : table.Exception → Type 0
IsWrittenException e = record e { id = pos 0 } ≡ exception_columns (exception_from e)

abbrev pub IsWrittenBalance : table.Balance → Type 0
IsWrittenBalance b = record b { id = pos 0 } ≡ balance_columns (balance_from b)

-- and its act has values that an act may have: no day that is none, and no name that is none
abbrev pub IsWrittenAct : table.Act → Type 0
IsWrittenAct a = (record a { seq = pos 0 } ≡ act_columns (act_from a)) × IsAct (act_from a)

abbrev pub IsWrittenDismissal : table.Act → Type 0
IsWrittenDismissal a = record a { seq = pos 0 } ≡ dismissal_columns (dismissal_from a)

-- this holds of each row of each table
pub record AreWritten (a : Lists) : Type 0 where
  pub heads : AllByRecursion IsWrittenHead a.heads
  pub seats : AllByRecursion IsWrittenSeat a.seats
  pub entries : AllByRecursion IsWrittenEntry a.entries
  pub movements : AllByRecursion IsWrittenMovement a.movements
  pub firm_lines : AllByRecursion IsWrittenFirmLine a.firm_lines
  pub exceptions : AllByRecursion IsWrittenException a.exceptions
  pub balances : AllByRecursion IsWrittenBalance a.balances
  pub acts : AllByRecursion IsWrittenAct (table.acts_among a.acts)
  pub dismissals : AllByRecursion IsWrittenDismissal (table.dismissals_among a.acts)

-- a head has this number
abbrev pub HasHeadAt : List table.Head → ℤ → Type 0
HasHeadAt heads number = has_key (λ (h : table.Head). h.no) heads number ≡ true

-- the rows stand for whole matters, with correct totals and amounts left, and each seat and each entry belongs to one
-- of them
pub record AreMeant (a : Lists) : Type 0 where
  pub written : AreWritten a
  pub matters : AreKeptWhole (matters_from a)
  pub seated : AllByRecursion (λ (s : table.Seat). HasHeadAt a.heads s.matter) a.seats
  pub entered : AllByRecursion (λ (e : table.Entry). HasHeadAt a.heads e.matter) a.entries

-- the rowids of each table rise
pub record AreKeyed (a : Lists) : Type 0 where
  pub heads : IsKeyedBy (λ (h : table.Head). h.no) a.heads
  pub seats : IsKeyedBy (λ (s : table.Seat). s.id) a.seats
  pub entries : IsKeyedBy (λ (e : table.Entry). e.id) a.entries
  pub movements : IsKeyedBy (λ (m : table.Movement). m.seq) a.movements
  pub firm_lines : IsKeyedBy (λ (l : table.FirmLine). l.seq) a.firm_lines
  pub exceptions : IsKeyedBy (λ (e : table.Exception). e.id) a.exceptions
  pub balances : IsKeyedBy (λ (b : table.Balance). b.id) a.balances
  pub acts : IsKeyedBy (λ (x : table.Act). x.seq) a.acts

-- the rows stand for the rows of a sound firm
pub record AreSound (a : Lists) : Type 0 where
  pub keyed : AreKeyed a
  pub meant : AreMeant a
  pub sound : FirmSound (firm_from a)
