-- The columns of what a row stands for. A rowid has no meaning; here it is left out, as 0.
use Rattle.std.specs.Prelude.{◌≡◌, ℕ, ℤ, pos, List, Result, Ok, Err}
use Rattle.trust_values.specs.Limits.{IsDay, IsMatterNo, IsEntryNo, IsBankAmount}
use Rattle.trust_base.specs.BankTexts.{IsBankText, IsLineText}
use Rattle.trust_base.specs.Names.{IsPerson}
use Rattle.trust_base.specs.declared.line.Line.{Line}
use Rattle.trust_base.specs.declared.refusal.StoreFault.{StoreFault}
use Rattle.trust_base.specs.declared.refusal.StoreFault.TheVariants.{Memory}
use Rattle.matter_rows.specs.declared.seat.Role.{Role}
use Rattle.matter_rows.specs.declared.seat.Role.TheVariants.{Client, Lawyer}
use Rattle.matter_rows.specs.declared.seat.Seat.{Seat}
use Rattle.firm_rows.specs.declared.ledger.BalanceKind.{BalanceKind}
use Rattle.firm_rows.specs.declared.ledger.BalanceKind.TheVariants.{Opening, Closing}
use Rattle.firm_rows.specs.declared.ledger.FirmLine.{FirmLine}
use Rattle.firm_rows.specs.declared.ledger.BalanceRow.{BalanceRow}
use Rattle.firm_rows.specs.declared.movement.Owner.{Owner}
use Rattle.firm_rows.specs.declared.movement.Owner.TheVariants as owner
use Rattle.firm_rows.specs.declared.movement.Movement.{Movement}
use Rattle.sql_tables.specs.Rows as table
use Rattle.sql_rows.specs.Codes.{client_role, lawyer_role, opening_balance, closing_balance}

-- the code of a kind of balance
abbrev pub kind_column : BalanceKind → ℤ
kind_column Opening = pos opening_balance
kind_column Closing = pos closing_balance

abbrev pub balance_columns : BalanceRow → table.Balance
balance_columns b = record { id = pos 0; kind = kind_column b.kind; day = pos b.day; amount = b.amount }

-- the firm's own movements have matter 0 and entry 0
abbrev pub matter_column : Owner → ℤ
matter_column (owner.Matter m n) = pos m
matter_column owner.Firm = pos 0

abbrev pub entry_column : Owner → ℤ
entry_column (owner.Matter m n) = pos n
entry_column owner.Firm = pos 0

abbrev pub movement_columns : Movement → table.Movement
movement_columns v = record {
  seq = pos 0;
  matter = matter_column v.owner;
  entry = entry_column v.owner;
  day = pos v.day;
  amount = v.amount;
}

abbrev pub firm_line_columns : FirmLine → table.FirmLine
firm_line_columns l = record { seq = pos 0; day = pos l.date; bank_ref = l.bank_ref; amount = l.amount; text = l.text }

abbrev pub exception_columns : Line → table.Exception
exception_columns l = record {
  id = pos 0;
  day = pos l.date;
  reference = l.reference;
  bank_ref = l.bank_ref;
  amount = l.amount;
  text = l.text;
}

-- the code of a role
abbrev pub role_column : Role → ℤ
role_column Client = pos client_role
role_column Lawyer = pos lawyer_role

abbrev pub seat_columns : ℕ → Seat → table.Seat
seat_columns matter s = record { id = pos 0; matter = pos matter; person = s.person; role = role_column s.role }

-- an owner whose numbers are in the range of their types
abbrev pub IsOwner : Owner → Type 0
IsOwner (owner.Matter m n) = IsMatterNo m × IsEntryNo n
IsOwner owner.Firm = Unit {0}

-- a line of the firm whose values have the form of their types
abbrev pub IsFirmLine : FirmLine → Type 0
IsFirmLine l = IsDay l.date × IsBankText l.bank_ref × IsBankAmount l.amount × IsLineText l.text

-- a bank line whose values have the form of their types
abbrev pub IsBankLine : Line → Type 0
IsBankLine l = IsDay l.date × IsBankText l.reference × IsBankText l.bank_ref × IsBankAmount l.amount × IsLineText l.text

-- the columns are those of a seat of the matter: a valid person, and the code of a role
pub record HasSeat (matter : ℕ) (row : table.Seat) : Type 0 where
  pub of_matter : row.matter ≡ pos matter
  pub person : IsPerson row.person
  pub role : (r : Role) × (role_column r ≡ row.role)

-- the day, the amount and the first text of a line are valid
pub record BeginsLine (day amount : ℤ) (text : List ℕ) : Type 0 where
  pub dated : (d : ℕ) × (IsDay d × (pos d ≡ day))
  pub amounts : IsBankAmount amount
  pub referred : IsBankText text

-- reading the columns of a value returns that value, or fails with Memory
abbrev pub GivesBack : {T : Type 0} → T → Result T StoreFault → Type 0
GivesBack x (Ok y) = y ≡ x
GivesBack x (Err e) = e ≡ Memory
