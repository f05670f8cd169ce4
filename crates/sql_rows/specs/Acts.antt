-- The columns of an act of a matter.
use Rattle.std.specs.Prelude.{◌≡◌, ℕ, ℤ, pos, List, [], Option, Some, None, IfSome}
use Rattle.trust_values.specs.Limits.{IsDay, IsMatterNo, IsEntryNo, IsAmountOrZero}
use Rattle.trust_base.specs.Names.{cashier_text, IsPerson}
use Rattle.matter_rows.specs.declared.act.Caller.{Caller}
use Rattle.matter_rows.specs.declared.act.Caller.TheVariants.{Cashier, Person}
use Rattle.matter_rows.specs.declared.act.Deed.{Deed}
use Rattle.matter_rows.specs.declared.act.Deed.TheVariants as deed
use Rattle.firm_rows.specs.declared.matter_act.MatterAct.{MatterAct}
use Rattle.sql_tables.specs.Rows as table
use Rattle.sql_rows.specs.Codes.{opened_deed, seated_deed, unseated_deed, closed_deed, deposited_deed, cancelled_deed}
use Rattle.sql_rows.specs.Codes.{cleared_deed, returned_deed, proposed_deed, approved_deed, declined_deed}
use Rattle.sql_rows.specs.Codes.{withdrawn_deed, voided_deed, earned_deed, disputed_deed, claimed_deed, offered_deed}
use Rattle.sql_rows.specs.Codes.{accepted_deed, awarded_deed}
use Rattle.sql_rows.specs.Columns.{role_column}

-- the number of the entry, or 0 if the act is of none
abbrev pub act_entry_column : Option ℕ → ℤ
act_entry_column None = pos 0
act_entry_column (Some number) = pos number

-- `cashier`, or the person's name, which is never that
abbrev pub caller_column : Caller → List ℕ
caller_column Cashier = cashier_text
caller_column (Person name) = name

-- the code of a deed
abbrev pub deed_column : Deed → ℤ
deed_column (deed.Opened lawyer) = pos opened_deed
deed_column (deed.Seated seat) = pos seated_deed
deed_column (deed.Unseated person) = pos unseated_deed
deed_column deed.Closed = pos closed_deed
deed_column deed.Deposited = pos deposited_deed
deed_column deed.Cancelled = pos cancelled_deed
deed_column deed.Cleared = pos cleared_deed
deed_column deed.Returned = pos returned_deed
deed_column deed.Proposed = pos proposed_deed
deed_column deed.Approved = pos approved_deed
deed_column deed.Declined = pos declined_deed
deed_column deed.Withdrawn = pos withdrawn_deed
deed_column deed.Voided = pos voided_deed
deed_column deed.Earned = pos earned_deed
deed_column deed.Disputed = pos disputed_deed
deed_column deed.Claimed = pos claimed_deed
deed_column (deed.Offered part) = pos offered_deed
deed_column deed.Accepted = pos accepted_deed
deed_column deed.Awarded = pos awarded_deed

-- the person whom the deed names, if it names one
abbrev pub text_column : Deed → List ℕ
text_column (deed.Opened lawyer) = lawyer
text_column (deed.Seated seat) = seat.person
text_column (deed.Unseated person) = person
text_column deed.Closed = []
text_column deed.Deposited = []
text_column deed.Cancelled = []
text_column deed.Cleared = []
text_column deed.Returned = []
text_column deed.Proposed = []
text_column deed.Approved = []
text_column deed.Declined = []
text_column deed.Withdrawn = []
text_column deed.Voided = []
text_column deed.Earned = []
text_column deed.Disputed = []
text_column deed.Claimed = []
text_column (deed.Offered part) = []
text_column deed.Accepted = []
text_column deed.Awarded = []

-- the role of a seat, or the part that was offered, in cents; of other deeds 0
abbrev pub number_column : Deed → ℤ
number_column (deed.Opened lawyer) = pos 0
number_column (deed.Seated seat) = role_column seat.role
number_column (deed.Unseated person) = pos 0
number_column deed.Closed = pos 0
number_column deed.Deposited = pos 0
number_column deed.Cancelled = pos 0
number_column deed.Cleared = pos 0
number_column deed.Returned = pos 0
number_column deed.Proposed = pos 0
number_column deed.Approved = pos 0
number_column deed.Declined = pos 0
number_column deed.Withdrawn = pos 0
number_column deed.Voided = pos 0
number_column deed.Earned = pos 0
number_column deed.Disputed = pos 0
number_column deed.Claimed = pos 0
number_column (deed.Offered part) = pos part
number_column deed.Accepted = pos 0
number_column deed.Awarded = pos 0

abbrev pub act_columns : MatterAct → table.Act
act_columns a = record {
  seq = pos 0;
  matter = pos a.matter;
  entry = act_entry_column a.act.entry;
  day = pos a.act.day;
  deed = deed_column a.act.deed;
  caller = caller_column a.act.caller;
  text = text_column a.act.deed;
  number = number_column a.act.deed;
}

-- Acts whose values have the form of their types.

-- the person's name
abbrev pub IsCaller : Caller → Type 0
IsCaller Cashier = Unit {0}
IsCaller (Person name) = IsPerson name

-- the person's name, or the part
abbrev pub IsDeed : Deed → Type 0
IsDeed (deed.Opened lawyer) = IsPerson lawyer
IsDeed (deed.Seated seat) = IsPerson seat.person
IsDeed (deed.Unseated person) = IsPerson person
IsDeed (deed.Offered part) = IsAmountOrZero part
IsDeed _ = Unit {0}

pub record IsAct (a : MatterAct) : Type 0 where
  pub matter : IsMatterNo a.matter
  pub entry : IfSome a.act.entry IsEntryNo
  pub dated : IsDay a.act.day
  pub caller : IsCaller a.act.caller
  pub deed : IsDeed a.act.deed

-- the matter, the entry, the day and the caller of a row are valid
pub record BeginsAct (row : table.Act) : Type 0 where
  pub matter : (m : ℕ) × (IsMatterNo m × (pos m ≡ row.matter))
  pub entry : (n : Option ℕ) × (IfSome n IsEntryNo × (act_entry_column n ≡ row.entry))
  pub dated : (d : ℕ) × (IsDay d × (pos d ≡ row.day))
  pub caller : (c : Caller) × (IsCaller c × (caller_column c ≡ row.caller))
