-- What the scripts of changes mean: the tables after a script stand for the firm after its change.
use Rattle.std.specs.Prelude.{◌≡◌, ℕ, ◌≤◌, Option, Some, None, IfSome}
use Rattle.trust_base.specs.declared.line.Line.{Line}
use Rattle.matter_rows.specs.declared.act.Act.{Act}
use Rattle.matter_parts.specs.declared.edit.Edit.{Edit}
use Rattle.matter_parts.specs.declared.edit.Edit.TheVariants as edit
use Rattle.firm_rows.specs.declared.ledger.BalanceKind.{BalanceKind}
use Rattle.firm_rows.specs.FirmChange.{FirmChange, OfMatter, Repeated, Unmatched, Dismissed, OfFirm, OfBalance, after, FitsFirm}
use Rattle.sql_tables.specs.Lists.{Lists}
use Rattle.sql_rows.specs.Acts.{IsAct}
use Rattle.sql_rows.specs.Columns.{IsBankLine}
use Rattle.sql_rows.specs.Meaning.{AreKeyed, AreSound, firm_from}
use Rattle.sql_rows.specs.Steps.{steps_of, AreMade}

-- What the types guarantee of a change's values, as much as the tables need: a column uses 0 for no day, matter 0 for
-- the firm, entry 0 for none, the name `cashier` for the cashier, and a tab for the end of a field of a dismissed line.
-- Of an act it is all that they guarantee, so that every row of one can be read.

-- the days of an edit whose columns use 0 for no day: the day of closing, also when a matter is opened, and that of a
-- purge
abbrev pub IsTypedEdit : Edit → Type 0
IsTypedEdit edit.Nothing = Unit {0}
IsTypedEdit (edit.Open o) = IfSome o.head.closed (λ day. 1 ≤ day)
IsTypedEdit (edit.Seat s) = Unit {0}
IsTypedEdit (edit.Unseat p) = Unit {0}
IsTypedEdit (edit.Close day) = 1 ≤ day
IsTypedEdit (edit.Purge day) = 1 ≤ day
IsTypedEdit (edit.Append x) = Unit {0}
IsTypedEdit (edit.Exchange x) = Unit {0}

-- all of an act of this matter, if there is one
abbrev pub IsTypedAct : ℕ → Option Act → Type 0
IsTypedAct m None = Unit {0}
IsTypedAct m (Some act) = IsAct (record { matter = m; act = act })

abbrev pub IsTyped : FirmChange → Type 0
IsTyped (OfMatter m line c) = (1 ≤ m) × IsTypedEdit c.edit × IsTypedAct m c.act
IsTyped (Repeated line) = Unit {0}
IsTyped (Unmatched line) = Unit {0}
IsTyped (Dismissed day line) = IsBankLine line
IsTyped (OfFirm line) = Unit {0}
IsTyped (OfBalance kind line) = Unit {0}

-- What the steps of a change leave in the tables.

-- the second tables stand for the firm of the first after the change, and that firm is sound
abbrev pub IsMeant : FirmChange → Lists → Lists → Type 0
IsMeant change a b = (firm_from b ≡ after change (firm_from a)) × AreSound b

-- if the change fits, this holds of the tables that its steps leave
abbrev pub IsScriptMeant : FirmChange → Type 0
IsScriptMeant change =
    (a b : Lists) → AreSound a → AreKeyed b → IsTyped change → FitsFirm (firm_from a) change
    → AreMade (steps_of change) a b
    → IsMeant change a b

-- this holds for the script of each change
abbrev pub ScriptsAreMeant : Type 0
ScriptsAreMeant = (change : FirmChange) → IsScriptMeant change

-- it holds for the scripts of the changes to the firm's own tables
pub record LineScriptsAreMeant : Type 0 where
  pub repeated : (line : Line) → IsScriptMeant (Repeated line)
  pub unmatched : (line : Line) → IsScriptMeant (Unmatched line)
  pub dismissed : (day : ℕ) (line : Line) → IsScriptMeant (Dismissed day line)
  pub of_firm : (line : Line) → IsScriptMeant (OfFirm line)
  pub of_balance : (kind : BalanceKind) (line : Line) → IsScriptMeant (OfBalance kind line)
