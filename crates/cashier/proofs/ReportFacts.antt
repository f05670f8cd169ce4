-- What the reply to a report says of the program's end, and that a report makes no rows.
use Rattle.cashier.proofs.Names.{◌≡◌, ℕ, Option, Some, None, refl, inl, inr, Refusal, Firm, Seen, LeavesOr, IsMade, MayLeave, after_asked, Asks, asked_on, arith, ints, nat_tests}
use Rattle.trust_matter.specs.declared.ask.Ask.TheVariants.{Account, Accounting}
use Rattle.command_line.specs.declared.command.ReportCommand.{ReportCommand}
use Rattle.trust_base.specs.Periods.{Span}
use Rattle.matter_rows.specs.declared.act.Caller.TheVariants.{Cashier}
use Rattle.cashier.specs.Report.{asked_for}

-- an accounting changes nothing, whether it is refused or not
accounting-same : (o : Option Refusal) (day m : ℕ) (firm : Firm) → after_asked o m (asked_on day Cashier Accounting) firm ≡ firm
accounting-same None day m firm = refl
accounting-same (Some r) day m firm = refl

-- nor does an account of a period
account-same : (o : Option Refusal) (day m : ℕ) (period : Span) (firm : Firm) → after_asked o m (asked_on day Cashier (Account period)) firm ≡ firm
account-same None day m period firm = refl
account-same (Some r) day m period firm = refl

-- the rows that a report makes are those that were there
report-makes : (day : ℕ) (firm found : Firm) (command : ReportCommand) → IsMade day firm (Asks (asked_for command)) found → found ≡ firm
report-makes day firm found command made = grind (arith, ints, nat_tests, accounting-same, account-same)

pub report-leaves : {done : Type 0} (day : ℕ) (firm after : Firm) (command : ReportCommand) (old new : Seen)
    → MayLeave done (IsMade day firm (Asks (asked_for command))) firm after old new → LeavesOr firm old.leaves new.leaves
report-leaves day firm after command old new may found left = elim (may.crash found left) [ inl was ↦ inl was | inr made ↦ inr (report-makes day firm found command made) ]
