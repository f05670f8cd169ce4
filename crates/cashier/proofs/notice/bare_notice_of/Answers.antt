use Rattle.cashier.proofs.Names.{◌≡◌, List, Some, None, refl, Text, Outcome}
use Rattle.cashier.specs.Notice.{IsTold}
use Rattle.cashier.specs.declared.notice.Notice.TheVariants as notice
use Rattle.cashier.specs.declared.outcome.Outcome.TheVariants as outcome
use Rattle.cashier.proofs.notice.bare_notice_of.Goals as goal

-- advice that names nothing is true of all words
nothing-named : (words : List Text) (told : Outcome) → told ≡ outcome.CommandLine → IsTold words told (Some (notice.CommandLine record { command = None; wrong = None }))
nothing-named words told is = rw is (record { command = None; wrong = None }, record { command = tt; wrong = tt }, refl)

pub returns-in-CommandLine : goal.returns-in-CommandLine
returns-in-CommandLine c = λ words. nothing-named words _ c.in-CommandLine.is
