use Rattle.std.proofs.Common.{rules, ◌≡◌, Option, None, subst}
use Rattle.std.specs.Prelude.{◌↔◌, IfSome}
use Rattle.firm_audit.specs.Flaws.{IsFlawOf}
use Rattle.firm_audit.specs.declared.flaw.Flaw.{Flaw}
use Rattle.firm_rows.specs.Firm.{Firm}
use Rattle.firm_rows.specs.FirmSound.{FirmSound}
use Rattle.book_reports.proofs.FlawsFound.{checked-flaw, checked-sound}
use Rattle.book_reports.proofs.checking.check.Goals as goal

pub returns-in-Some-clause-sound : goal.returns-in-Some-clause-sound
returns-in-Some-clause-sound g c = λ clean readable.
    let firm : Firm = (g.B.Book.seen c.args.book.now).firm in
    subst (λ (flaw : Option Flaw). flaw ≡ None ↔ FirmSound firm) c.in-Some.is
    (checked-sound c.in_ok-rows.rows firm (search rules) (search rules) c.in-Ok.flaw (search rules))

pub returns-in-Some-clause-flaw : goal.returns-in-Some-clause-flaw
returns-in-Some-clause-flaw g c = λ clean readable.
    let firm : Firm = (g.B.Book.seen c.args.book.now).firm in
    subst (λ (flaw : Option Flaw). IfSome flaw (IsFlawOf firm)) c.in-Some.is
    (checked-flaw c.in_ok-rows.rows firm (search rules) (search rules) c.in-Ok.flaw (search rules))

pub returns-clause-sound : goal.returns-clause-sound
returns-clause-sound g c = λ clean readable.
    let firm : Firm = (g.B.Book.seen c.args.book.now).firm in
    let none : c.in-Ok.flaw ≡ None = search rules in
    subst (λ (flaw : Option Flaw). flaw ≡ None ↔ FirmSound firm) none
    (checked-sound c.in_ok-rows.rows firm (search rules) (search rules) c.in-Ok.flaw (search rules))
