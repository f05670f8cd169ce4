use Rattle.firm_audit.proofs.Names.{sym, ◌∙◌, arith, nat_tests, false≢true}
use Rattle.firm_audit.proofs.Entries.{entry-there, entry-missing}
use Rattle.firm_audit.proofs.journal.has_entry.Goals as goal

pub returns-in-Ok : goal.returns-in-Ok
returns-in-Ok c = grind (arith, nat_tests, entry-there)

pub returns-in-Err : goal.returns-in-Err
returns-in-Err c = (λ h. absurd (false≢true h), λ there. absurd (entry-missing c.args.matter c.args.entry _ c.args.matters.now (sym c.in-Err.is ∙ c.matter_place.ensures) there))
