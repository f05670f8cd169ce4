use Rattle.cashier.proofs.Names.{inl}
use Rattle.cashier.proofs.CheckFacts.{check-ends, reads-leave, said-ok, check-true}
use Rattle.cashier.proofs.check.run_check.Goals as goal

pub returns-clause-ends : goal.returns-clause-ends
returns-clause-ends g c = λ clean stands.
    check-ends _ _ _ _ _ (c.find_flaw-found.ensures.reads.same clean stands) c.print_found.ensures.prints

pub returns-clause-sound : goal.returns-clause-sound
returns-clause-sound g c = λ clean readable.
    check-true _ _ _ _ _ (c.find_flaw-found.ensures.sound clean readable) c.print_found.ensures.said c.print_found.ensures.refused

pub returns-clause-kept : goal.returns-clause-kept
returns-clause-kept g c = reads-leave c.find_flaw-found.ensures.reads

pub returns-clause-serves : goal.returns-clause-serves
returns-clause-serves g c = λ done sure. said-ok _ _ _ (c.print_found.ensures.said done) (c.find_flaw-found.ensures.serves sure)

pub returns-clause-crash : goal.returns-clause-crash
returns-clause-crash g c = λ clean stands found left. inl (c.find_flaw-found.ensures.reads.crash clean stands found left)
