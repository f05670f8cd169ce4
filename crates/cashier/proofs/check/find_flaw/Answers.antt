use Rattle.cashier.proofs.check.find_flaw.Goals as goal

pub returns-in-Ok-clause-sound : goal.returns-in-Ok-clause-sound
returns-in-Ok-clause-sound g c = λ clean readable.
    let before = g.B.Book.seen c.args.desk.now in
    c.found_of.ensures before.firm before.refusals (g.B.Book.seen c.check.new.self).refusals (c.in-Ok.ensures.sound clean readable)
    (c.in-Ok.ensures.flaw clean readable) (c.in-Ok.ensures.counts clean readable) (c.in-Ok.ensures.trail clean readable)
