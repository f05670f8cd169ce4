use Rattle.trust_desk.proofs.Names.{◌∙◌, fold, Firm, arith, ints, nat_tests, counted}
use Rattle.trust_store.specs.MatterActs.{acts_in}
use Rattle.book_reports.proofs.ReadCalls.{read-then}
use Rattle.trust_desk.proofs.KeptActs.{acts-kept, put_act}
use Rattle.trust_desk.proofs.acts.find_dossier.Goals as goal

pub returns-clause-part : goal.returns-clause-part
returns-clause-part g c =
    λ clean stands. c.in_ok-matter.ensures.found (c.in_ok-each_act_of.ensures.read.was_clean clean) stands

pub returns-clause-acts : goal.returns-clause-acts
returns-clause-acts g c =
    λ clean stands.
    let B = g.B.Book in
    let firm : Firm = (B.seen c.args.book.now).firm in
    let first = c.in_ok-matter.ensures in
    let second = c.in_ok-each_act_of.ensures in
    let served = second.read.was_clean clean in
    let handed = second.handed clean (first.read.still_stands served stands) in
    c.finish.ensures
    ∙ acts-kept c.args.no firm c.each_act_of.new.sink
    (handed.all ∙ (λ i. fold put_act (c.new-kept.ensures i) (acts_in c.args.no (first.read.same served stands i).acts)))

pub returns-clause-read : goal.returns-clause-read
returns-clause-read g c =
    let all = read-then c.in_ok-matter.ensures.read c.in_ok-each_act_of.ensures.read in
    grind (arith, ints, nat_tests, counted)
