use Rattle.book_reports.proofs.Names.{rules, ◌≡◌, [], ◌∷◌, ◌++◌, fold, ap, ◌∙◌, Firm, arith, ints, nat_tests, counted}
use Rattle.matter_rows.specs.Rows.{is_purged}
use Rattle.trust_reports.specs.TextsOfActs.{matter_trail_text}
unfoldable use Rattle.book_reports.specs.Reports.{matter_trail_report}
use Rattle.book_reports.proofs.ReadCalls.{handed-before, read-then}
use Rattle.trust_store.specs.MatterActs.{acts_in}
use Rattle.book_reports.proofs.ReportTexts.{all-put}
use Rattle.book_reports.proofs.matter_trail.find_trail.Goals as goal

pub returns-clause-told : goal.returns-clause-told
unfolding matter_trail_report
returns-clause-told g c =
    λ clean stands.
    let B = g.B.Book in
    let firm : Firm = (B.seen c.args.book.now).firm in
    let first = c.in_ok-found.ensures in
    let second = c.in_ok-each_act_of.ensures in
    let served = second.read.was_clean clean in
    let part = (first.found served stands).is_part in
    let acts = handed-before (λ (f : Firm). acts_in c.args.matter f.acts) (first.read.same served stands) (second.handed clean (first.read.still_stands served stands)) in
    let own = acts_in c.args.matter firm.acts in
    let listed = acts.all ∙ (ap (λ s. fold (λ xs x. xs ++ x ∷ []) s own) c.new-acts.ensures ∙ all-put [] own) in
    let lent : c.deref.result.now ≡ c.finish.result.items = search rules in
    record {
      missing = grind (arith, ints, nat_tests, part.head);
      purged = c.is_purged.ensures ∙ ap is_purged part.head;
      text =
          c.in_ok-matter_trail_text.ensures.ok
          ∙ ((λ i. c.new-text.ensures.items i ++ matter_trail_text c.args.today c.args.matter c.deref.result.now)
          ∙ ap (matter_trail_text c.args.today c.args.matter) (lent ∙ (c.finish.ensures ∙ listed)));
    }

pub returns-clause-read : goal.returns-clause-read
returns-clause-read g c =
    let all = read-then c.in_ok-found.ensures.read c.in_ok-each_act_of.ensures.read in
    grind (arith, ints, nat_tests, counted)
