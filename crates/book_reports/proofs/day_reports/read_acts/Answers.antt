use Rattle.book_reports.proofs.Names.{rules, ◌≡◌, fold, ap, ◌∙◌, Firm, arith, ints, nat_tests, counted}
use Rattle.std.proofs.Common.{List, map}
use Rattle.firm_periods.specs.Approvals.{with_approval}
use Rattle.trust_store.specs.declared.unread_act.UnreadAct.{UnreadAct}
use Rattle.book_reports.proofs.ReadCalls.{read-then}
use Rattle.book_reports.proofs.day_reports.read_acts.Goals as goal

pub returns-clause-told : goal.returns-clause-told
returns-clause-told g c =
    λ clean stands.
    let B = g.B.Book in
    let firm : Firm = (B.seen c.args.book.now).firm in
    let first = c.in_ok-rows.ensures in
    let second = c.in_ok-dismissals.ensures in
    let served = second.read.was_clean clean in
    let stood = first.read.still_stands served stands in
    let lent : c.deref.result.now ≡ c.in_ok-rows.rows.items = search rules in
    let told : c.deref-2.result.now ≡ c.in_ok-dismissals.dismissals.items = search rules in
    record {
      acts = (first.handed served stands).all ∙ ap (λ s. fold with_approval s firm.acts) c.new-approvals.ensures;
      unread = c.in_ok-unread.ensures.acts (told ∙ second.whole clean stood)
          ∙ ap (λ (rows : List UnreadAct). map (λ row. row.matter) rows) (lent ∙ first.whole served stands);
    }

pub returns-clause-read : goal.returns-clause-read
returns-clause-read g c =
    let all = read-then c.in_ok-rows.ensures.read c.in_ok-dismissals.ensures.read in
    grind (arith, ints, nat_tests, counted)
