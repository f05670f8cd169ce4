use Rattle.std.proofs.Common.{◌∙◌}
use Rattle.trust_reports.specs.TextsOfActs.{approval_line}
use Rattle.trust_reports.proofs.TextFacts.{lines_more}
use Rattle.trust_reports.proofs.approvals.push_approvals.Goals as goal

pub loop-line-preserved : goal.loop-line-preserved
loop-line-preserved c =
    let lines = c.args.lines.now in
    let place = c.loop-line.line-index in
    let line = c.line-item.result in
    let written = c.in_ok-push_approval.ensures in
    record {
      before = written.before ∙ c.loop-line.invariant.before;
      text = lines_more (approval_line c.args.unread.now) lines place line c.args.page.now.text c.loop-line.page.text c.push_approval.new.page.text c.loop-line-test.true c.line-item.is c.loop-line.invariant.text written.text;
    }
