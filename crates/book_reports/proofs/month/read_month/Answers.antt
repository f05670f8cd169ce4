use Rattle.book_reports.proofs.Names.{◌≡◌, fold, ap, ◌∙◌, Firm, arith, ints, nat_tests, counted, is_none}
use Rattle.trust_base.specs.Periods.{Span, month_to}
use Rattle.firm_figures.specs.Reconciliations.{with_balance_noted, with_exception_kept}
use Rattle.firm_periods.specs.Approvals.{ApprovalsKept, approvals_of, no_approvals, with_approval, with_issued_row}
use Rattle.firm_periods.specs.Month.{MonthKept, month_kept, with_month_movement, with_month_own, with_month_row}
use Rattle.firm_periods.specs.declared.named_sink.Pick.TheVariants as pick
use Rattle.firm_periods.proofs.Approvals.{approvals-kept}
use Rattle.firm_periods.proofs.PacketParts.{month-parted}
use Rattle.book_reports.proofs.PacketTold.{list-for}
use Rattle.book_reports.proofs.ReadCalls.{handed-before, read-then}
use Rattle.book_reports.proofs.ReportTexts.{clients-listed}
use Rattle.book_reports.proofs.month.read_month.Goals as goal

pub returns-clause-told : goal.returns-clause-told
returns-clause-told g c =
    λ clean s0.
    let B = g.B.Book in
    let day = c.args.day in
    let firm : Firm = (B.seen c.args.book.now).firm in
    let sound = (B.seen c.args.book.now).sound s0 in
    let acts = c.in_ok-read.ensures in
    let rows = c.in_ok-each_row.ensures in
    let moves = c.in_ok-each_movement.ensures in
    let lines = c.in_ok-each_firm_line.ensures in
    let parts = c.in_ok-parts.ensures in
    let left = c.in_ok-each_exception.ensures in
    let balances = c.in_ok-each_balance.ensures in
    let c4 = balances.read.was_clean clean in
    let c3 = left.read.was_clean c4 in
    let c2 = lines.read.was_clean c3 in
    let c1 = moves.read.was_clean c2 in
    let c0 = rows.read.was_clean c1 in
    let s1 = acts.read.still_stands c0 s0 in
    let s2 = rows.read.still_stands c1 s1 in
    let s3 = moves.read.still_stands c2 s2 in
    let s4 = lines.read.still_stands c3 s3 in
    let s5 = left.read.still_stands c4 s4 in
    let f1 = acts.read.same c0 s0 in
    let f2 = rows.read.same c1 s1 ∙ f1 in
    let f3 = moves.read.same c2 s2 ∙ f2 in
    let f4 = lines.read.same c3 s3 ∙ f3 in
    let f5 = left.read.same c4 s4 ∙ f4 in
    let taken = handed-before (λ (f : Firm). f.rows) f1 (rows.handed c1 s1) in
    let moved = handed-before (λ (f : Firm). f.movements) f2 (moves.handed c2 s2) in
    let lined = handed-before (λ (f : Firm). f.firm_lines) f3 (lines.handed c3 s3) in
    let excepted = handed-before (λ (f : Firm). f.exceptions) f4 (left.handed c4 s4) in
    let balanced = handed-before (λ (f : Firm). f.balances) f5 (balances.handed clean s5) in
    let begun = c.in_ok-read.read.approvals in
    let known = acts.told c0 s0 in
    let kept =
    lined.all
    ∙ ap (λ (s : MonthKept). fold with_month_own s firm.firm_lines) (moved.all
    ∙ ap (λ (s : MonthKept). fold with_month_movement s firm.movements) (taken.all
    ∙ ap (λ (s : MonthKept). fold with_month_row s firm.rows) c.new-sink.ensures)) in
    let parted = month-parted day begun firm in
    let listed = approvals-kept (month_to day) firm in
    let approved = ap (λ (s : MonthKept). s.approvals) kept ∙ (parted.approvals
    ∙ ap (λ (a : ApprovalsKept). fold with_issued_row a firm.rows) (known.acts ∙ ap (λ (s : Span). fold with_approval (no_approvals s) firm.acts) c.month_to.ensures)) in
    record {
      reconciliation = record {
        all =
            balanced.all
            ∙ ap (λ s. fold with_balance_noted s firm.balances) (excepted.all
            ∙ ap (λ s. fold with_exception_kept s firm.exceptions) (parts.reconciliation ∙ (ap (λ (s : MonthKept). s.reconciliation) kept ∙ parted.reconciliation)));
        countable = record {
          rows = taken.countable;
          movements = moved.countable;
          firm_lines = lined.countable;
          exceptions = excepted.countable;
          balances = balanced.countable;
        };
      };
      clients = clients-listed day firm _ sound taken.countable lined.countable (parts.clients ∙ (ap (λ (s : MonthKept). s.clients) kept ∙ parted.clients));
      transit = list-for (pick.Transit day) firm _ _ taken.countable lined.countable (ap (λ (s : MonthKept). s.transit) kept ∙ parted.transit) parts.transit;
      outstanding = list-for (pick.Outstanding day) firm _ _ taken.countable lined.countable (ap (λ (s : MonthKept). s.outstanding) kept ∙ parted.outstanding) parts.outstanding;
      receipts = list-for (pick.Receipts (month_to day)) firm _ _ taken.countable lined.countable (ap (λ (s : MonthKept). s.receipts) kept ∙ parted.receipts) parts.receipts;
      disbursements = list-for (pick.Disbursements (month_to day)) firm _ _ taken.countable lined.countable (ap (λ (s : MonthKept). s.disbursements) kept ∙ parted.disbursements) parts.disbursements;
      approvals = parts.approvals ∙ (ap approvals_of approved ∙ listed.lines);
      purged = parts.purged ∙ (ap (λ (a : ApprovalsKept). a.purged) approved ∙ listed.purged);
      unread = known.unread;
    }

pub returns-clause-read : goal.returns-clause-read
returns-clause-read g c =
    let acts = c.in_ok-read.ensures.read in
    let rows = c.in_ok-each_row.ensures.read in
    let moves = c.in_ok-each_movement.ensures.read in
    let lines = c.in_ok-each_firm_line.ensures.read in
    let left = c.in_ok-each_exception.ensures.read in
    let balances = c.in_ok-each_balance.ensures.read in
    let all = read-then acts (read-then rows (read-then moves (read-then lines (read-then left balances)))) in
    grind (arith, ints, nat_tests, counted)
