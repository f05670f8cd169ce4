use Rattle.trust_reports.proofs.Names.{◌≡◌, ◌++◌, codes, entry_line, flat_map, listed_exception, rules}
use Rattle.std.proofs.lemmas.Result.{on_ok_weaker}
use Rattle.firm_figures.specs.Reconciliations.{told}
use Rattle.trust_reports.specs.Texts.{heading}
use Rattle.trust_reports.specs.TextsOfReconciliation.{bank_figures, book_figures, double_line, opening_line, reconciliation_text}
use Rattle.trust_reports.proofs.TextFacts.{figures_told, in_figures, three_parts}
use Rattle.trust_reports.proofs.reconciliation.ReconciledPrinted.push_to.Goals as goal

pub returns-clause-text : goal.returns-clause-text
returns-clause-text c =
    let shown = told c.args.self.now.reconciliation.now in
    let f = shown.figures in
    let transit = rw c.deref.ensures.value at c.in_ok-push_entries.ensures.text in
    let out = rw c.deref-2.ensures.value at c.in_ok-push_entries-2.ensures.text in
    let exceptions = rw c.deref-3.ensures.value at c.in_ok-push_exceptions.ensures.text in
    let early = rw c.deref-4.ensures.value at c.in_ok-push_entries-3.ensures.text in
    let doubles = rw c.deref-5.ensures.value at c.in_ok-push_lines.ensures.text in
    let openings = rw c.deref-6.ensures.value at c.push_lines-2.ensures.text in
    let text = c.push_lines-2.new.self.text in
    let last_two = flat_map double_line shown.doubles ++ flat_map opening_line shown.openings in
    let early_lines = flat_map (entry_line (codes "EARLY")) shown.early in
    let out_lines = flat_map (entry_line (codes "OUT")) shown.out in
    let exception_lines = flat_map listed_exception shown.exceptions in
    let transit_lines = flat_map (entry_line (codes "TRANSIT")) shown.transit in
    on_ok_weaker
    {P = text ≡ c.push_lines.new.self.text ++ flat_map opening_line shown.openings}
    {Q = text ≡ c.args.page.now.text ++ reconciliation_text c.args.self.now.p shown}
    c.push_lines-2.result
    (λ last.
    in_figures c.args.page.now.text _ text (heading (codes "RECONCILIATION") c.args.self.now.p) (bank_figures f)
    (book_figures f) (transit_lines ++ (out_lines ++ (exception_lines ++ (early_lines ++ last_two))))
    c.in_ok-push_heading.ensures.text
    (three_parts c.push_heading.new.page.text _ _ text (bank_figures f ++ book_figures f) transit_lines
    (out_lines ++ (exception_lines ++ (early_lines ++ last_two)))
    (figures_told _ _ f _ _ _ _ _ _ _ _ _ _ c.in_ok-push_columns.ensures.text (search rules) (search rules)
    (search rules) (search rules) (search rules) (search rules) (search rules) (search rules) (search rules)
    (search rules))
    transit
    (three_parts c.push_entries.new.page.text _ _ text out_lines exception_lines (early_lines ++ last_two) out
    exceptions
    (three_parts c.push_exceptions.new.page.text _ _ text early_lines (flat_map double_line shown.doubles)
    (flat_map opening_line shown.openings) early doubles last))))
    openings
