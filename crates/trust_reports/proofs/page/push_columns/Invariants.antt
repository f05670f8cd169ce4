use Rattle.trust_reports.proofs.Names.{◌≡◌, ◌++◌, take, flat_map, row_text}
use Rattle.trust_reports.proofs.page.push_columns.Given as goal

-- the text so far
abbrev pub invariant-loop-label : goal.invariant-loop-label
invariant-loop-label l = record {
  before : l.page.before ≡ l.fn.page.before;
  text : l.page.text ≡ l.fn.page.text ++ flat_map (row_text l.label_places l.figure_places) (take l.label-index l.rows);
}
