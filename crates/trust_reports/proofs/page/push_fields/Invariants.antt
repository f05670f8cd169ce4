use Rattle.trust_reports.proofs.Names.{◌≡◌, ◌++◌, take, flat_map, further_piece}
use Rattle.trust_reports.proofs.page.push_fields.Given as goal

-- the text so far
abbrev pub invariant-loop-piece : goal.invariant-loop-piece
invariant-loop-piece l = record {
  before : l.page.before ≡ l.fn.page.before;
  text : l.page.text ≡ l.fn.page.text ++ flat_map further_piece (take l.piece-index l.pieces);
}
