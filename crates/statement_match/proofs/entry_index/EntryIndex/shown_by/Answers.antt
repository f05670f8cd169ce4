use Rattle.statement_match.proofs.Names.{◌∙◌, ap, filter, is_shown}
use Rattle.statement_lines.proofs.Shown.{all_shown}
use Rattle.statement_match.proofs.entry_index.EntryIndex.shown_by.Goals as goal

pub returns : goal.returns
returns c =
    ap (filter (is_shown c.args.line.now)) (rw (c.self.view_is, c.deref-2.ensures.value) at c.in_ok-found.ensures)
    ∙ all_shown c.args.line.now c.args.self.now c.in_ok-places.places.items c.put_in_order.new.places.items
    (rw (c.deref.ensures.value, c.in_ok-marks.ensures) at c.in_ok-places.ensures)
    c.put_in_order.ensures.rises c.put_in_order.ensures.keeps
