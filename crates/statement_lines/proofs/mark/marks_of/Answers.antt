use Rattle.statement_lines.proofs.Names.{◌∙◌, sym, ◌≤◌, length, arith}
use Rattle.statement_lines.proofs.Marked.{marks_done}
use Rattle.statement_lines.proofs.mark.marks_of.Goals as goal

pub returns : goal.returns
returns c =
    let past : length c.args.entries.now ≤ c.loop-place.place = omega arith in
    sym (c.loop-place.invariant ∙ marks_done c.args.entries.now c.loop-place.place c.loop-place.marks.items past)
