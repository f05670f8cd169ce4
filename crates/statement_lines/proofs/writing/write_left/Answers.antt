use Rattle.std.proofs.Common.{Ok}
use Rattle.statement_lines.proofs.Names.{◌≡◌, ◌∙◌, ◌+◌, ◌++◌, sym, subst, [], option_copied, arith, fields_of, Adds, row_as, rows_by, ints, nat_tests}
use Rattle.statement_lines.proofs.Passing.{met-all, met-more, met-start, place-none, place-some, place-within, place_behind}
use Rattle.statement_lines.proofs.RowsRead.{left-more, left-none}
use Rattle.statement_lines.proofs.RowsWritten.{adds-more, adds-none}
use Rattle.statement_lines.proofs.writing.write_left.Goals as goal
use Rattle.statement_lines.proofs.writing.write_left.Goals.{then-is_some, else-is_some}

pub loop-row-init : goal.loop-row-init
loop-row-init g c =
    let start = c.into_iter-row-iterator.ensures.into_iter_gives in
    let rdr = c.byte_records-row-items.ensures.rdr in
    let turns = c.byte_records-row-items.ensures.left in
    record {
      behind = omega arith;
      left = λ outcome_of all given n o. (
        grind (arith, ints, nat_tests),
        (
          all,
          grind (arith, ints, nat_tests),
          ([], met-start outcome_of _ _ all n o, adds-none g.W.Write.contents c.args.writer.now),
        ),
      );
    }

pub overflow_add-place : goal.overflow_add-place
overflow_add-place g c = grind (arith)

pub loop-row-preserved : goal.loop-row-preserved
loop-row-preserved g c =
    let inv = c.loop-row.invariant in
    let read : c.in-Some.row ≡ Ok c.in_ok-row.row = c.in_ok-row.ensures in
    let fields = fields_of c.in_ok-row.row in
    let found = option_copied c.outcome_at-outcome.result in
    let next : c.in-Some-checked_add.next ≡ c.loop-row.number + 1 = c.in-Some-checked_add.ensures.1 in
    let place : c.if-is_some.place ≡ place_behind c.loop-row.place found = elim c.if-is_some.branch [
      | then-is_some w ↦ w.place-is ∙ place-some _ _ (sym c.is_some.ensures ∙ w.if-is_some.true)
      | else-is_some w ↦ w.place-is ∙ place-none _ _ (sym c.is_some.ensures ∙ w.if-is_some.false)
    ] in
    record {
      behind = rw (next, place) (place-within c.loop-row.place c.loop-row.number found inv.behind);
      left = λ outcome_of all given n o.
          let (turns, (left, has, (done, met, adds))) = inv.left outcome_of all given n o in
          let s = rw (c.in-Some.is, read) at ((c.next.ensures.steps turns has.trim).0 has.ready) in
          let (rest, parts, more) =
          left-more c.loop-row.row-iterator.rdr.now c.next.new.self.rdr.now fields left has s.0 s.1 in (
            s.2,
            (
              rest,
              more,
              (
                done ++ row_as fields found,
                rw (next, place) (met-more outcome_of c.args.numbers.now c.args.outcomes.now all c.loop-row.number
                    c.loop-row.place fields rest done found (rw parts at met) (rw next at c.outcome_at-outcome.ensures)),
                adds-more g.W.Write.contents _ _ _ done (row_as fields found) adds c.in_ok-write_row.ensures,
              ),
            ),
          );
    }

pub returns : goal.returns
returns g c = λ outcome_of all given n o.
    let (turns, (left, has, (done, met, adds))) = c.loop-row.invariant.left outcome_of all given n o in
    let s = rw c.in-None.is at ((c.next.ensures.steps turns has.trim).0 has.ready) in
    let none = left-none c.loop-row.row-iterator.rdr.now c.next.new.self.rdr.now [] left has s in
    let whole : rows_by outcome_of 1 all ≡ done = met-all outcome_of _ _ _ _ _ left done met none in
    subst (λ rows. Adds g.W.Write.contents c.args.writer.now c.loop-row.writer rows) (sym whole) adds
