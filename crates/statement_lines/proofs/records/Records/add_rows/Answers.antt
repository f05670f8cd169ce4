use Rattle.std.proofs.Common.{Ok}
use Rattle.statement_lines.proofs.Names.{◌≡◌, [], refl, fold, fields_of, with_record, arith, ints, nat_tests}
use Rattle.statement_lines.proofs.RowsRead.{left-more, left-none}
use Rattle.statement_lines.proofs.records.Records.add_rows.Goals as goal

pub loop-row-init : goal.loop-row-init
loop-row-init c = λ all given.
    let start = c.into_iter-row-iterator.ensures.into_iter_gives in
    let rdr = c.byte_records-row-items.ensures.rdr in
    let turns = c.byte_records-row-items.ensures.left in
    (grind (arith, ints, nat_tests), (all, grind (arith, ints, nat_tests), refl))

pub loop-row-preserved : goal.loop-row-preserved
loop-row-preserved c = λ all given.
    let (turns, (left, has, so_far)) = c.loop-row.invariant all given in
    let fields = fields_of c.in_ok-row.row in
    let read : c.in-Some.row ≡ Ok c.in_ok-row.row = c.in_ok-row.ensures in
    let s = rw (c.in-Some.is, read) at ((c.next.ensures.steps turns has.trim).0 has.ready) in
    let (rest, parts, more) =
    left-more c.loop-row.row-iterator.rdr.now c.next.new.self.rdr.now fields left has s.0 s.1 in
    let added : c.add.new.self ≡ with_record c.loop-row.self fields = c.in_ok-add.ensures in
    (s.2, (rest, more, grind (arith, ints, nat_tests, fold)))

pub returns : goal.returns
returns c = λ all given.
    let (turns, (left, has, so_far)) = c.loop-row.invariant all given in
    let s = rw c.in-None.is at ((c.next.ensures.steps turns has.trim).0 has.ready) in
    let none = left-none c.loop-row.row-iterator.rdr.now c.next.new.self.rdr.now [] left has s in
    rw none at so_far
