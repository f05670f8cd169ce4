use Rattle.byte_streams.proofs.Names.{arith, length-append, take, Consumes-trans, length-take, ints, nat_tests}
use Rattle.byte_streams.proofs.input.read_whole.Goals as goal

pub returns-then-is_err-clause-err : goal.returns-then-is_err-clause-err
returns-then-is_err-clause-err g c =
    let front = take c.in-Ok.n c.read.new.buf in
    let more = Consumes-trans _ _ _ c.loop.bytes.items front c.loop.invariant.bytes c.in-Ok.ensures.bytes.0 in
    let joined = length-append c.loop.bytes.items front in
    grind (arith, ints, nat_tests, length-take)

pub loop-preserved : goal.loop-preserved
loop-preserved g c =
    let front = take c.in-Ok.n c.read.new.buf in
    let more = Consumes-trans _ _ _ c.loop.bytes.items front c.loop.invariant.bytes c.in-Ok.ensures.bytes.0 in
    let joined = length-append c.loop.bytes.items front in
    record {
      in_range = grind (arith, ints, nat_tests, length-take);
      count = grind (arith, ints, nat_tests, length-take);
      bytes = grind (arith, ints, nat_tests);
    }
