use Rattle.byte_streams.proofs.Names.{◌≡◌, ℕ, ◌-◌, List, take, drop, length, arith, length-drop, take_all, take-add, Appends-trans}
use Rattle.byte_streams.proofs.output.send.Goals as goal

-- what is left of a text, as the code slices it
rest : (i : ℕ) (xs : List ℕ) → take (length xs - i) (drop i xs) ≡ drop i xs
rest i xs = take_all (length xs - i) (drop i xs) (omega (arith, length-drop i xs))

pub loop-preserved : goal.loop-preserved
loop-preserved g c =
    let bound = rw rest at c.in-Ok.ensures.bound in
    let moved = rw rest at c.in-Ok.ensures.bytes in
    record {
      in_range = omega (arith, length-drop c.loop.done c.args.text.now);
      count = omega arith;
      bytes = rw (take-add c.loop.done c.in-Ok.n c.args.text.now) (Appends-trans _ _ _ _ _ c.loop.invariant.bytes moved);
    }
