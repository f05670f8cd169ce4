use Rattle.matter_parts.proofs.Names.{arith}
use Rattle.matter_parts.proofs.ByPlace.{numbered-push, numbered-set}
use Rattle.matter_parts.proofs.Keepers.{with-set, with-push}
use Rattle.matter_parts.proofs.kept.put.Goals as goal

pub invariant_of-kept : goal.invariant_of-kept
invariant_of-kept c = λ is.
    numbered-set c.kept.inside.entries.items c.args.new c.in-Some.i (c.kept.invariant is) (rw c.kept.view_is (rw
    c.get.ensures.value at c.in-Some.ensures))

pub invariant_of-kept-in-None : goal.invariant_of-kept-in-None
invariant_of-kept-in-None c = λ is. grind (arith, numbered-push)

pub returns-in-Some-clause-ok : goal.returns-in-Some-clause-ok
returns-in-Some-clause-ok c =
    rw c.kept.view_is (with-set c.args.kept.now c.args.new c.in-Some.i (rw c.get.ensures.value at c.in-Some.ensures))

pub returns-in_ok-push-in-None-clause-ok : goal.returns-in_ok-push-in-None-clause-ok
returns-in_ok-push-in-None-clause-ok c =
    rw (c.in_ok-push-in-None.ensures.items, c.kept.view_is) (with-push c.args.kept.now c.args.new (rw
    c.get.ensures.value at c.in-None.ensures))
