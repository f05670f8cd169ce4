use Rattle.matter_parts.proofs.Names.{position, ◌≡◌, ℕ, None, subst}
use Rattle.matter_parts.proofs.ByPlace.{numbered-left-set}
use Rattle.matter_parts.proofs.Keepers.{is_number, left-set, left-none}
use Rattle.matter_parts.proofs.kept.set_left.Goals as goal

pub invariant_of-kept : goal.invariant_of-kept
invariant_of-kept c = λ is.
    numbered-left-set c.kept.inside.entries.items c.in-Some.given.number c.in-Some.given.left c.in-Some-place_of.i
    c.index_mut.result.now (c.kept.invariant is) (rw c.kept.view_is (rw c.get.ensures.value at
    c.in-Some-place_of.ensures)) c.index_mut.ensures.value

pub returns-in-Some-place_of : goal.returns-in-Some-place_of
returns-in-Some-place_of c =
    rw (c.in-Some.is, c.kept.view_is) (left-set c.args.kept.now c.in-Some.given.number c.in-Some.given.left
    c.in-Some-place_of.i c.index_mut.result.now (rw c.get.ensures.value at c.in-Some-place_of.ensures) (rw
    c.kept.view_is at c.index_mut.ensures.value))

pub returns-in_default-place_of : goal.returns-in_default-place_of
returns-in_default-place_of c =
    let P : ℕ → Type 0 = λ n. None ≡ position (is_number n) c.args.kept.now in
    rw c.in-Some.is (left-none c.args.kept.now c.in-Some.given.number c.in-Some.given.left (subst P c.get.ensures.value c.in_default-place_of.ensures))
