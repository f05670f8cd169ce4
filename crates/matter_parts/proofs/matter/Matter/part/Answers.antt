use Rattle.matter_parts.proofs.Names.{◌≡◌, List, ◌∙◌, subst, sym, Kept}
use Rattle.matter_parts.proofs.Keepers.{AreSmallLefts}
use Rattle.matter_parts.proofs.Naming.{part-named, held-named, only-named, small-named, named-kept, named-made}
use Rattle.matter_parts.proofs.matter.Matter.part.Goals as goal

pub made-requires : goal.made-requires
made-requires c =
    let m = c.args.self.now in
    let own : c.self.inside.kept ≡ m.kept = cc in
    let kept = named-kept m c.args.entry c.args.of c.named-named.result c.self.inside.kept c.in_ok-kept.kept c.named-named.ensures own c.in_ok-kept.ensures in
    let P : List Kept → Type 0 = AreSmallLefts in
    record {
      figures = c.self.invariant.figures;
      lefts = subst P (sym kept) (small-named m c.args.entry c.args.of (subst P own c.self.invariant.lefts));
    }

pub returns : goal.returns
returns c =
    let m = c.args.self.now in
    let own : c.self.inside.kept ≡ m.kept = cc in
    let kept = named-kept m c.args.entry c.args.of c.named-named.result c.self.inside.kept c.in_ok-kept.kept c.named-named.ensures own c.in_ok-kept.ensures in
    let figures : c.self.inside.figures ≡ m.figures = cc in
    let e = named-made m c.made.result c.args.entry c.args.of c.in_ok-head.head c.in_ok-seats.seats.items c.self.inside.figures c.in_ok-kept.kept c.made.ensures (c.in_ok-head.ensures ∙ c.head.ensures) (c.in_ok-seats.ensures ∙ c.seats.ensures) figures kept in
    search (part-named, held-named, only-named)
