use Rattle.std.proofs.Common.{◌≡◌, ◌+◌, [], ◌∷◌, List, length, drop, sym, ap, ◌∙◌, arith}
use Rattle.std.proofs.lemmas.Bool.Decides.{nat_tests}
use Rattle.std.proofs.lemmas.List.{drop_more}
use Rattle.std.proofs.Math.ListN.{drop_of_length-le}
use Rattle.trust_store.specs.declared.plain.KeptMatter.{KeptMatter}
use Rattle.trust_store.specs.Kept.{joined}
use Rattle.book_reports.specs.Checking.{entry_count}
use Rattle.book_reports.proofs.Counting.{entries-more}
use Rattle.book_reports.proofs.checking.entries_of.Goals as goal

pub loop-kept-preserved : goal.loop-kept-preserved
loop-kept-preserved c =
    let ks = c.args.matters.now in
    let place = c.loop-kept.kept-index in
    let k = c.kept-item.result in
    let so = c.loop-kept.invariant in
    let here : drop place ks ≡ k ∷ drop (place + 1) ks = drop_more ks place k c.loop-kept-test.true ∙ ap (λ x. x ∷ drop (place + 1) ks) (sym c.kept-item.is) in
    let step : entry_count (joined (drop place ks)) ≡ length k.matter.kept + entry_count (joined (drop (place + 1) ks)) =
    ap (λ (xs : List KeptMatter). entry_count (joined xs)) here ∙ entries-more k (drop (place + 1) ks) in
    let rest = so.rest in
    record { small = grind (arith, nat_tests); rest = grind (arith, nat_tests) }

pub returns : goal.returns
returns c =
    let ks = c.args.matters.now in
    let place = c.loop-kept.kept-index in
    let so = c.loop-kept.invariant in
    let none : drop place ks ≡ [] = drop_of_length-le ks c.loop-kept-test.false in
    let zero : entry_count (joined []) ≡ 0 = omega arith in
    let left : entry_count (joined (drop place ks)) ≡ 0 = ap (λ (xs : List KeptMatter). entry_count (joined xs)) none ∙ zero in
    omega (arith, left, so.small, so.rest)
