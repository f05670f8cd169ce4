use Rattle.std.proofs.Common.{◌≡◌, ◌+◌, ◌∷◌, List, cond, drop, sym, ap, ◌∙◌, arith}
use Rattle.std.specs.Prelude.{is_some}
use Rattle.std.proofs.lemmas.Bool.{cases_Bool}
use Rattle.std.proofs.lemmas.Bool.Decides.{nat_tests}
use Rattle.std.proofs.lemmas.List.{drop_more}
use Rattle.trust_store.specs.declared.plain.KeptMatter.{KeptMatter}
use Rattle.trust_store.specs.Kept.{joined}
use Rattle.book_reports.specs.Checking.{matter_count}
use Rattle.book_reports.proofs.Counting.{heads-more}
use Rattle.book_reports.proofs.checking.opened_of.Goals as goal

pub loop-kept-preserved : goal.loop-kept-preserved
loop-kept-preserved c =
    let ks = c.args.matters.now in
    let place = c.loop-kept.kept-index in
    let k = c.kept-item.result in
    let so = c.loop-kept.invariant in
    let here : drop place ks ≡ k ∷ drop (place + 1) ks = drop_more ks place k c.loop-kept-test.true ∙ ap (λ x. x ∷ drop (place + 1) ks) (sym c.kept-item.is) in
    let step : matter_count (joined (drop place ks)) ≡ cond (is_some k.matter.head) 1 0 + matter_count (joined (drop (place + 1) ks)) =
    ap (λ (xs : List KeptMatter). matter_count (joined xs)) here ∙ heads-more k (drop (place + 1) ks) in
    grind (arith, nat_tests, cases_Bool)
