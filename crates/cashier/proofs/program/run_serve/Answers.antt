use Rattle.cashier.proofs.Names.{◌∙◌, [], inl, inr, refl, sym, Appends-nil, arith, ints, nat_tests}
use Rattle.cashier.proofs.CallFacts.{book-standing}
use Rattle.cashier.proofs.ServingFacts.{met-in-turn, served-as, serving-no-store}
use Rattle.cashier.proofs.program.run_serve.Goals as goal

pub returns-in_default-clause-ends : goal.returns-in_default-clause-ends
returns-in_default-clause-ends g c = λ clean stands. inr (record { cause = c.in_default.ensures.none; outcome = refl; written = Appends-nil _; firm = refl })

pub returns-clause-store : goal.returns-clause-store
returns-clause-store g c = λ store. serving-no-store _ (sym c.outcome_of_serving.ensures ∙ store)

pub returns-clause-ends : goal.returns-clause-ends
returns-clause-ends g c =
    let B = g.B.Book in
    let all = c.serve_connections.ensures.served in
    λ clean stands.
    inl (record {
      end = c.serve_connections.result;
      outcome = sym c.outcome_of_serving.ensures;
      ends = all.ends;
      met = met-in-turn B.seen _ _ _ _ all.ends _ (served-as B.seen _ _ _ _ c.in-Some.ensures.some _ all.ends _ all.served) clean stands;
      lines = all.told;
      refused = λ e. c.in-Some.ensures.some _ _ (all.refused e);
    })

pub returns-clause-kept : goal.returns-clause-kept
returns-clause-kept g c = grind (arith, ints, nat_tests, book-standing, serving-no-store)

pub returns-in_default-clause-crash : goal.returns-in_default-clause-crash
returns-in_default-clause-crash g c = ([], refl)

pub returns-clause-crash : goal.returns-clause-crash
returns-clause-crash g c = grind (arith, ints, nat_tests, served-as)
