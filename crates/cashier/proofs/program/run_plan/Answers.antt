use Rattle.cashier.proofs.Names.{◌∙◌, inl, inr, sym}
use Rattle.cashier.proofs.CallFacts.{book-kept}
use Rattle.cashier.proofs.StreamFacts.{stream-ends, stream-no-store}
use Rattle.cashier.proofs.TrailFacts.{served-left}
use Rattle.cashier.proofs.program.run_plan.Goals as goal

pub returns-in-Sheet-clause-ends : goal.returns-in-Sheet-clause-ends
returns-in-Sheet-clause-ends g c = λ words means clean stands. inl (record {
  today = c.args.plan.now.today;
  means = rw c.in-Sheet.is at means;
  end = c.run_sheet.result;
  outcome = sym c.outcome_of_sheet.ensures;
  ends = c.run_sheet.ensures.ends clean stands;
  trail = c.run_sheet.ensures.trail clean stands;
})

pub returns-in-Sheet-clause-crash : goal.returns-in-Sheet-clause-crash
returns-in-Sheet-clause-crash g c = λ words means sure clean stands. inl (record {
  today = c.args.plan.now.today;
  means = rw c.in-Sheet.is at means;
  end = c.run_sheet.result;
  outcome = sym c.outcome_of_sheet.ensures;
  lines = c.run_sheet.ensures.crash sure clean stands;
  trail = c.run_sheet.ensures.left sure clean stands;
})

pub returns-in-Stream-clause-ends : goal.returns-in-Stream-clause-ends
returns-in-Stream-clause-ends g c = λ words means clean stands. inr (inr (inr (inl (record {
  today = c.args.plan.now.today;
  means = rw c.in-Stream.is at means;
  ends = record { end = c.serve_stream.result; outcome = sym c.outcome_of_stream.ensures; ends = stream-ends c.serve_stream.ensures clean stands };
}))))

pub returns-in-Stream-clause-kept : goal.returns-in-Stream-clause-kept
returns-in-Stream-clause-kept g c = λ words means.
    book-kept (λ before after counted. inl (λ store. absurd (stream-no-store _ (sym c.outcome_of_stream.ensures ∙ store)))) c.serve_stream.ensures.kept

pub returns-in-Stream-clause-crash : goal.returns-in-Stream-clause-crash
returns-in-Stream-clause-crash g c = λ words means sure clean stands. inr (inr (inr (inl (record {
  today = c.args.plan.now.today;
  means = rw c.in-Stream.is at means;
  messages = (
    c.serve_stream.result,
    sym c.outcome_of_stream.ensures,
    c.serve_stream.ensures,
    served-left (g.B.Book.seen c.args.desk.now) (g.B.Book.seen c.serve_stream.new.desk) c.serve_stream.ensures sure clean
        stands,
  );
}))))
