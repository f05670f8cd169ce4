use Rattle.cashier.proofs.Names.{◌∙◌, inl, inr, refl, sym, arith, ints, nat_tests}
use Rattle.command_line.proofs.OneTask.{check-alone}
use Rattle.cashier.proofs.RunFacts.{put-line, store-no-line}
use Rattle.cashier.proofs.TrailFacts.{run-kept, run-left}
use Rattle.cashier.proofs.program.run_at_path.Goals as goal

pub returns-in-Err-clause-began : goal.returns-in-Err-clause-began
returns-in-Err-clause-began g c = λ ended. store-no-line c.fault.result (sym c.outcome_of_store.ensures ∙ ended)

pub returns-in-Err-clause-ran : goal.returns-in-Err-clause-ran
returns-in-Err-clause-ran g c = λ _ _. inr (record { fault = c.fault.result; outcome = c.outcome_of_store.ensures; nothing = (refl, refl) })

pub returns-clause-began : goal.returns-clause-began
returns-clause-began g c = grind (arith, ints, nat_tests, put-line)

pub returns-clause-ran : goal.returns-clause-ran
returns-clause-ran g c = λ words means.
    let B = g.S.AtPath.Book in
    let served : (B.seen c.new-desk.result).sure → (B.seen c.new-desk.result).clean = rw c.new-desk.ensures c.in-Ok.ensures.serves in inl (record {
      before = c.new-desk.result;
      found = rw c.new-desk.ensures c.in-Ok.ensures.found;
      serves = served;
      after = c.run_plan-ended.new.desk;
      ended = c.run_plan-ended.result;
      kept = c.run_plan-ended.ensures.kept words means;
      sound = λ clean stands. (B.seen c.run_plan-ended.new.desk).sound ((c.run_plan-ended.ensures.kept words means).still_stands clean stands);
      trail = λ clean stands. run-kept words _ _ _ _ _ ((B.seen c.new-desk.result).sound stands) (c.run_plan-ended.ensures.ends words means clean stands);
      ran = λ clean stands. c.run_plan-ended.ensures.ends words means clean stands;
      crash = λ sure stands. c.run_plan-ended.ensures.crash words means sure (served ((c.run_plan-ended.ensures.kept words means).was_sure sure)) stands;
      stopped = λ sure stands. run-left B.seen words _ _ _ _ _ stands (c.run_plan-ended.ensures.crash words means sure (served ((c.run_plan-ended.ensures.kept words means).was_sure sure)) stands);
      checked = λ clean readable check. c.run_plan-ended.ensures.sound clean readable (check-alone _ _ _ check means);
      shown = c.tell_of_rows.new.desk;
      read = c.tell_of_rows.ensures;
      put = c.put_back-put.result;
      left = rw c.into_book.ensures at c.put_back-put.ensures.put;
      outcome = c.outcome_put_back.ensures;
    })
