use Rattle.statement_match.proofs.Names.{◌∙◌, ap, day_with}
use Rattle.statement_match.proofs.FirstDay.{sums_are}
use Rattle.statement_match.proofs.entry_index.EntryIndex.sums_by_day.Goals as goal

pub returns : goal.returns
returns c = λ amount.
    ap (day_with amount) (rw c.deref.ensures.value at c.in_ok-sums.ensures)
    ∙ sums_are amount c.args.self.now c.in_ok-days.days.items c.in_ok-days.ensures.rises
    (rw c.self.view_is at c.in_ok-days.ensures.same)
