use Rattle.figure_laws.proofs.Names.{ap, sym, subst, ◌∙◌, fold, pos, ◌≤ℤ◌, AllByRecursion, last_sum, trial_total}
use Rattle.std.proofs.Common.{◌≡◌}
use Rattle.firm_figures.specs.Lists.{JournalKept, journal_of, no_journal, with_moved}
use Rattle.figure_laws.proofs.Lists.{journal-kept}
use Rattle.figure_laws.proofs.of_lists.journal_list.Goals as goal

pub returns-clause-lines : goal.returns-clause-lines
returns-clause-lines c =
    let took : c.hand.new.sink ≡ fold with_moved no_journal c.args.movements.now =
    c.in_ok-hand.ensures.all ∙ ap (λ (s : JournalKept). fold with_moved s c.args.movements.now) c.new-sink.ensures in
    c.finish.ensures ∙ (ap (λ (s : JournalKept). s.lines) took ∙ journal-kept c.args.movements.now c.in_ok-hand.ensures.countable)

pub returns-clause-covered : goal.returns-clause-covered
returns-clause-covered c = λ firm same sound.
    let took : c.hand.new.sink ≡ fold with_moved no_journal c.args.movements.now =
    c.in_ok-hand.ensures.all ∙ ap (λ (s : JournalKept). fold with_moved s c.args.movements.now) c.new-sink.ensures in
    let lines = c.finish.ensures ∙ (ap (λ (s : JournalKept). s.lines) took ∙ journal-kept c.args.movements.now c.in_ok-hand.ensures.countable) in
    subst (AllByRecursion (λ l. pos 0 ≤ℤ l.sum)) (sym lines) (subst (λ vs. AllByRecursion (λ l. pos 0 ≤ℤ l.sum) (journal_of vs)) same (c.lists_agree.ensures firm sound).covered)

pub returns-clause-total : goal.returns-clause-total
returns-clause-total c = λ firm same sound.
    let took : c.hand.new.sink ≡ fold with_moved no_journal c.args.movements.now =
    c.in_ok-hand.ensures.all ∙ ap (λ (s : JournalKept). fold with_moved s c.args.movements.now) c.new-sink.ensures in
    let lines = c.finish.ensures ∙ (ap (λ (s : JournalKept). s.lines) took ∙ journal-kept c.args.movements.now c.in_ok-hand.ensures.countable) in
    ap (last_sum (pos 0)) lines ∙ subst (λ vs. last_sum (pos 0) (journal_of vs) ≡ trial_total firm) same (c.lists_agree.ensures firm sound).total
